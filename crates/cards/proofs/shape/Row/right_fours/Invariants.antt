-- Invariant: the words below the next four are right.
use Rattle.std.proofs.Common.{◌*◌}
use Rattle.games.specs.Kinds.{kind_number}
use Rattle.cards.specs.Card.{card_observations}
use Rattle.cards.specs.Checking.{names, Pass}
use Rattle.cards.proofs.shape.Row.right_fours.Given as goal

abbrev pub invariant-loop-k : goal.invariant-loop-k
invariant-loop-k l = Pass (names l.self.draft.words.now (kind_number l.self.kind) l.self.at) (card_observations l.self.draft.words.now) (4 * l.k)
