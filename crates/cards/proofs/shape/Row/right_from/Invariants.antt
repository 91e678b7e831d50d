-- Invariant: the words for the observations below j are right; those below the number given are at the start.
use Rattle.games.specs.Kinds.{kind_number}
use Rattle.cards.specs.Card.{card_observations}
use Rattle.cards.specs.Checking.{names, Pass}
use Rattle.cards.proofs.shape.Row.right_from.Given as goal

abbrev pub invariant-loop-j : goal.invariant-loop-j
invariant-loop-j l = Pass (names l.self.draft.words.now (kind_number l.self.kind) l.self.at) (card_observations l.self.draft.words.now) l.j
