-- The test of each next word.
use Rattle.std.proofs.Common.{rules}
use Rattle.games.specs.Words.{game}
use Rattle.cards.specs.Card.{automaton}
use Rattle.certificates.specs.Certificate.{next_holds}
use Rattle.certificates.proofs.Judge.nexts_hold.Goals as goal

pub returns : goal.returns
returns c =
    rw (c.observations.ensures) at (c.passes.ensures (next_holds (game c.args.self.pair.table.table.words.now) (automaton c.args.self.pair.card.words.now) c.args.cell.0) (λ i r l p. search rules))
