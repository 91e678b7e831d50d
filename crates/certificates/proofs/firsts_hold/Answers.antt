-- The test of each first word.
use Rattle.std.proofs.Common.{rules}
use Rattle.games.specs.Words.{game}
use Rattle.cards.specs.Card.{automaton}
use Rattle.certificates.specs.Certificate.{first_holds}
use Rattle.certificates.proofs.firsts_hold.Goals as goal

pub returns : goal.returns
returns c =
    rw (c.observations.ensures) at (c.passes.ensures (first_holds (game c.args.pair.table.table.words.now) (automaton c.args.pair.card.words.now)) (λ i r l p. search rules))
