-- `solver::grant` meets its contract: 9 where the card room is short, else what `write_card` ensures.
use mathlib.Core.Path.{◌≡◌, ap, ◌∙◌}
use Prim.Native.Nat.{ℕ}
use native.Mathlib.Omega.{arith}
use Rattle.games.specs.Words.{game, card_length}
use Rattle.tables.proofs.Bounds.{few_observations}
use Rattle.solver.proofs.Answers.{granted_short, granted_written}
use Rattle.solver.proofs.grant.Goals as goal

pub card_length-need-requires : goal.card_length-need-requires
card_length-need-requires c = (omega (arith, c.args.settled.cells.indexed.cells_few, c.requires.1), omega (arith, c.observations.ensures, few_observations c.args.settled.moves.accepted.table.words.now c.args.settled.moves.accepted.table.sized))

pub returns-then-card-need : goal.returns-then-card-need
returns-then-card-need c =
    let needed : ℕ = card_length c.args.count (game c.args.settled.moves.accepted.table.words.now).observations in
    let need_is : c.card_length-need.result ≡ needed = c.card_length-need.ensures ∙ ap (card_length _) c.observations.ensures in
    rw c.at.ensures (granted_short (game c.args.settled.moves.accepted.table.words.now) c.args.card.now c.args.rounds c.args.count _ need_is c.if-card-need.true)

pub returns : goal.returns
returns c =
    let needed : ℕ = card_length c.args.count (game c.args.settled.moves.accepted.table.words.now).observations in
    let need_is : c.card_length-need.result ≡ needed = c.card_length-need.ensures ∙ ap (card_length _) c.observations.ensures in
    granted_written (game c.args.settled.moves.accepted.table.words.now) c.args.card.now c.args.rounds c.args.count _ need_is c.if-card-need.false c.write_card.new.card c.write_card.ensures
