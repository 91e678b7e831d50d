-- The first word leads to a cell of the card, or to none, and is judged by it.
use Rattle.std.proofs.Common.{sym, ◌∙◌, arith}
use Rattle.games.specs.Verdict.{start_sets}
use Rattle.cards.proofs.Running.{begins_led}
use Rattle.pairs.proofs.Pairing.{paired}
use Rattle.certificates.proofs.Judged.{first_told}
use Rattle.certificates.proofs.first_holds.Goals as goal

pub start_set-requires : goal.start_set-requires
unfolding start_sets
start_set-requires c = let p = paired _ _ c.args.pair.checked in omega arith

pub lie-requires : goal.lie-requires
lie-requires c = begins_led _ c.args.pair.card.checked _ _ (omega arith) c.first_cell.ensures

pub returns : goal.returns
returns c = c.lie.ensures ∙ sym (first_told _ _ _ _ _ c.start_set.ensures c.first_cell.ensures)
