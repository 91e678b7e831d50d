-- The next word leads to a cell of the card, or to none, and is judged by it.
use Rattle.std.proofs.Common.{sym, ap, ◌∙◌, arith}
use Rattle.sets.specs.Mask.{common}
use Rattle.cards.proofs.Running.{next_led}
use Rattle.pairs.proofs.Pairing.{paired}
use Rattle.certificates.proofs.Judged.{next_told}
use Rattle.certificates.proofs.Judge.next_holds.Goals as goal

pub shown-requires : goal.shown-requires
shown-requires c = let p = paired _ _ c.args.self.pair.checked in omega arith

pub lie-requires : goal.lie-requires
lie-requires c = next_led _ c.args.self.pair.card.checked _ _ _ c.requires.0 (omega arith) c.next_cell.ensures

pub returns : goal.returns
returns c =
    c.lie.ensures
    ∙ sym (next_told _ _ _ _ _ _ c.args.u c.requires.2 (c.common-after.ensures ∙ ap (common c.args.u) c.shown.ensures) c.next_cell.ensures)
