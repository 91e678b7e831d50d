-- The first word names a cell, or none.
use Rattle.std.proofs.Common.{◌∙◌, arith}
use Rattle.cards.proofs.Running.{begins_led, begun_led}
use Rattle.cards.proofs.words.Card.start.Goals as goal

pub entered-requires : goal.entered-requires
entered-requires c = begins_led _ c.args.self.checked _ _ (omega arith) c.first_cell.ensures

pub returns : goal.returns
returns c = c.entered.ensures ∙ begun_led _ _ _ (omega arith) c.first_cell.ensures
