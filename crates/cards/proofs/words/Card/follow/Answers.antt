-- A late cell or observation is 12; else the next word names a cell, or none.
use Rattle.std.proofs.Common.{◌∙◌, arith}
use Rattle.cards.proofs.Running.{outside_told, late_told, next_led, followed_led}
use Rattle.cards.proofs.words.Card.follow.Goals as goal

pub returns-then-cells-cell : goal.returns-then-cells-cell
returns-then-cells-cell c =
    rw c.at.ensures
    (outside_told _ _ _ (omega arith))

pub returns-then-observations-seen : goal.returns-then-observations-seen
returns-then-observations-seen c =
    rw c.at-then-observations-seen.ensures
    (late_told _ _ _ (omega arith) (omega arith))

pub entered-requires : goal.entered-requires
entered-requires c = next_led _ c.args.self.checked _ _ _ (omega arith) (omega arith) c.next_cell.ensures

pub returns : goal.returns
returns c = c.entered.ensures ∙ followed_led _ _ _ (omega arith) _ (omega arith) c.next_cell.ensures
