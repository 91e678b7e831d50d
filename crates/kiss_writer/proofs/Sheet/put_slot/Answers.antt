-- `kiss_writer::Sheet::put_slot` meets its contract: no line, or that of the cell entered.
use mathlib.Core.Path.{refl, sym, ◌∙◌}
use native.Mathlib.Omega.{arith}
use Rattle.cards.proofs.Running.{led_none}
use Rattle.text.proofs.Writing.{puts_none}
use Rattle.kiss_writer.proofs.Lines.{narrow, slot_none, slot_written, cell_entered, entered_cell, cells_few, observations_few, action_few}
use Rattle.kiss_writer.proofs.Sheet.put_slot.Goals as goal

pub put_line-requires : goal.put_line-requires
put_line-requires c =
    let e = cell_entered c.args.self.card.words.now _ _ _ c.entered.ensures _ c.in-Some.is in
    let cell = entered_cell c.args.self.card.words.now c.args.self.card.checked _ _ _ c.requires.0 c.requires.1 e.0 e.1 in (
      narrow c.args.self.card.words.now c.args.self.card.checked _ c.args.self.wide,
      omega (arith, c.requires.0, cells_few c.args.self.card.words.now c.args.self.card.checked),
      omega (arith, c.requires.1, observations_few c.args.self.card.words.now c.args.self.card.checked),
      omega (arith, cell, cells_few c.args.self.card.words.now c.args.self.card.checked),
      action_few c.args.self.card.words.now c.args.self.card.checked _ _ cell c.cell_action-action.ensures,
      c.requires.2,
    )

pub returns-in_default : goal.returns-in_default
returns-in_default c = (
  rw (slot_none c.args.self.card.words.now _ _ _ refl (led_none _ (sym c.entered.ensures ∙ c.in_default.is))) puts_none,
  omega arith,
)

pub returns-in-Some : goal.returns-in-Some
returns-in-Some c =
    let e = cell_entered c.args.self.card.words.now _ _ _ c.entered.ensures _ c.in-Some.is in (
      rw (← (slot_written c.args.self.card.words.now _ _ _ e.0 e.1 _ c.args.self.wide _ c.cell_action-action.ensures))
          c.put_line.ensures.0,
      c.put_line.ensures.1,
    )
