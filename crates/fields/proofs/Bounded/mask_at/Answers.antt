-- `Bounded::mask_at` meets its contract: the field of what stands there; its slot exists, because the table has it.
use mathlib.Core.Path.{sym, ◌∙◌}
use native.Mathlib.Omega.{arith}
use Rattle.tables.proofs.Bounds.{length_short}
use Rattle.tables.specs.Fields.{fields_shape}
use Rattle.fields.proofs.Laws.{shown_slot, move_slot}
use Rattle.fields.proofs.Bounded.mask_at.Goals as goal

pub place_at-requires : goal.place_at-requires
place_at-requires c =
    let short = length_short (fields_shape c.args.self.fields) c.args.self.limited in
    rw c.shape.ensures (omega (arith, short, c))

pub bounds-f-seen : goal.bounds-f-seen
bounds-f-seen c = shown_slot c.args.self.fields c.args.self.limited _ c.requires.0 c.requires.1 _ c.shape.ensures _ (sym c.place_at.ensures ∙ c.in-Shown.is)

pub overflow_mul-result : goal.overflow_mul-result
overflow_mul-result c =
    omega (arith, move_slot c.args.self.fields c.args.self.limited _ c.requires.0 c.requires.1 _ c.shape.ensures _ _ (sym c.place_at.ensures ∙ c.in-Move.is))

pub overflow_add-result : goal.overflow_add-result
overflow_add-result c =
    omega (arith, move_slot c.args.self.fields c.args.self.limited _ c.requires.0 c.requires.1 _ c.shape.ensures _ _ (sym c.place_at.ensures ∙ c.in-Move.is))

pub bounds-f-a : goal.bounds-f-a
bounds-f-a c = move_slot c.args.self.fields c.args.self.limited _ c.requires.0 c.requires.1 _ c.shape.ensures _ _ (sym c.place_at.ensures ∙ c.in-Move.is)
