-- `fields::check_slots` meets its contract: the moves of numbers within the limits are few.
use mathlib.Core.Path.{sym, ap, ◌∙◌}
use native.Mathlib.Omega.{arith}
use Rattle.tables.specs.Check.{limits_hold}
use Rattle.fields.proofs.Laws.{few_moves}
use Rattle.fields.proofs.check_slots.Goals as goal

pub overflow_mul-f : goal.overflow_mul-f
overflow_mul-f c = omega (arith, few_moves c.args.f (ap limits_hold (sym c.shape.ensures) ∙ sym c.limits_hold.ensures ∙ c.if-not-limits_hold.false))
