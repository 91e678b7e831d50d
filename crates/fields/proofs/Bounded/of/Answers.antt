-- The check of the slots tells that the numbers are within the limits.
use mathlib.Core.Path.{sym, ◌∙◌}
use Rattle.fields.proofs.Laws.{slots_limited}
use Rattle.fields.proofs.Bounded.of.Goals as goal

pub invariant_of-result : goal.invariant_of-result
invariant_of-result c = record { limited = slots_limited _ (sym c.check_slots.ensures ∙ c.in_ok-check_slots.was) }
