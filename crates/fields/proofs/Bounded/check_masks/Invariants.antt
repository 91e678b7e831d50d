-- `Bounded::check_masks` meets its contract: before each turn no mask so far is too wide.
use mathlib.Core.Path.{◌≡◌}
use Rattle.sets.specs.Bounded.{first, nothing}
use Rattle.fields.specs.Write.{wide_at}
use Rattle.fields.proofs.Bounded.check_masks.Given as goal

abbrev pub invariant-loop-p : goal.invariant-loop-p
invariant-loop-p l = first l.p (wide_at l.self.fields) ≡ nothing
