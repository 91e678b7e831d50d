-- `sets::any` meets its contract. The loop's invariant: none of the numbers below i passes.
use mathlib.Core.Path.{◌≡◌}
use mathlib.Core.Bool.{Bool, false}
use Prim.Native.Nat.{ℕ}
use Rattle.sets.specs.Bounded.{any as is_any}
use Rattle.sets.specs.Calls.{Answers}
use Rattle.sets.proofs.any.Given as goal

abbrev pub invariant-loop-i : goal.invariant-loop-i
invariant-loop-i g l = (said : ℕ → Bool) → Answers (goal.F-post g l.test) l.n said → is_any l.i said ≡ false
