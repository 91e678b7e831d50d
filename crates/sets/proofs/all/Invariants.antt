-- `sets::all` meets its contract. The loop's invariant: each of the numbers below i passes.
use mathlib.Core.Path.{◌≡◌}
use mathlib.Core.Bool.{Bool, true}
use Prim.Native.Nat.{ℕ}
use Rattle.sets.specs.Bounded.{all as is_all}
use Rattle.sets.specs.Calls.{Answers}
use Rattle.sets.proofs.all.Given as goal

abbrev pub invariant-loop-i : goal.invariant-loop-i
invariant-loop-i g l = (said : ℕ → Bool) → Answers (goal.F-post g l.test) l.n said → is_all l.i said ≡ true
