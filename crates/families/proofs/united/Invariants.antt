-- `families::united` meets its contract: before each turn the words below i are united.
use mathlib.Core.Path.{◌≡◌}
use mathlib.Core.Bool.{Bool}
use Prim.Native.Nat.{ℕ}
use Rattle.sets.specs.Mask.{member}
use Rattle.sets.specs.Bounded.{any}
use Rattle.families.specs.Bits.{Tells}
use Rattle.families.proofs.united.Given as goal

abbrev pub invariant-loop-i : goal.invariant-loop-i
invariant-loop-i g l = (t : ℕ) (test : ℕ → Bool) → Tells (goal.F-post g l.word) l.n t test → member l.all t ≡ any l.i test
