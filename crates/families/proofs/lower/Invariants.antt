-- `families::lower` meets its contract: before each turn the subsets that differ below i alone are in.
use mathlib.Core.Path.{◌≡◌}
use Prim.Native.Nat.{ℕ, ◌<◌}
use Rattle.sets.specs.Mask.{member}
use Rattle.families.specs.Bits.{lane_sets}
use Rattle.families.proofs.Lowering.{reached}
use Rattle.families.proofs.lower.Given as goal

abbrev pub invariant-loop-i : goal.invariant-loop-i
invariant-loop-i l = (t : ℕ) → t < lane_sets → member l.all t ≡ reached l.word l.i t
