-- `families::write` meets its contract: before each turn the sets of the lanes below `lane` stand in front.
use mathlib.Core.Path.{◌≡◌}
use mathlib.Core.List.{◌++◌}
use Prim.Native.Nat.{◌*◌, ◌≤◌}
use lib.ListN.{length, drop}
use Rattle.sets.specs.Bounded.{count, select}
use Rattle.families.specs.Bits.{lane_sets, has}
use Rattle.families.proofs.write.Given as goal

abbrev pub invariant-loop-lane : goal.invariant-loop-lane
invariant-loop-lane l = (l.k ≤ length l.initial.out) × (l.k ≡ count (l.lane * lane_sets) (has l.bits)) × (l.out ≡ select (l.lane * lane_sets) (has l.bits) ++ drop l.k l.initial.out)
