-- `families::insert` meets its contract: before each turn the masks so far are in.
use mathlib.Core.Path.{◌≡◌}
use Prim.Native.Nat.{ℕ}
use lib.ListN.{length, take}
use Rattle.sets.specs.Family.{listed}
use Rattle.families.specs.Bits.{has}
use Rattle.families.proofs.insert.Given as goal

abbrev pub invariant-loop-mask : goal.invariant-loop-mask
invariant-loop-mask l = (length l.bits ≡ length l.initial.bits) × ((s : ℕ) → has l.bits s ≡ listed (take l.mask-index l.list) s)
