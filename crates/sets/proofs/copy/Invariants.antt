-- `sets::copy` meets its contract. The loop's invariant: the first i values are copied, the others stand.
use mathlib.Core.Path.{◌≡◌}
use lib.ListN.{length, take, drop}
use Rattle.sets.proofs.copy.Given as goal

abbrev pub invariant-loop-i : goal.invariant-loop-i
invariant-loop-i g l = (length l.out ≡ length l.initial.out) × (take l.i l.out ≡ take l.i l.from) × (drop l.i l.out ≡ drop l.i l.initial.out)
