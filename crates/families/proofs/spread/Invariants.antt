-- `families::spread` meets its contract: before each turn the lanes from `lane` up are done.
use Rattle.families.proofs.Closing.{Spreading}
use Rattle.families.proofs.spread.Given as goal

abbrev pub invariant-loop-lane : goal.invariant-loop-lane
invariant-loop-lane l = Spreading l.initial.bits l.bits l.lane
