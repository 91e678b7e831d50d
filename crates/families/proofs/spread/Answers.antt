use native.Mathlib.Omega.{arith}
use Rattle.families.proofs.Closing.{spreading_more}
use Rattle.families.proofs.spread.Goals as goal

pub loop-lane-preserved : goal.loop-lane-preserved
loop-lane-preserved c = spreading_more _ _ _ _ _ c.loop-lane.invariant (omega arith) c.requires c.own_or_larger.ensures
