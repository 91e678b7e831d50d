use native.Mathlib.Omega.{arith}
use Rattle.families.proofs.Mapping.{mapping_by}
use Rattle.families.proofs.Maximal.{Tops, tops_of}
use Rattle.families.proofs.maximal_bits.Goals as goal

pub loop-lane-preserved : goal.loop-lane-preserved
loop-lane-preserved c =
    mapping_by (Tops c.args.n c.args.bits.now) c.args.bits.now c.loop-lane.found c.loop-lane.lane c.loop-lane.invariant (omega arith) _
    c.keep_tops.ensures.size c.keep_tops.ensures.kept (tops_of c.args.n c.args.bits.now c.loop-lane.found _ c.loop-lane.lane c.requires.0 c.loop-lane.invariant.kept c.keep_tops.ensures)
