use mathlib.Core.Path.{ap, ◌∙◌}
use Prim.Native.Nat.{ℕ, ◌+◌}
use native.Mathlib.Omega.{arith}
use Rattle.families.proofs.Words.{lane_count, lane_room, lane_written, sets_written}
use Rattle.families.proofs.write.Goals as goal

pub loop-lane-preserved : goal.loop-lane-preserved
loop-lane-preserved c = (
  omega (arith, lane_room c.args.bits.now c.loop-lane.lane c.loop-lane.k c.loop-lane.invariant.1 c.loop-lane-test.true, c.requires.1, c.unpack-k.ensures.0),
  ap (λ (x : ℕ). c.loop-lane.k + x) c.unpack-k.ensures.0 ∙ lane_count c.args.bits.now c.loop-lane.lane c.loop-lane.k c.loop-lane.invariant.1,
  lane_written c.args.bits.now c.loop-lane.lane c.loop-lane.k c.loop-lane.invariant.1 c.args.out.now c.loop-lane.out c.unpack-k.new.out c.unpack-k.result (omega arith) c.loop-lane.invariant.2
      c.unpack-k.ensures.0 c.unpack-k.ensures.1,
)

pub returns : goal.returns
returns c = sets_written c.args.bits.now c.args.out.now c.loop-lane.lane c.loop-lane.k c.loop-lane.out (omega arith) c.loop-lane.invariant.1 c.loop-lane.invariant.2
