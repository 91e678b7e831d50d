use mathlib.Core.Path.{sym, ap}
use native.Mathlib.Omega.{arith}
use Rattle.families.proofs.Lanes.{shift_one}
use Rattle.families.proofs.Words.{taken_lt}
use Rattle.index.specs.Index.{told}
use Rattle.index.proofs.Layering.{lane_here, mask_there, size_small, looking_more, hit_lowest, looking_end}
use Rattle.index.proofs.Cells.in_layer.Goals as goal

pub overflow_add-size : goal.overflow_add-size
overflow_add-size c = omega (arith, size_small c.args.self.tops.now c.args.lanes c.args.above c.args.k c.loop-rest.rest c.loop-rest.invariant c.loop-rest-test.true c.requires)

pub bounds-self-lane : goal.bounds-self-lane
bounds-self-lane c = lane_here _ _ _ _ _ c.loop-rest.invariant c.loop-rest-test.true c.requires

pub bounds-self-size : goal.bounds-self-size
bounds-self-size c =
    omega (arith, c.args.self.indexed.searched.masked.size, mask_there c.args.self.tops.now c.args.lanes c.args.above c.args.k c.loop-rest.rest c.loop-rest.invariant c.loop-rest-test.true c.requires)

pub returns-then-hit-ne0 : goal.returns-then-hit-ne0
returns-then-hit-ne0 c =
    ap told (sym (hit_lowest _ _ _ _ _ c.loop-rest.invariant c.loop-rest-test.true c.requires c.args.self.masks.now c.args.self.indexed.searched.masked c.ranges.above.fits c.if-hit-ne0.true))

pub loop-rest-preserved : goal.loop-rest-preserved
loop-rest-preserved c =
    looking_more _ _ _ _ _ c.loop-rest.invariant c.loop-rest-test.true c.requires c.args.self.masks.now c.args.self.indexed.searched.masked c.if-hit-ne0.false _
    (shift_one 64 _ (taken_lt c.loop-rest.rest c.loop-rest.invariant.small c.loop-rest-test.true))

pub returns : goal.returns
returns c = ap told (sym (looking_end _ _ _ _ _ c.loop-rest.invariant c.loop-rest-test.false))
