use Prim.Native.Nat.{◌-◌, ◌<◌}
use native.Mathlib.Omega.{arith}
use lib.Count.{count_leading_zeros}
use Rattle.sets.proofs.Mask.{single_le}
use Rattle.families.proofs.Lanes.{shift_one}
use Rattle.games.specs.Words.{game}
use Rattle.search.proofs.Turns.{table_lanes}
use Rattle.search.proofs.Passes.{Highest, highest, trying_none, top_below, hit_less, trying_hit, trying_miss}
use Rattle.search.proofs.Round.pass_lane.Goals as goal

pub loop-left-init : goal.loop-left-init
loop-left-init c = trying_none (game c.args.self.moves.accepted.table.words.now) c.args.self.family.now c.args.self.stage c.args.lane c.args.covered (omega arith) c.requires.1

pub overflow_mul-lane : goal.overflow_mul-lane
overflow_mul-lane c =
    let small : c.args.lane < 64 = omega (arith, c.requires.0, c.args.self.stage.size, table_lanes c.args.self.moves.accepted.table.words.now c.args.self.moves.accepted.table.sized) in
    omega (arith, small)

pub overflow_add-lane : goal.overflow_add-lane
overflow_add-lane c =
    let small : c.args.lane < 64 = omega (arith, c.requires.0, c.args.self.stage.size, table_lanes c.args.self.moves.accepted.table.words.now c.args.self.moves.accepted.table.sized) in
    omega (arith, small)

pub meets_step-requires : goal.meets_step-requires
meets_step-requires c =
    let top : Highest c.loop-left.left (63 - count_leading_zeros 64 c.loop-left.left) = highest c.loop-left.left c.loop-left.invariant.narrow c.loop-left-test.true in
    top_below (game c.args.self.moves.accepted.table.words.now) c.args.self.family.now c.args.self.stage c.args.lane c.loop-left.found c.loop-left.left c.loop-left.invariant _ top

pub loop-left-smaller-then-meets_step : goal.loop-left-smaller-then-meets_step
loop-left-smaller-then-meets_step c =
    let top : Highest c.loop-left.left (63 - count_leading_zeros 64 c.loop-left.left) = highest c.loop-left.left c.loop-left.invariant.narrow c.loop-left-test.true in
    hit_less (game c.args.self.moves.accepted.table.words.now) c.args.self.family.now c.args.self.stage c.args.lane c.loop-left.found c.loop-left.left c.loop-left.invariant _ top c.subsets-below.result (omega arith) c.subsets-below.ensures

pub loop-left-preserved-then-meets_step : goal.loop-left-preserved-then-meets_step
loop-left-preserved-then-meets_step c =
    let top : Highest c.loop-left.left (63 - count_leading_zeros 64 c.loop-left.left) = highest c.loop-left.left c.loop-left.invariant.narrow c.loop-left-test.true in
    trying_hit (game c.args.self.moves.accepted.table.words.now) c.args.self.family.now c.args.self.stage c.args.lane c.loop-left.found c.loop-left.left c.loop-left.invariant _ top c.subsets-below.result (omega arith) c.subsets-below.ensures (cc)

pub overflow_sub-left : goal.overflow_sub-left
overflow_sub-left c =
    let top : Highest c.loop-left.left (63 - count_leading_zeros 64 c.loop-left.left) = highest c.loop-left.left c.loop-left.invariant.narrow c.loop-left-test.true in
    let h = 63 - count_leading_zeros 64 c.loop-left.left in
    rw (shift_one 64 h top.small) (single_le c.loop-left.left h top.here)

pub loop-left-preserved : goal.loop-left-preserved
loop-left-preserved c =
    let top : Highest c.loop-left.left (63 - count_leading_zeros 64 c.loop-left.left) = highest c.loop-left.left c.loop-left.invariant.narrow c.loop-left-test.true in
    let h = 63 - count_leading_zeros 64 c.loop-left.left in
    rw (shift_one 64 h top.small) (trying_miss (game c.args.self.moves.accepted.table.words.now) c.args.self.family.now c.args.self.stage c.args.lane c.loop-left.found c.loop-left.left c.loop-left.invariant h top (cc))
