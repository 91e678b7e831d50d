use mathlib.Core.Path.{◌≡◌}
use Prim.Native.Nat.{◌-◌}
use native.Mathlib.Omega.{arith}
use Rattle.games.specs.Words.{game}
use Rattle.search.proofs.Turns.{table_lanes}
use Rattle.search.proofs.Passes.{covered_sound, passing_more, passing_end}
use Rattle.search.proofs.Round.pass.Goals as goal

pub overflow_cast-lane : goal.overflow_cast-lane
overflow_cast-lane c = omega (arith, c.args.self.stage.size, table_lanes c.args.self.moves.accepted.table.words.now c.args.self.moves.accepted.table.sized)

pub pass_lane-requires : goal.pass_lane-requires
pass_lane-requires c = (omega arith, covered_sound (game c.args.self.moves.accepted.table.words.now) c.args.self.family.now c.args.self.stage c.loop-lane.next c.loop-lane.lane (c.loop-lane.lane - 1) (omega arith) c.loop-lane.invariant c.larger-covered.result (omega arith) (λ t l. c.larger-covered.ensures t))

pub loop-lane-preserved : goal.loop-lane-preserved
loop-lane-preserved c = passing_more (game c.args.self.moves.accepted.table.words.now) c.args.self.family.now c.args.self.stage c.loop-lane.next c.loop-lane.lane (c.loop-lane.lane - 1) (omega arith) c.loop-lane.invariant (omega arith) c.pass_lane.result c.pass_lane.ensures

pub returns : goal.returns
returns c =
    let e : c.loop-lane.lane ≡ 0 = omega arith in
    passing_end (game c.args.self.moves.accepted.table.words.now) c.args.self.family.now c.args.self.stage c.loop-lane.next (rw e at c.loop-lane.invariant)
