use Prim.Native.Nat.{◌<◌}
use native.Mathlib.Omega.{arith}
use Rattle.games.specs.Format.{max_actions}
use Rattle.games.specs.Words.{game}
use Rattle.tables.proofs.Bounds.{few_actions}
use Rattle.moves.proofs.Halving.{sided_more}
use Rattle.moves.proofs.fill_side.Goals as goal

pub slice_bounds-fill_half-end : goal.slice_bounds-fill_half-end
slice_bounds-fill_half-end c = omega (arith, few_actions c.args.table.words.now c.args.table.sized, c.actions-a-end.ensures, c.loop-a-test.true, c.loop-a.invariant.size)

pub loop-a-preserved : goal.loop-a-preserved
loop-a-preserved c =
    let few : c.loop-a.a < max_actions = omega (arith, few_actions c.args.table.words.now c.args.table.sized, c.actions-a-end.ensures, c.loop-a-test.true) in
    sided_more (game c.args.table.words.now) c.args.first c.args.count c.loop-a.a c.loop-a.side c.fill_half.new.half few c.requires.2 c.loop-a.invariant c.fill_half.ensures
