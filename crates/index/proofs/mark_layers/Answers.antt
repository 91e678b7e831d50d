use mathlib.Core.Path.{refl}
use Prim.Native.Nat.{ℕ}
use native.Mathlib.Omega.{arith}
use lib.ListN.{get_or}
use Rattle.families.proofs.Lanes.{shift_one}
use Rattle.games.proofs.Holding.{count_few}
use Rattle.index.proofs.Sizes.{by_ones}
use Rattle.index.proofs.Marking.{layered_none, layered_at}
use Rattle.index.proofs.mark_layers.Goals as goal

pub loop-s-init : goal.loop-s-init
loop-s-init c = layered_none c.args.cells.now c.args.layers.now c.requires.1

pub loop-s-preserved : goal.loop-s-preserved
loop-s-preserved c =
    let s : ℕ = get_or c.args.cells.now c.loop-s.s-index 0 in
    let small = c.requires.0 c.loop-s.s-index c.loop-s-test.true in
    layered_at c.args.cells.now c.loop-s.s-index c.loop-s.layers c.loop-s.invariant s refl (omega (arith, count_few s)) _ _ (by_ones s small) (shift_one 64 _ (omega (arith, small)))
