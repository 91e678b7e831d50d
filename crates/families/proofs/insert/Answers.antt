use borrow.Author.Rules.{rules}
use native.Mathlib.Omega.{arith}
use Rattle.families.proofs.Lanes.{shift_one}
use Rattle.families.proofs.Inserting.{mask_lane, insert_more}
use Rattle.families.proofs.insert.Goals as goal

pub loop-mask-preserved : goal.loop-mask-preserved
loop-mask-preserved c = (
  search rules,
  insert_more c.args.list.now c.loop-mask.bits c.loop-mask.mask-index _ (shift_one 64 _ (omega arith)) c.loop-mask-test.true
      (omega (arith, mask_lane c.args.n c.args.list.now c.args.bits.now c.requires.0 c.loop-mask.mask-index c.loop-mask-test.true)) c.loop-mask.invariant.1,
)
