use mathlib.Core.Path.{◌∙◌}
use native.Mathlib.Omega.{arith}
use lib.ListN.{length-set}
use Rattle.index.proofs.Noting.{read_below, noting_more, noting_end}
use Rattle.index.proofs.note_cells.Goals as goal

pub bounds-work-base : goal.bounds-work-base
bounds-work-base c =
    omega (
      arith,
      read_below c.args.tops.now c.args.base c.loop-c.c c.loop-c.work c.loop-c.invariant.1 (omega (arith, c.loop-c-test.true, c.write-count.ensures.0)) c.requires.few c.requires.below,
      c.loop-c.invariant.1.room,
    )

pub loop-c-preserved : goal.loop-c-preserved
loop-c-preserved c = (
  length-set c.loop-c.work _ _ ∙ c.loop-c.invariant.0,
  noting_more c.args.tops.now c.args.base c.loop-c.c c.loop-c.work c.loop-c.invariant.1 (omega (arith, c.loop-c-test.true, c.write-count.ensures.0)) c.requires.few c.requires.below,
)

pub returns : goal.returns
returns c = (c.write-count.ensures.0, noting_end c.args.tops.now c.args.base c.loop-c.c c.loop-c.work c.loop-c.invariant.1 (omega (arith, c.loop-c-test.false, c.write-count.ensures.0)) c.requires.few_lanes c.requires.few c.requires.below)
