use Rattle.families.proofs.Lanes.{shift_one}
use Rattle.families.proofs.Words.{writing_more, writing_end, taken_lt}
use Rattle.families.proofs.unpack.Goals as goal

pub loop-rest-preserved : goal.loop-rest-preserved
loop-rest-preserved c =
    writing_more _ _ _ _ _ _ c.loop-rest.invariant c.loop-rest-test.true c.requires.0 _ (shift_one 64 _ (taken_lt c.loop-rest.rest c.loop-rest.invariant.small c.loop-rest-test.true))

pub returns : goal.returns
returns c = writing_end _ _ _ _ _ _ c.loop-rest.invariant c.loop-rest-test.false
