use mathlib.Core.Path.{refl}
use Rattle.printout.specs.Lines.{front_text}
use Rattle.printout.proofs.Texts.{below_none, below_more, below_all}
use Rattle.printout.proofs.put_front.Goals as goal

pub loop-j-init : goal.loop-j-init
loop-j-init c = below_none _ _

pub loop-j-preserved : goal.loop-j-preserved
loop-j-preserved c = below_more _ _ _ c.loop-j.invariant refl c.put_first.ensures

pub returns : goal.returns
unfolding front_text
returns c = below_all _ _ _ c.loop-j.invariant _ _ c.observations-j-end.ensures c.loop-j.auto.j-end c.loop-j-test.false
