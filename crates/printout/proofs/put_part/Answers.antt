use mathlib.Core.Path.{refl}
use native.Mathlib.Omega.{arith}
use Rattle.text.proofs.Writing.{puts_then}
use Rattle.printout.specs.Lines.{part_text}
use Rattle.printout.proofs.Texts.{below_none, below_more, below_all}
use Rattle.printout.proofs.put_part.Goals as goal

pub loop-j-init : goal.loop-j-init
loop-j-init c = below_none _ _

pub loop-j-preserved : goal.loop-j-preserved
loop-j-preserved c = below_more _ _ _ c.loop-j.invariant refl c.put_next.ensures

pub returns : goal.returns
unfolding part_text
returns c =
    let nexts = below_all _ _ _ c.loop-j.invariant _ _ c.observations-j-end.ensures c.loop-j.auto.j-end c.loop-j-test.false in
    (puts_then c.put_own.ensures.0 nexts.0, omega (arith, nexts.1, c.put_own.ensures.1))
