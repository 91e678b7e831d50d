use mathlib.Core.Path.{◌≡◌, sym, ◌∙◌}
use native.Mathlib.Omega.{arith}
use Rattle.sets.proofs.Bounded.{all_zero, all_more, all_refuted}
use Rattle.sets.proofs.Logic.{and_intro}
use Rattle.sets.proofs.all.Goals as goal

pub loop-i-init : goal.loop-i-init
loop-i-init g c = λ said h. all_zero said

pub returns-then-not-test : goal.returns-then-not-test
returns-then-not-test g c = λ said h. sym (all_refuted c.args.n said c.loop-i.i c.loop-i-test.true (sym (h _ _ c.loop-i-test.true c.test.ensures) ∙ c.if-not-test.true))

pub loop-i-preserved : goal.loop-i-preserved
loop-i-preserved g c = λ said h. all_more c.loop-i.i said ∙ and_intro (c.loop-i.invariant said h) (sym (h _ _ c.loop-i-test.true c.test.ensures) ∙ c.if-not-test.false)

pub returns : goal.returns
returns g c = λ said h. let e : c.loop-i.i ≡ c.args.n = omega arith in sym (rw e at (c.loop-i.invariant said h))
