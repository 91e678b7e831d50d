use mathlib.Core.Path.{◌≡◌, sym, ◌∙◌}
use native.Mathlib.Omega.{arith}
use Rattle.sets.proofs.Bounded.{any_zero, any_more, any_intro}
use Rattle.sets.proofs.Logic.{or_false_intro}
use Rattle.sets.proofs.any.Goals as goal

pub loop-i-init : goal.loop-i-init
loop-i-init g c = λ said h. any_zero said

pub returns-then-test : goal.returns-then-test
returns-then-test g c = λ said h. sym (any_intro c.args.n said c.loop-i.i c.loop-i-test.true (sym (h _ _ c.loop-i-test.true c.test.ensures) ∙ c.if-test.true))

pub loop-i-preserved : goal.loop-i-preserved
loop-i-preserved g c = λ said h. any_more c.loop-i.i said ∙ or_false_intro (c.loop-i.invariant said h) (sym (h _ _ c.loop-i-test.true c.test.ensures) ∙ c.if-test.false)

pub returns : goal.returns
returns g c = λ said h. let e : c.loop-i.i ≡ c.args.n = omega arith in sym (rw e at (c.loop-i.invariant said h))
