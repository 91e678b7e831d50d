-- A number passes, or it is the count.
use Rattle.std.proofs.Common.{◌≡◌, sym, ◌∙◌, arith}
use Rattle.cards.proofs.Passing.{pass_none, pass_more, pass_end}
use Rattle.certificates.proofs.passes.Goals as goal

pub loop-i-init : goal.loop-i-init
loop-i-init g c = λ said h. pass_none _ _

pub returns-then-not-test : goal.returns-then-not-test
returns-then-not-test g c = λ said h. pass_end _ _ _ (c.loop-i.invariant said h) (λ l. sym (h _ _ c.loop-i-test.true c.test.ensures) ∙ c.if-not-test.true)

pub loop-i-preserved : goal.loop-i-preserved
loop-i-preserved g c = λ said h. pass_more _ _ _ (c.loop-i.invariant said h) (omega arith) (sym (h _ _ c.loop-i-test.true c.test.ensures) ∙ c.if-not-test.false)

pub returns : goal.returns
returns g c = λ said h. let e : c.loop-i.i ≡ c.args.n = omega arith in rw e at (pass_end _ _ _ (c.loop-i.invariant said h) (λ l. absurd (omega arith)))
