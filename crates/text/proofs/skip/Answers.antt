use Rattle.std.proofs.Common.{◌≡◌, sym, ◌∙◌, ap}
use native.Mathlib.Omega.{arith}
use native.Mathlib.Nat.{add_assoc}
use borrow.Author.Tests.{not-true, not-false}
use lib.ListN.{length}
use Rattle.text.specs.Read.{skipped}
use Rattle.text.proofs.Readers.{matched_end, matched_wrong, matched_next, byte_of, byte_of_is, byte_same, byte_other}
use Rattle.text.proofs.skip.Goals as goal

pub returns-then-ne : goal.returns-then-ne
unfolding skipped
returns-then-ne c =
    let small = c.type_inv.s c.loop-i.i in
    let is = ap byte_of c.copied.ensures ∙ byte_of_is c.get.result ∙ c.get.ensures.lookup.4 (omega arith) 256 in
    sym (c.loop-i.invariant.1 ∙ matched_wrong _ _ _ _ c.loop-i-test.true (omega (arith, small)) (λ e. byte_other _ _ (omega (arith, small)) (not-true _ (sym c.ne.ensures ∙ c.if-ne.true)) (is ∙ e)))

pub loop-i-preserved : goal.loop-i-preserved
loop-i-preserved c =
    let small = c.type_inv.s c.loop-i.i in
    let is = ap byte_of c.copied.ensures ∙ byte_of_is c.get.result ∙ c.get.ensures.lookup.4 (omega arith) 256 in
    let next = matched_next _ _ _ _ c.loop-i-test.true (omega (arith, small)) (sym is ∙ byte_same _ _ (not-false _ (sym c.ne.ensures ∙ c.if-ne.false))) in
    (omega (arith, next.0), rw (← (add_assoc c.args.at c.loop-i.i 1)) (c.loop-i.invariant.1 ∙ next.1))

pub returns : goal.returns
unfolding skipped
returns c =
    let e : c.loop-i.i ≡ length c.args.s.now = omega arith in
    rw (← e) (sym (c.loop-i.invariant.1 ∙ matched_end _ c.args.text.now _ _ c.loop-i-test.false))
