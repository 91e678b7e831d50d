use mathlib.Core.Path.{◌≡◌, refl, sym, ◌∙◌}
use native.Mathlib.Omega.{arith}
use lib.ListN.{length}
use Rattle.text.specs.Read.{read_decimal}
use Rattle.text.proofs.Decimals.{digit_within}
use Rattle.text.proofs.Readers.{number_none, number_large, number_first, further_none, further_end, further_misplaced, further_more, well_placed}
use Rattle.text.proofs.read_decimal.Goals as goal

pub returns-in_default-clause-read : goal.returns-in_default-clause-read
unfolding read_decimal
returns-in_default-clause-read c = sym (number_none _ 0 _ _ _ refl c.in_default.ensures.none)

pub returns-then-most-first-clause-read : goal.returns-then-most-first-clause-read
unfolding read_decimal
returns-then-most-first-clause-read c = sym (number_large _ 0 _ _ _ c.in-Some.ensures.some.0 c.in-Some.ensures.some.1 c.if-most-first.true)

pub overflow_step-i : goal.overflow_step-i
overflow_step-i c = omega (arith, digit_within c.args.text.now _ _ c.in-Some.ensures.some.0 c.in-Some.ensures.some.1)

pub loop-i-init : goal.loop-i-init
unfolding read_decimal
loop-i-init c = (c.if-most-first.false, number_first _ 0 _ _ _ c.in-Some.ensures.some.0 c.in-Some.ensures.some.1 c.if-most-first.false)

pub returns-in_default-digit_at-clause-read : goal.returns-in_default-digit_at-clause-read
returns-in_default-digit_at-clause-read c = sym (c.loop-i.invariant.1 ∙ further_none _ _ _ _ _ refl c.in_default-digit_at.ensures.none)

pub returns-then-misplaced-clause-read : goal.returns-then-misplaced-clause-read
returns-then-misplaced-clause-read c =
    sym (c.loop-i.invariant.1 ∙ further_misplaced _ _ _ _ _ c.in-Some-digit_at.ensures.some.0 c.in-Some-digit_at.ensures.some.1 (cc))

pub overflow_mul-v : goal.overflow_mul-v
overflow_mul-v c = omega (arith, (well_placed c.args.most c.loop-i.v c.in-Some-digit_at.d (cc)).1)

pub overflow_add-v : goal.overflow_add-v
overflow_add-v c = omega (arith, (well_placed c.args.most c.loop-i.v c.in-Some-digit_at.d (cc)).1)

pub loop-i-preserved : goal.loop-i-preserved
loop-i-preserved c = (
  (well_placed c.args.most c.loop-i.v c.in-Some-digit_at.d (cc)).1,
  c.loop-i.invariant.1 ∙ further_more _ _ _ _ _ c.in-Some-digit_at.ensures.some.0 c.in-Some-digit_at.ensures.some.1 (cc),
)

pub returns-clause-read : goal.returns-clause-read
returns-clause-read c =
    let e : c.loop-i.i ≡ length c.args.text.now = omega (arith, digit_within c.args.text.now _ _ c.in-Some.ensures.some.0 c.in-Some.ensures.some.1) in
    rw (← e) (sym (c.loop-i.invariant.1 ∙ further_end _ _ c.args.text.now _ c.loop-i-test.false))
