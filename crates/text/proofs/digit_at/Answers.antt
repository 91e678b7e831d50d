-- `text::digit_at` meets its contract: one law for each answer.
use mathlib.Core.Path.{sym}
use native.Mathlib.Omega.{arith}
use Rattle.text.specs.Decimal.{digit_at}
use Rattle.text.proofs.Decimals.{digit_low, digit_high, digit_is, digit_past}
use Rattle.text.proofs.digit_at.Goals as goal

pub returns-in_err-b-clause-none : goal.returns-in_err-b-clause-none
returns-in_err-b-clause-none c = rw c.from_residual.ensures (omega (arith, digit_past c.args.text.now c.args.i c.in_err-b.ensures.lookup.3))

pub returns-in-48-to-57-clause-some : goal.returns-in-48-to-57-clause-some
unfolding digit_at
returns-in-48-to-57-clause-some c = (rw (← (c.in_ok-b.ensures.lookup.3.1 0)) (sym (digit_is c.in_ok-b.field-0.now (omega arith) (omega arith))), omega arith)

pub returns-in_default-clause-none : goal.returns-in_default-clause-none
unfolding digit_at
returns-in_default-clause-none c = rw (← (c.in_ok-b.ensures.lookup.3.1 0), digit_low c.in_ok-b.field-0.now (omega arith)) (omega arith)

pub returns-in_default-2-clause-none : goal.returns-in_default-2-clause-none
unfolding digit_at
returns-in_default-2-clause-none c = rw (← (c.in_ok-b.ensures.lookup.3.1 0), digit_high c.in_ok-b.field-0.now (omega arith)) (omega arith)
