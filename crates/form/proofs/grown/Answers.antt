-- `form::grown` meets its contract.
use Rattle.std.proofs.Common.{arith}
use Rattle.form.proofs.Steps.{past_digit}
use Rattle.form.proofs.Bytes.{unfit, grown_by}
use Rattle.form.proofs.grown.Goals as goal

pub returns-in_err-b : goal.returns-in_err-b
returns-in_err-b c = rw (c.from_residual.ensures, c.in_err-b.was) (past_digit _ _ _ _ _ _ (omega arith) (omega (arith, c.args.n.decimal_down)))

pub returns-in_err-x : goal.returns-in_err-x
returns-in_err-x c = rw (c.from_residual-in_err-x.ensures, c.in_ok-b.was) (unfit _ _ _ _ _ _ c.in_err-x.ensures)

pub returns : goal.returns
returns c = rw (c.then_some.ensures, c.in_ok-b.was) (grown_by _ _ _ _ _ _ _ c.in_ok-x.ensures.0 c.in_ok-x.ensures.1)
