-- `printout::put_field` meets its contract: a space, then the digits or the sign.
use native.Mathlib.Omega.{arith}
use Rattle.text.proofs.Writing.{puts_then}
use Rattle.printout.specs.Lines.{field}
use Rattle.printout.proofs.put_field.Goals as goal

pub returns-in-Number : goal.returns-in-Number
unfolding field
returns-in-Number c = (
  rw c.in-Number.is (puts_then c.put.ensures c.put_decimal.ensures.0),
  omega (arith, c.put.ensures.wrote.next, c.put_decimal.ensures.1),
)
