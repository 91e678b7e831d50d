-- `text::Writer::put_decimal` meets its contract: the digits before the last are written, then the last.
use borrow.Author.Rules.{rules}
use native.Mathlib.Omega.{arith}
use Rattle.text.proofs.Writing.{puts_then}
use Rattle.text.proofs.Decimals.{decimal_small, decimal_large, decimal_nineteen}
use Rattle.text.proofs.Writer.+put_decimal.Goals as goal

pub returns-then-n-lt10 : goal.returns-then-n-lt10
returns-then-n-lt10 t c = (rw (decimal_small c.args.n c.if-n-lt10.true) c.put.ensures, search rules)

pub put-requires-2 : goal.put-requires-2
put-requires-2 t c = omega (arith, c.put_decimal.ensures.0.wrote.next, decimal_nineteen c.args.n c.ranges.n.fits)

pub returns : goal.returns
returns t c = (
  rw (decimal_large c.args.n c.if-n-lt10.false) (puts_then c.put_decimal.ensures.0 c.put-2.ensures),
  omega (arith, c.put_decimal.ensures.0.wrote.next, c.put-2.ensures.wrote.next, decimal_nineteen c.args.n c.ranges.n.fits),
)
