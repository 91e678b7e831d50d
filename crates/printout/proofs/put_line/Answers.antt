use native.Mathlib.Omega.{arith}
use lib.Seq.{take_all}
use Rattle.text.proofs.Writing.{puts_then}
use Rattle.printout.proofs.Texts.{fields_more}
use Rattle.printout.proofs.put_line.Goals as goal

pub loop-field-preserved : goal.loop-field-preserved
loop-field-preserved c = (
  fields_more _ _ _ _ c.loop-field-test.true c.loop-field.invariant.0 c.put_field.ensures.0,
  omega (arith, c.loop-field.invariant.1, c.put_field.ensures.1),
)

pub returns : goal.returns
returns c = (
  puts_then (rw (take_all _ c.args.fields.now c.loop-field-test.false) at c.loop-field.invariant.0) c.put.ensures,
  omega (arith, c.requires, c.loop-field.invariant.1, c.put.ensures.wrote.next, c.loop-field.auto.field-index-end),
)
