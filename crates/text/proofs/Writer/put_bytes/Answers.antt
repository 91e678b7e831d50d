use mathlib.Core.Path.{refl}
use Rattle.text.proofs.Writing.{puts_more, part_wrote}
use Rattle.text.proofs.Writer.put_bytes.Goals as goal

pub loop-b-preserved : goal.loop-b-preserved
loop-b-preserved c = puts_more _ _ c.loop-b-test.true c.loop-b.invariant c.put.ensures

pub returns : goal.returns
returns c = record { buffer = refl; wrote = part_wrote c.args.s.now c.args.self.now.out.now _ c.args.self.now.at c.if-self-end.false c.copy.ensures }
