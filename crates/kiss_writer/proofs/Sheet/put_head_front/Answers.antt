-- `kiss_writer::Sheet::put_head_front` meets its contract: the pieces are written one behind the other.
use native.Mathlib.Omega.{arith}
use Rattle.text.proofs.Writing.{puts_then}
use Rattle.kiss_writer.specs.Lines.{head_front}
use Rattle.kiss_writer.proofs.Lines.{narrow}
use Rattle.kiss_writer.proofs.Sheet.put_head_front.Goals as goal

pub put_digits-requires-3-clause-first : goal.put_digits-requires-3-clause-first
put_digits-requires-3-clause-first c = omega (arith, (narrow _ c.args.self.card.checked _ c.args.self.wide).inputs)

pub returns : goal.returns
unfolding head_front
returns c = (
  rw (← c.actions.ensures, ← c.observations.ensures)
      (puts_then (puts_then (puts_then (puts_then (puts_then c.put_bytes.ensures c.put_digits.ensures.0) c.put_bytes-2.ensures)
      c.put_digits-2.ensures.0) c.put_bytes-3.ensures) c.put_digits-3.ensures.0),
  omega (
    arith,
    c.put_bytes.ensures.wrote.next,
    c.put_digits.ensures.1,
    c.put_bytes-2.ensures.wrote.next,
    c.put_digits-2.ensures.1,
    c.put_bytes-3.ensures.wrote.next,
    c.put_digits-3.ensures.1,
  ),
)
