-- `kiss_writer::put_line` meets its contract: the pieces are written one behind the other.
use native.Mathlib.Omega.{arith}
use Rattle.text.proofs.Writing.{puts_then}
use Rattle.kiss_writer.specs.Lines.{line_of}
use Rattle.kiss_writer.proofs.put_line.Goals as goal

pub returns : goal.returns
unfolding line_of
returns c = (
  puts_then (puts_then (puts_then (puts_then c.put_line_front.ensures.0 c.put_cell.ensures.0) c.put.ensures) c.put_bits.ensures.0) c.put-2.ensures,
  omega (arith, c.put_line_front.ensures.1, c.put_cell.ensures.1, c.put.ensures.wrote.next, c.put_bits.ensures.1, c.put-2.ensures.wrote.next),
)
