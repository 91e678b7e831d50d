-- `kiss_writer::Sheet::put_head` meets its contract: the pieces are written one behind the other.
use Prim.Native.Nat.{◌+◌}
use mathlib.Core.Path.{refl}
use native.Mathlib.Omega.{arith}
use Rattle.text.proofs.Writing.{puts_then}
use Rattle.kiss_writer.specs.Lines.{head_of}
use Rattle.kiss_writer.proofs.Lines.{head_is, narrow}
use Rattle.kiss_writer.proofs.Sheet.put_head.Goals as goal

pub put_digits-requires-clause-first : goal.put_digits-requires-clause-first
put_digits-requires-clause-first c = omega (arith, (narrow _ c.args.self.card.checked _ c.args.self.wide).outputs)

pub returns : goal.returns
unfolding head_of
returns c = (
  rw (← (head_is c.args.self.card.words.now _ _ (c.cells.result + 1) _ refl refl (omega (arith, c.cells.ensures)) c.args.self.wide))
      (puts_then (puts_then (puts_then (puts_then (puts_then c.put_head_front.ensures.0 c.put_bytes.ensures) c.put_digits.ensures.0)
      c.put_bytes-2.ensures) c.put_digits-2.ensures.0) c.put_bytes-3.ensures),
  omega (
    arith,
    c.put_head_front.ensures.1,
    c.put_bytes.ensures.wrote.next,
    c.put_digits.ensures.1,
    c.put_bytes-2.ensures.wrote.next,
    c.put_digits-2.ensures.1,
    c.put_bytes-3.ensures.wrote.next,
  ),
)
