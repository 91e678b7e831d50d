-- `kiss_writer::digits` meets its contract: before each turn so many digits are made.
use Rattle.kiss_writer.proofs.Numbers.{Partly}
use Rattle.kiss_writer.proofs.digits.Given as goal

abbrev pub invariant-loop-byte : goal.invariant-loop-byte
invariant-loop-byte g l = Partly g.row.BASE g.row.WIDTH l.x l.byte-index l.unit l.rest l.byte-items
