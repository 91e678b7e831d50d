-- `kiss_writer::put_digits` meets its contract.
use Rattle.std.proofs.Common.{length, ap, arith}
use Rattle.kiss_writer.proofs.Numbers.{digits_long}
use Rattle.kiss_writer.proofs.put_digits.Goals as goal

pub put_bytes-requires : goal.put_bytes-requires
put_bytes-requires g c = omega (arith, ap length c.digits.ensures, digits_long g.row.BASE g.row.WIDTH c.args.x, c.requires.place)

pub returns : goal.returns
returns g c = (
  rw (← c.digits.ensures) c.put_bytes.ensures,
  omega (arith, c.put_bytes.ensures.wrote.next, ap length c.digits.ensures, digits_long g.row.BASE g.row.WIDTH c.args.x),
)
