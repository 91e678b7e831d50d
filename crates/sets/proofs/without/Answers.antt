-- `sets::without` meets its contract: a set that has i is at least the set of i alone.
use mathlib.Core.Path.{sym}
use Rattle.sets.proofs.Mask.{single_le, without_member, without_other}
use Rattle.sets.proofs.without.Goals as goal

pub overflow_sub-result : goal.overflow_sub-result
overflow_sub-result c = rw c.single.ensures (single_le c.args.s c.args.i (cc))

pub returns-then-member : goal.returns-then-member
returns-then-member c = rw c.single.ensures (sym (without_member c.args.s c.args.i (cc)))

pub returns-else-member : goal.returns-else-member
returns-else-member c = sym (without_other c.args.s c.args.i (cc))
