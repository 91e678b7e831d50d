-- `each_set` is safe and ends: a table has few states.
use native.Mathlib.Omega.{arith}
use Rattle.tables.proofs.Bounds.{few_states}
use Rattle.walk_vectors.proofs.each_set.Goals as goal

pub single-s-end-requires : goal.single-s-end-requires
single-s-end-requires g c = omega (arith, c.states.ensures, few_states c.args.table.words.now c.args.table.sized)
