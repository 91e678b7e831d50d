use native.Mathlib.Omega.{arith}
use Rattle.tables.proofs.Bounds.{few_states}
use Rattle.moves.proofs.Halving.{halving_none, halving_more, halving_room}
use Rattle.moves.proofs.fill_half.Goals as goal

pub loop-i-init : goal.loop-i-init
loop-i-init c = halving_none _ c.args.count c.args.half.now c.requires.1

pub overflow_add-first : goal.overflow_add-first
overflow_add-first c = omega (arith, c.requires.0.states, few_states c.args.table.words.now c.args.table.sized)

pub double-requires : goal.double-requires
double-requires c = halving_room _ c.args.count c.loop-i.i c.loop-i.size c.loop-i.half c.loop-i.invariant c.loop-i-test.true c.requires.0.few

pub loop-i-preserved : goal.loop-i-preserved
loop-i-preserved c =
    halving_more _ c.args.count c.loop-i.i c.loop-i.size c.mark.result c.loop-i.half c.double.new.half
    c.loop-i-test.true c.mark.ensures c.loop-i.invariant c.double.ensures
