use native.Mathlib.Omega.{arith}
use Rattle.games.specs.Words.{game}
use Rattle.tables.proofs.Bounds.{few_states}
use Rattle.search.proofs.First.{states_hit, states_skip}
use Rattle.search.proofs.enabled_states.Goals as goal
use Rattle.search.proofs.enabled_states.Goals.{then-safely_enabled, else-safely_enabled}

pub single-mask-requires : goal.single-mask-requires
single-mask-requires c = omega (arith, few_states c.args.table.words.now c.args.table.sized)

pub loop-i-preserved : goal.loop-i-preserved
loop-i-preserved c =
    let g = game c.args.table.words.now in
    elim c.if-safely_enabled.branch [
      | then-safely_enabled w ↦ rw (w.mask-is, w.single-mask.ensures) (states_hit g c.args.a.0 c.loop-i.i c.loop-i.mask c.loop-i.invariant (cc))
      | else-safely_enabled w ↦ rw w.mask-is (states_skip g c.args.a.0 c.loop-i.i c.loop-i.mask c.loop-i.invariant (cc))
    ]
