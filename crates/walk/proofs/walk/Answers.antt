use mathlib.Core.Path.{sym, ◌∙◌}
use native.Mathlib.Omega.{arith}
use lib.Pow.{pow_pos}
use Rattle.games.specs.Words.{game}
use Rattle.tables.proofs.Bounds.{few_states}
use Rattle.walk.proofs.Walks.{walking_none, walking_more, walking_end, walking_blocked, next_below, next_less, next_counted}
use Rattle.walk.proofs.walk.Goals as goal

pub nonzero_rem-rest : goal.nonzero_rem-rest
nonzero_rem-rest c = omega (arith, c.single.ensures, pow_pos c.states.result)

pub loop-rest-init : goal.loop-rest-init
loop-rest-init c = rw (c.single.ensures, c.states.ensures) (walking_none (game c.args.table.words.now) c.args.a.0 c.args.s (few_states _ c.args.table.sized))

pub move_from-requires : goal.move_from-requires
move_from-requires c = (c.requires, next_below _ _ _ _ _ _ c.loop-rest.invariant c.loop-rest-test.true)

pub overflow_add-result : goal.overflow_add-result
overflow_add-result c = omega (arith, next_counted _ _ _ _ _ _ c.loop-rest.invariant c.loop-rest-test.true)

pub returns-in_default : goal.returns-in_default
returns-in_default c = walking_blocked _ _ _ _ _ _ c.loop-rest.invariant c.loop-rest-test.true (sym c.move_from.ensures ∙ c.in_default.is)

pub overflow_add-looked : goal.overflow_add-looked
overflow_add-looked c = omega (arith, next_counted _ _ _ _ _ _ c.loop-rest.invariant c.loop-rest-test.true)

pub loop-rest-smaller : goal.loop-rest-smaller
loop-rest-smaller c = next_less _ _ _ _ _ _ c.loop-rest.invariant c.loop-rest-test.true

pub loop-rest-preserved : goal.loop-rest-preserved
loop-rest-preserved c = walking_more _ _ _ _ _ _ c.loop-rest.invariant c.loop-rest-test.true c.in-Some.v (sym c.move_from.ensures ∙ c.in-Some.is)

pub returns : goal.returns
returns c = walking_end _ _ _ _ _ _ c.loop-rest.invariant c.loop-rest-test.false
