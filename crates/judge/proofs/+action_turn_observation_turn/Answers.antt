-- The two turns meet their contracts, by the laws of `Turns`.
use mathlib.Core.Path.{sym, ap, ◌∙◌}
use Prim.Native.Nat.{◌-◌}
use borrow.Author.Rules.{rules}
use Rattle.games.specs.Step.{meets, good}
use Rattle.games.specs.Words.{game}
use Rattle.tables.proofs.Checks.{accepted}
use Rattle.walk.specs.declared.Walked.{Walked}
use Rattle.judge.proofs.Turns.{no_round, empty_good, bad_member, by_actions, good_in, action_blocked, last_round, by_observations}
use Rattle.judge.proofs.+action_turn_observation_turn.Goals as goal

-- ---- the action's turn

pub action_turn-returns-then-k-eq0 : goal.action_turn-returns-then-k-eq0
action_turn-returns-then-k-eq0 t c = no_round (game c.args.accepted.table.words.now) c.args.k c.args.s c.if-k-eq0.true

pub action_turn-returns-then-s-eq0 : goal.action_turn-returns-then-s-eq0
action_turn-returns-then-s-eq0 t c =
    empty_good (game c.args.accepted.table.words.now) (accepted c.args.accepted.table.words.now c.args.accepted.checked) c.args.k c.args.s c.if-s-eq0.true

pub action_turn-returns-then-common-ne0 : goal.action_turn-returns-then-common-ne0
action_turn-returns-then-common-ne0 t c =
    bad_member (game c.args.accepted.table.words.now) c.args.k c.args.s _ _ c.if-k-eq0.false c.bad.ensures c.common.ensures c.if-common-ne0.true

pub action_turn-returns : goal.action_turn-returns
action_turn-returns t c =
    let g = game c.args.accepted.table.words.now in
    by_actions g c.args.k c.args.s _ _ c.if-k-eq0.false c.bad.ensures c.common.ensures c.if-common-ne0.false _ c.actions.ensures
    (c.any.ensures (meets g (good g (c.args.k - 1)) c.args.s) (λ i r l p. search rules))

-- ---- the observation's turn

pub observation_turn-returns-in_default : goal.observation_turn-returns-in_default
observation_turn-returns-in_default t c =
    action_blocked (game c.args.accepted.table.words.now) (good (game c.args.accepted.table.words.now) c.args.k) c.args.s c.args.a.0 c.in_default.field-0 (ap (λ (w : Walked). w.post) (sym c.walk.ensures) ∙ c.in_default.is)

pub observation_turn-returns-then-k-eq0 : goal.observation_turn-returns-then-k-eq0
observation_turn-returns-then-k-eq0 t c =
    last_round (game c.args.accepted.table.words.now) c.args.k c.args.s c.args.a.0 c.in-Ok.u (ap (λ (w : Walked). w.post) (sym c.walk.ensures) ∙ c.in-Ok.is) c.if-k-eq0.true

pub observation_turn-returns : goal.observation_turn-returns
observation_turn-returns t c =
    let g = game c.args.accepted.table.words.now in
    by_observations g c.args.k c.args.s c.args.a.0 c.in-Ok.u (ap (λ (w : Walked). w.post) (sym c.walk.ensures) ∙ c.in-Ok.is) _ c.observations.ensures
    (c.all.ensures (good_in g c.args.k c.in-Ok.u) (λ i r l p. search rules))
