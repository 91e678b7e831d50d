use mathlib.Core.Path.{◌≡◌, sym, ◌∙◌, subst}
use mathlib.Core.List.{List}
use Prim.Native.Nat.{ℕ, ◌≤◌}
use native.Mathlib.Omega.{arith}
use lib.ListN.{length, take, length-set}
use lib.Seq.{length-take-le}
use Rattle.games.specs.Format.{max_states}
use Rattle.games.specs.Game.{Game}
use Rattle.games.specs.Words.{game}
use Rattle.tables.proofs.Bounds.{few_states, few_actions}
use Rattle.search.proofs.First.{ByAction, actions_more, actions_front, actions_below, first_bits}
use Rattle.search.proofs.first_family.Goals as goal

pub bounds-masks-a : goal.bounds-masks-a
bounds-masks-a c = omega (arith, c.actions-actions.ensures, few_actions c.args.table.words.now c.args.table.sized)

pub loop-a-preserved : goal.loop-a-preserved
loop-a-preserved c = (length-set c.loop-a.masks c.loop-a.a c.enabled_states.result ∙ c.loop-a.invariant.0, actions_more (game c.args.table.words.now) c.loop-a.masks c.loop-a.a c.enabled_states.result (omega (arith, c.loop-a.invariant.0, few_actions c.args.table.words.now c.args.table.sized, c.actions-actions.ensures)) c.enabled_states.ensures c.loop-a.invariant.1)

pub slice_bounds-masks-end : goal.slice_bounds-masks-end
slice_bounds-masks-end c = omega (arith, c.loop-a.invariant.0, few_actions c.args.table.words.now c.args.table.sized, c.actions-actions.ensures)

pub slice_bounds-below-end : goal.slice_bounds-below-end
slice_bounds-below-end c = sym (length-take-le _ _ (omega (arith, c.loop-a.invariant.0, few_actions c.args.table.words.now c.args.table.sized, c.actions-actions.ensures)))

pub below-requires : goal.below-requires
below-requires c =
    let played : Game = game c.args.table.words.now in
    let masks_of : List ℕ = take c.actions-actions.result c.loop-a.masks in
    let front : (length masks_of ≡ played.actions) × ByAction played played.actions masks_of = let g = played in
    let e : c.loop-a.a ≡ g.actions = omega arith in (
      length-take-le _ _ (omega (arith, c.loop-a.invariant.0, few_actions c.args.table.words.now c.args.table.sized, c.actions-actions.ensures)) ∙ c.actions-actions.ensures,
      subst (λ (n : ℕ). ByAction g g.actions (take n c.loop-a.masks)) (sym c.actions-actions.ensures) (actions_front g c.loop-a.masks (rw e at c.loop-a.invariant.1)),
    ) in
    let f = front in
    record {
      states = subst (λ (m : ℕ). m ≤ max_states) (sym c.states.ensures) (few_states c.args.table.words.now c.args.table.sized);
      masks = λ s m. rw c.states.ensures (actions_below (game c.args.table.words.now) _ f.0 f.1 s m);
      size = rw c.states.ensures c.requires;
    }

pub returns : goal.returns
returns c =
    let played : Game = game c.args.table.words.now in
    let masks_of : List ℕ = take c.actions-actions.result c.loop-a.masks in
    let front : (length masks_of ≡ played.actions) × ByAction played played.actions masks_of = let g = played in
    let e : c.loop-a.a ≡ g.actions = omega arith in (
      length-take-le _ _ (omega (arith, c.loop-a.invariant.0, few_actions c.args.table.words.now c.args.table.sized, c.actions-actions.ensures)) ∙ c.actions-actions.ensures,
      subst (λ (n : ℕ). ByAction g g.actions (take n c.loop-a.masks)) (sym c.actions-actions.ensures) (actions_front g c.loop-a.masks (rw e at c.loop-a.invariant.1)),
    ) in
    let f = front in
    first_bits (game c.args.table.words.now) _ f.0 f.1 _ (rw c.states.ensures at c.below.ensures)
