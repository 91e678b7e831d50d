use mathlib.Core.Path.{◌≡◌, refl, sym, ap, ◌∙◌, subst}
use Prim.Native.Nat.{ℕ, ◌+◌, ◌≤◌, ◌<◌}
use native.Mathlib.Nat.{le_antisymm}
use native.Mathlib.Omega.{arith}
use lib.ListN.{set, length-set}
use Rattle.sets.specs.Mask.{common}
use Rattle.sets.proofs.Bounded.{first_zero, all_zero, all_more}
use Rattle.sets.proofs.Logic.{and_intro}
use Rattle.families.specs.Bits.{sets}
use Rattle.families.proofs.Lanes.{lane_there}
use Rattle.games.specs.Format.{low_values, max_actions, max_observations, kind_cell}
use Rattle.games.specs.Fields.{word}
use Rattle.games.specs.Words.{game}
use Rattle.games.specs.Verdict.{settled}
use Rattle.games.proofs.Holding.{holding_small}
use Rattle.tables.proofs.Checks.{accepted}
use Rattle.tables.proofs.Bounds.{few_observations, few_actions, few_sets}
use Rattle.cards.proofs.Parts.{filled_none, filled_more, filled_end}
use Rattle.writing.proofs.Choosing.{none_next, none_with, chosen_is, never_none, blocked_fails, uncovered_fails, covered_meets, after_is, part_below, part_lost, part_named, next_word, next_word_lem, set_words_lem}
use Rattle.writing.proofs.Settled.write_cell.Goals as goal

pub actions-init : goal.actions-init
actions-init c = (
  record {
    observations_are = c.observations-o.ensures;
    observations_few = subst (λ (n : ℕ). n ≤ max_observations) (sym c.observations-o.ensures) (few_observations c.args.self.moves.accepted.table.words.now c.args.self.moves.accepted.table.sized);
    actions_are = c.actions-a-end.ensures;
    actions_few = subst (λ (n : ℕ). n ≤ max_actions) (sym c.actions-a-end.ensures) (few_actions c.args.self.moves.accepted.table.words.now c.args.self.moves.accepted.table.sized);
    within = omega arith;
    size = c.requires.2 ∙ ap (λ (n : ℕ). 1 + n) (sym c.observations-o.ensures);
    none = first_zero _;
  },
  refl,
  c.requires.0,
)

pub actions-preserved-in_default : goal.actions-preserved-in_default
actions-preserved-in_default c =
    let g = game c.args.self.moves.accepted.table.words.now in (
      none_next g c.args.s c.observations-o.result c.actions-a-end.result c.actions.a c.actions.out c.actions.invariant.0
          (blocked_fails g c.args.s c.actions.a c.post.result c.post.ensures c.in_default.is) (omega arith),
      c.actions.invariant.1,
      c.actions.invariant.2,
    )

pub loop-j-init : goal.loop-j-init
loop-j-init c = (
  refl,
  all_zero _,
  c.actions.invariant.0,
  filled_none c.observations-o.result (next_word (game c.args.self.moves.accepted.table.words.now) (sets c.args.self.cells.tops.now) c.in-Some.u) c.actions.out c.actions.invariant.0.size,
  refl,
  c.actions.invariant.2,
)

pub loop-holder-init : goal.loop-holder-init
loop-holder-init c = (refl, refl, c.loop-j.invariant.5)

pub holding-requires : goal.holding-requires
holding-requires c =
    let g = game c.args.self.moves.accepted.table.words.now in
    let there : c.loop-j.j < g.observations = omega (arith, c.loop-j-test.true, c.actions.invariant.0.observations_are) in
    let below = part_below g (accepted c.args.self.moves.accepted.table.words.now c.args.self.moves.accepted.checked) (sets c.args.self.cells.tops.now) c.args.self.listed.are c.in-Some.u c.shown.result c.loop-j.j there c.shown.ensures in
    (c.loop-holder.invariant.2, rw c.args.self.listed.wide (lane_there g.states _ below), rw c.args.self.listed.all_sets below)

pub actions-preserved : goal.actions-preserved
actions-preserved c =
    let g = game c.args.self.moves.accepted.table.words.now in
    let l = sets c.args.self.cells.tops.now in
    let there : c.loop-j.j < g.observations = omega (arith, c.loop-j-test.true, c.actions.invariant.0.observations_are) in
    let lost = part_lost g (accepted c.args.self.moves.accepted.table.words.now c.args.self.moves.accepted.checked) l c.args.self.listed.are c.in-Some.u c.shown.result c.loop-j.j there c.shown.ensures c.holding.result c.holding.ensures.0 c.in_default-holding.is in (
      none_next g c.args.s c.observations-o.result c.actions-a-end.result c.actions.a c.loop-j.out c.loop-j.invariant.2
          (uncovered_fails g c.args.s c.actions.a c.post.result c.post.ensures c.in-Some.u c.in-Some.is c.loop-j.j there lost)
          (omega (arith, c.actions-test.true)),
      c.holding.auto.work ∙ c.loop-holder.invariant.1 ∙ c.loop-j.invariant.4 ∙ c.actions.invariant.1,
      c.holding.ensures.1,
    )

pub kind_naming-requires : goal.kind_naming-requires
kind_naming-requires c =
    let g = game c.args.self.moves.accepted.table.words.now in
    let l = sets c.args.self.cells.tops.now in
    let there : c.loop-j.j < g.observations = omega (arith, c.loop-j-test.true, c.actions.invariant.0.observations_are) in
    let named = part_named g (accepted c.args.self.moves.accepted.table.words.now c.args.self.moves.accepted.checked) l c.args.self.listed.are c.in-Some.u c.shown.result c.loop-j.j there c.shown.ensures c.holding.result c.holding.ensures.0 c.in-Some-holding.holder c.in-Some-holding.is in
    (subst (λ (x : ℕ). x < low_values) (sym named.1) (holding_small _ _ c.args.self.cells.indexed.cells_few), omega (arith, there, c.actions.invariant.0.observations_are, c.actions.invariant.0.observations_few))

pub loop-j-preserved : goal.loop-j-preserved
loop-j-preserved c =
    let g = game c.args.self.moves.accepted.table.words.now in
    let l = sets c.args.self.cells.tops.now in
    let there : c.loop-j.j < g.observations = omega (arith, c.loop-j-test.true, c.actions.invariant.0.observations_are) in
    let named = part_named g (accepted c.args.self.moves.accepted.table.words.now c.args.self.moves.accepted.checked) l c.args.self.listed.are c.in-Some.u c.shown.result c.loop-j.j there c.shown.ensures c.holding.result c.holding.ensures.0 c.in-Some-holding.holder c.in-Some-holding.is in (
      c.loop-holder.invariant.0 ∙ c.loop-j.invariant.0,
      all_more c.loop-j.j (λ i. settled g (common c.in-Some.u (g.shown i))) ∙ and_intro c.loop-j.invariant.1 named.0,
      none_with g c.args.s c.observations-o.result c.actions-a-end.result c.actions.a c.loop-j.out c.loop-j.invariant.2 (set c.loop-j.out (1 + c.loop-j.j) c.kind_naming.result) (length-set c.loop-j.out (1 + c.loop-j.j) c.kind_naming.result ∙ c.loop-j.invariant.2.size),
      filled_more c.observations-o.result (next_word g l c.in-Some.u) c.loop-j.j c.loop-j.out c.kind_naming.result c.loop-j-test.true
          (next_word_lem g l c.in-Some.u c.loop-j.j c.kind_naming.result _ c.shown.result _ c.kind_naming.ensures named.1 refl c.shown.ensures) c.loop-j.invariant.3,
      c.holding.auto.work ∙ c.loop-holder.invariant.1 ∙ c.loop-j.invariant.4,
      c.holding.ensures.1,
    )

pub picking-requires : goal.picking-requires
picking-requires c = (omega (arith, c.requires.1.below, few_sets c.args.self.moves.accepted.table.words.now c.args.self.moves.accepted.table.sized), omega (arith, c.loop-j.invariant.0, c.actions-test.true, c.actions.invariant.0.actions_few))

pub returns-in-actions : goal.returns-in-actions
returns-in-actions c =
    let g = game c.args.self.moves.accepted.table.words.now in
    let l = sets c.args.self.cells.tops.now in
    let u = c.in-Some.u in
    let e : c.loop-j.j ≡ g.observations = le_antisymm c.loop-j.auto.j-end c.loop-j-test.false ∙ c.actions.invariant.0.observations_are in
    let m = covered_meets g c.args.s c.actions.a c.post.result c.post.ensures u c.in-Some.is (rw e at c.loop-j.invariant.1) in (
      filled_end c.observations-o.result (next_word g l u) c.loop-j.j c.loop-j.out c.picking.result c.loop-j-test.false c.loop-j.auto.j-end c.loop-j.invariant.3
          ∙ set_words_lem g l c.args.self.listed.are c.args.s c.actions.a u c.observations-o.result c.picking.result c.actions.invariant.0.observations_are
          (chosen_is g c.args.s c.observations-o.result c.actions-a-end.result c.actions.a c.loop-j.out c.loop-j.invariant.2 c.actions-test.true m)
          (after_is g c.args.s c.actions.a c.post.result c.post.ensures u c.in-Some.is) (c.picking.ensures ∙ ap (word kind_cell c.args.s 0) c.loop-j.invariant.0),
      c.loop-j.invariant.5,
    )

pub returns : goal.returns
returns c =
    let g = game c.args.self.moves.accepted.table.words.now in
    absurd (never_none g c.args.s c.observations-o.result c.actions-a-end.result c.actions.a c.actions.out c.actions.invariant.0 (accepted c.args.self.moves.accepted.table.words.now c.args.self.moves.accepted.checked) c.requires.1 c.actions-test.false)
