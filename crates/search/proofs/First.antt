-- Good for one round: the subsets of the states, not bad, in which an action is enabled.
-- Assumes nothing.
use mathlib.Core.Path.{◌≡◌, refl, sym, ap, ◌∙◌, subst}
use mathlib.Core.List.{List, Memᴰ}
use mathlib.Core.Bool.{Bool, true, false, not, ◌&&◌, ◌||◌, or-false}
use Prim.Native.Nat.{ℕ, ◌+◌, ◌^◌, ◌<◌}
use native.Mathlib.Nat.{le_refl, lt_of_lt_of_le}
use native.Mathlib.Omega.{arith}
use lib.ListN.{length, get_or, set, take}
use lib.Seq.{get_or-set_same, get_or-set_other, get_or-take}
use lib.Pow.{pow_mono, pow-lt}
use borrow.Author.Count.{below_more}
use borrow.Author.Tests.{eq-eqb, not-true}
use Rattle.sets.specs.Mask.{member, union, common}
use Rattle.sets.specs.Family.{holds}
use Rattle.sets.proofs.Logic.{or_right, and_left, and_right, and_intro, false_not, same_truth}
use Rattle.sets.proofs.Mask.{member_beyond, member_or, member_single, member_single_other, union_lt, subset_member, subset_intro, common_zero_intro}
use Rattle.sets.proofs.Family.{at_mem, mem_at, holds_found, holds_intro}
use Rattle.families.specs.Bits.{Bits}
use Rattle.games.specs.Game.{Game, enabled}
use Rattle.games.specs.Step.{safe, good}
use Rattle.games.proofs.Steps.{safe_at, enabled_at_is, enabled_intro, meets_intro, meets_enabled, step_safe, step_action, step_intro}
use Rattle.search.specs.Stages.{safely_enabled, EnabledStates}

module _ (g : Game) (a : ℕ) where
  module _ (i mask : ℕ) (w : EnabledStates g a i mask) where
    narrow : mask < 2 ^ (i + 1)
    narrow = lt_of_lt_of_le w.below (pow_mono (omega arith))

    pub states_hit : true ≡ safely_enabled g a i → EnabledStates g a (i + 1) (union mask (2 ^ i))
    states_hit h =
        record {
          below = union_lt (i + 1) mask (2 ^ i) narrow (pow-lt (omega arith));
          at =
              below_more (λ j. member (union mask (2 ^ i)) j ≡ safely_enabled g a j) i
              (λ j l. member_or mask (2 ^ i) j ∙ ap (λ (b : Bool). member mask j || b) (member_single_other i j (λ e. absurd (omega (arith, e)))) ∙ or-false (member mask j) ∙ w.at j l)
              (member_or mask (2 ^ i) i ∙ or_right (member mask i) (member_single i) ∙ h);
        }

    pub states_skip : false ≡ safely_enabled g a i → EnabledStates g a (i + 1) mask
    states_skip h =
        record {
          below = narrow;
          at = below_more (λ j. member mask j ≡ safely_enabled g a j) i w.at (member_beyond i mask i w.below (le_refl i) ∙ h);
        }

-- ---- the list of these states, by action

-- the first places of the list are the states of the actions below the bound
abbrev pub ByAction : Game → ℕ → List ℕ → Type 0
ByAction g bound masks = (a : ℕ) → a < bound → EnabledStates g a g.states (get_or masks a 0)

pub actions_more : (g : Game) (masks : List ℕ) (a mask : ℕ) → a < length masks → EnabledStates g a g.states mask → ByAction g a masks → ByAction g (a + 1) (set masks a mask)
actions_more g masks a mask l w h =
    below_more (λ b. EnabledStates g b g.states (get_or (set masks a mask) b 0)) a
    (λ b m. subst (EnabledStates g b g.states) (sym (get_or-set_other masks a b mask 0 (λ q. absurd (omega (arith, q))))) (h b m))
    (subst (EnabledStates g a g.states) (sym (get_or-set_same masks a mask 0 l)) w)

-- they are those of the front
pub actions_front : (g : Game) (masks : List ℕ) → ByAction g g.actions masks → ByAction g g.actions (take g.actions masks)
actions_front g masks w a l = subst (EnabledStates g a g.states) (sym (get_or-take g.actions masks a 0 l)) (w a l)

module _ (g : Game) (masks : List ℕ) (size : length masks ≡ g.actions) (w : ByAction g g.actions masks) where
  -- a set of the list is an action's
  by_action : (s : ℕ) → Memᴰ s masks → (a : ℕ) × (a < g.actions) × EnabledStates g a g.states s
  by_action s m =
      let f = mem_at masks s m in
      let l : f.0 < g.actions = subst (λ (k : ℕ). f.0 < k) size f.1 in
      (f.0, l, subst (EnabledStates g f.0 g.states) f.2 (w f.0 l))

  pub actions_below : (s : ℕ) → Memᴰ s masks → s < 2 ^ g.states
  actions_below s m = (by_action s m).2.below

  member_enabled : (a i t : ℕ) → EnabledStates g a g.states t → i < g.states → member t i ≡ true → (enabled g i a ≡ true) × (member g.bad i ≡ false)
  unfolding safely_enabled
  member_enabled a i t o l m =
      let b : (enabled g i a && not (member g.bad i)) ≡ true = sym (o.at i l) ∙ m in
      (and_left (enabled g i a) (not (member g.bad i)) b, not-true (member g.bad i) (and_right (enabled g i a) (not (member g.bad i)) b))

  -- a subset of an action's states is good for one round
  held_good : (s : ℕ) → s < 2 ^ g.states → holds masks s ≡ true → good g 1 s ≡ true
  unfolding good safe
  held_good s l h =
      let f = holds_found masks s h in
      let t = f.0 in
      let b = by_action t f.1 in
      let enabled_there : (i : ℕ) → i < g.states → member s i ≡ true → (enabled g i b.0 ≡ true) × (member g.bad i ≡ false) = λ i k m. member_enabled b.0 i t b.2 k (subset_member s t f.2 i m) in
      step_intro g (good g 0) s b.0
      (eq-eqb (common s g.bad) 0 (common_zero_intro g.states s g.bad l (λ i k m. (enabled_there i k m).1)))
      b.1
      (meets_intro g (good g 0) s b.0 (enabled_intro g s b.0 (λ i k m. (enabled_there i k m).0)) (λ o k. refl))

  -- and the other way round
  good_held : (s : ℕ) → s < 2 ^ g.states → good g 1 s ≡ true → holds masks s ≡ true
  unfolding good safely_enabled
  good_held s l h =
      let f = step_action g (good g 0) s h in
      let a = f.0 in
      let here : a < length masks = subst (λ (k : ℕ). a < k) (sym size) f.1 in
      holds_intro masks s (get_or masks a 0) (at_mem masks a here)
      (subset_intro g.states s (get_or masks a 0) l
      (λ i k m. (w a f.1).at i k
      ∙ and_intro (enabled_at_is g s a (meets_enabled g (good g 0) s a f.2) i k m) (false_not (safe_at g s (step_safe g (good g 0) s h) i m))))

  pub first_bits : (bits : List ℕ) → Bits g.states (holds masks) bits → Bits g.states (good g 1) bits
  first_bits bits v =
      record {
        size = v.size;
        at = λ s l. v.at s l ∙ same_truth (holds masks s) (good g 1 s) (held_good s l) (good_held s l);
        within = v.within;
      }
