-- Laws of the step on sets: smaller sets and larger families are no worse, and good sets fall with the rounds.
-- The stations stand before the laws, so that a wrong definition is refused first by the station it breaks.
-- Assumes nothing.
use mathlib.Core.Path.{◌≡◌, refl, sym, ap, ◌∙◌}
use mathlib.Core.Bool.{Bool, true, false, not, ◌&&◌, ◌||◌}
use Prim.Native.Nat.{ℕ, zero, suc, ◌^◌, ◌≤◌, ◌<◌}
use native.Mathlib.Decide.{le_ind}
use native.Mathlib.Omega.{arith}
use borrow.Author.Tests.{eq-eqb, eqb-true, eqb-false}
use Rattle.sets.specs.Mask.{member, common, subset, union_over}
use Rattle.sets.specs.Bounded.{all, any}
use Rattle.sets.specs.Family.{Family}
use Rattle.sets.proofs.Logic.{clash, and_left, and_right, and_intro, implies_intro, implies_at, implies_fails}
use Rattle.sets.proofs.Bounded.{all_at, all_intro, all_fails, all_ext, any_found, any_intro, any_ext}
use Rattle.sets.proofs.Mask.{member_and, member_zero, common_lt, subset_member, subset_of, subset_refl, subset_le, subset_common_mono, common_zero, common_witness, union_over_found, union_over_intro, union_over_mono}
use Rattle.games.specs.Game.{Game, Accepted, enabled}
-- this one for the order alone
use Rattle.games.specs.Step.{safe, enabled_at, post, after, meets, step, good}

module _ (g : Game) where
  pub safe_at : (s : ℕ) → safe g s ≡ true → (i : ℕ) → member s i ≡ true → member g.bad i ≡ false
  unfolding safe
  safe_at s h i m = common_zero s g.bad (eqb-true (common s g.bad) 0 h) i m

  pub safe_fails : (s : ℕ) → s < 2 ^ g.states → safe g s ≡ false → (i : ℕ) × (i < g.states) × (member s i ≡ true) × (member g.bad i ≡ true)
  unfolding safe
  safe_fails s l h = common_witness g.states s g.bad l (eqb-false (common s g.bad) 0 h)

  pub enabled_at_is : (s a : ℕ) → enabled_at g s a ≡ true → (i : ℕ) → i < g.states → member s i ≡ true → enabled g i a ≡ true
  unfolding enabled_at
  enabled_at_is s a h i l m = implies_at (member s i) (enabled g i a) (all_at g.states (λ i. not (member s i) || enabled g i a) h i l) m

  pub enabled_intro : (s a : ℕ) → ((i : ℕ) → i < g.states → member s i ≡ true → enabled g i a ≡ true) → enabled_at g s a ≡ true
  unfolding enabled_at
  enabled_intro s a h =
      all_intro g.states (λ i. not (member s i) || enabled g i a) (λ i l. implies_intro (member s i) (enabled g i a) (h i l))

  pub enabled_fails : (s a : ℕ) → enabled_at g s a ≡ false → (i : ℕ) × (i < g.states) × (member s i ≡ true) × (enabled g i a ≡ false)
  unfolding enabled_at
  enabled_fails s a h =
      let w = all_fails g.states (λ i. not (member s i) || enabled g i a) h in
      let f = implies_fails (member s w.0) (enabled g w.0 a) w.2 in
      (w.0, w.1, f.0, f.1)

  -- a member of the successors that show o is a successor of some member, and shows o
  pub after_found : (s a o j : ℕ) → member (after g s a o) j ≡ true → (i : ℕ) × (i < g.states) × (member s i ≡ true) × (member (g.successors a i) j ≡ true)
  unfolding after post
  after_found s a o j h =
      union_over_found g.states s (g.successors a) j
      (and_left (member (union_over g.states s (g.successors a)) j) (member (g.shown o) j)
      (sym (member_and (union_over g.states s (g.successors a)) (g.shown o) j) ∙ h))

  pub after_shown : (s a o j : ℕ) → member (after g s a o) j ≡ true → member (g.shown o) j ≡ true
  unfolding after
  after_shown s a o j h = and_right (member (post g s a) j) (member (g.shown o) j) (sym (member_and (post g s a) (g.shown o) j) ∙ h)

  pub after_intro : (s a o i j : ℕ) → i < g.states → member s i ≡ true → member (g.successors a i) j ≡ true → member (g.shown o) j ≡ true → member (after g s a o) j ≡ true
  unfolding after post
  after_intro s a o i j l m e h =
      member_and (union_over g.states s (g.successors a)) (g.shown o) j
      ∙ and_intro (union_over_intro g.states s (g.successors a) j i l m e) h

  pub after_subset : (s t a o : ℕ) → subset t s ≡ true → subset (after g t a o) (after g s a o) ≡ true
  unfolding after post
  after_subset s t a o h =
      subset_common_mono (post g t a) (post g s a) (g.shown o) (g.shown o)
      (union_over_mono g.states t s (g.successors a) h) (subset_refl (g.shown o))

  pub meets_intro : (F : Family) (s a : ℕ) → enabled_at g s a ≡ true → ((o : ℕ) → o < g.observations → F (after g s a o) ≡ true) → meets g F s a ≡ true
  unfolding meets
  meets_intro F s a e h = and_intro e (all_intro g.observations (λ o. F (after g s a o)) h)

  pub meets_enabled : (F : Family) (s a : ℕ) → meets g F s a ≡ true → enabled_at g s a ≡ true
  unfolding meets
  meets_enabled F s a h = and_left (enabled_at g s a) (all g.observations (λ o. F (after g s a o))) h

  pub meets_after : (F : Family) (s a : ℕ) → meets g F s a ≡ true → (o : ℕ) → o < g.observations → F (after g s a o) ≡ true
  unfolding meets
  meets_after F s a h o l =
      all_at g.observations (λ o. F (after g s a o)) (and_right (enabled_at g s a) (all g.observations (λ o. F (after g s a o))) h) o l

  pub step_safe : (F : Family) (s : ℕ) → step g F s ≡ true → safe g s ≡ true
  unfolding step
  step_safe F s h = and_left (safe g s) (any g.actions (meets g F s)) h

  pub step_action : (F : Family) (s : ℕ) → step g F s ≡ true → (a : ℕ) × (a < g.actions) × (meets g F s a ≡ true)
  unfolding step
  step_action F s h = any_found g.actions (meets g F s) (and_right (safe g s) (any g.actions (meets g F s)) h)

  pub step_intro : (F : Family) (s a : ℕ) → safe g s ≡ true → a < g.actions → meets g F s a ≡ true → step g F s ≡ true
  unfolding step
  step_intro F s a p l m = and_intro p (any_intro g.actions (meets g F s) a l m)

  pub safe_subset : (s t : ℕ) → subset t s ≡ true → safe g s ≡ true → safe g t ≡ true
  unfolding safe
  safe_subset s t h p =
      let e : common s g.bad ≡ 0 = eqb-true (common s g.bad) 0 p in
      let le = subset_le (common t g.bad) (common s g.bad) (subset_common_mono t s g.bad g.bad h (subset_refl g.bad)) in
      eq-eqb (common t g.bad) 0 (omega arith)

  pub enabled_subset : (s t a : ℕ) → subset t s ≡ true → enabled_at g s a ≡ true → enabled_at g t a ≡ true
  enabled_subset s t a h e = enabled_intro t a (λ i l m. enabled_at_is s a e i l (subset_member t s h i m))

  -- one step is as good for a smaller set and a family that has the subsets of the other's sets
  pub step_mono : (F G : Family) → ((s t : ℕ) → subset t s ≡ true → F s ≡ true → G t ≡ true) → (s t : ℕ) → subset t s ≡ true → step g F s ≡ true → step g G t ≡ true
  step_mono F G k s t h p =
      let w = step_action F s p in
      step_intro G t w.0 (safe_subset s t h (step_safe F s p)) w.1
      (meets_intro G t w.0 (enabled_subset s t w.0 h (meets_enabled F s w.0 w.2))
      (λ o l. k (after g s w.0 o) (after g t w.0 o) (after_subset s t w.0 o h) (meets_after F s w.0 w.2 o l)))

  -- a subset of a good set is good
  pub good_subset : (k s t : ℕ) → subset t s ≡ true → good g k s ≡ true → good g k t ≡ true
  unfolding good
  good_subset zero s t h p = refl
  good_subset (suc k) s t h p = step_mono (good g k) (good g k) (good_subset k) s t h p

  -- good for k + 1 implies good for k
  pub good_falls : (k s : ℕ) → good g (suc k) s ≡ true → good g k s ≡ true
  unfolding good
  good_falls zero s p = refl
  good_falls (suc k) s p =
      step_mono (good g (suc k)) (good g k) (λ s t h q. good_subset k s t h (good_falls k s q)) s s (subset_refl s) p

  pub good_fewer : (j k s : ℕ) → j ≤ k → good g k s ≡ true → good g j s ≡ true
  good_fewer j k s l = le_ind (λ (m : ℕ). good g m s ≡ true → good g j s ≡ true) (λ p. p) (λ m h f p. f (good_falls m s p)) k l

  module _ (A : Accepted g) where
    -- states that show an observation are below n, among them the successors that do
    pub shown_below : (u o : ℕ) → o < g.observations → common u (g.shown o) < 2 ^ g.states
    shown_below u o l = common_lt g.states u (g.shown o) (A.shown_below o l)

    pub after_below : (s a o : ℕ) → o < g.observations → after g s a o < 2 ^ g.states
    unfolding after
    after_below s a o l = shown_below (post g s a) o l

    -- the step sees a family only at sets of states below n
    pub step_ext : (F G : Family) → ((s : ℕ) → s < 2 ^ g.states → F s ≡ G s) → (s : ℕ) → step g F s ≡ step g G s
    unfolding step meets
    step_ext F G h s =
        ap (λ (b : Bool). safe g s && b)
        (any_ext g.actions (meets g F s) (meets g G s)
        (λ a l. ap (λ (b : Bool). enabled_at g s a && b)
        (all_ext g.observations (λ o. F (after g s a o)) (λ o. G (after g s a o)) (λ o m. h (after g s a o) (after_below s a o m)))))

    safe_empty : safe g 0 ≡ true
    unfolding safe
    safe_empty = eq-eqb (common 0 g.bad) 0 refl

    -- the empty set is always good
    pub good_empty : (k : ℕ) → good g k 0 ≡ true
    unfolding good
    good_empty zero = refl
    good_empty (suc k) =
        step_intro (good g k) 0 0 (safe_empty) A.some_action
        (meets_intro (good g k) 0 0 (enabled_intro 0 0 (λ i l m. clash m (member_zero i)))
        (λ o l. good_subset k 0 (after g 0 0 o) (subset_of (after g 0 0 o) 0 (λ j m. let w = after_found 0 0 o j m in clash w.2 (member_zero w.0))) (good_empty k)))
