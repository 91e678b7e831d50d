-- The good families fall until they settle, and settle below 2 ^ n.
-- Assumes nothing.
use mathlib.Core.Path.{◌≡◌, refl, sym, ap, ◌∙◌, subst}
use mathlib.Core.Logic.{⊎_elim}
use mathlib.Core.Bool.{Bool, true, false, not}
use Prim.Native.Nat.{ℕ, zero, suc, ◌+◌, ◌^◌, ◌≤◌, ◌<◌}
use native.Mathlib.Nat.{le_refl, le_of_lt}
use native.Mathlib.Decide.{le_ind}
use native.Mathlib.Omega.{arith}
use borrow.Author.Tests.{not-true, not-false, leb-true, leb-false}
use lib.Dec.{leb}
use lib.Pow.{pow_pos}
use Rattle.sets.specs.Bounded.{Found, or_else, count}
use Rattle.sets.specs.Family.{holds}
use Rattle.sets.proofs.Logic.{decided, refuted, false_not}
use Rattle.sets.proofs.Bounded.{count_le, count_strict, count_pos, first_cases, first_some, first_found}
use Rattle.sets.proofs.Family.{same_at, same_intro, same_witness, represents}
use Rattle.games.specs.Game.{Game, Accepted}
use Rattle.games.specs.Step.{step, good, antichain, fixed, settling}
use Rattle.games.specs.Verdict.{starts_in, settled, cells, lost_round}
use Rattle.games.proofs.Steps.{good_subset, good_falls, good_fewer, good_empty, step_ext}

-- the settling count: the families agree there, not before, and it is below 2 ^ n
pub record Settles (g : Game) : Type 0 where
  pub below : settling g < 2 ^ g.states
  pub agrees : fixed g (settling g) ≡ true
  pub not_before : (j : ℕ) → j < settling g → fixed g j ≡ false

-- k is the least for which a start set isn't good for k, and is below 2 ^ n
pub record Drops (g : Game) (k : ℕ) : Type 0 where
  pub below : k < 2 ^ g.states
  pub drops : starts_in g (good g k) ≡ false
  pub not_before : (j : ℕ) → j < k → starts_in g (good g j) ≡ true

module _ (g : Game) (A : Accepted g) where
  -- the list for k holds just the sets that are good for k
  pub antichain_holds : (k s : ℕ) → s < 2 ^ g.states → holds (antichain g k) s ≡ good g k s
  unfolding antichain
  antichain_holds k s l = represents g.states (good g k) (λ s t m p h. good_subset g k s t h p) s l

  pub fixed_at : (t : ℕ) → fixed g t ≡ true → (s : ℕ) → s < 2 ^ g.states → good g t s ≡ good g (suc t) s
  unfolding fixed
  fixed_at t h = same_at g.states (good g t) (good g (suc t)) h

  -- families that agree once agree for ever
  pub fixed_on : (t : ℕ) → fixed g t ≡ true → fixed g (suc t) ≡ true
  unfolding fixed good
  fixed_on t h =
      same_intro g.states (step g (good g t)) (step g (step g (good g t)))
      (λ s l. step_ext g A (good g t) (step g (good g t)) (fixed_at t h) s)

  pub fixed_later : (t k : ℕ) → t ≤ k → fixed g t ≡ true → (s : ℕ) → s < 2 ^ g.states → good g k s ≡ good g t s
  fixed_later t k l h s b =
      (le_ind (λ (m : ℕ). (fixed g m ≡ true) × (good g m s ≡ good g t s)) (h, refl)
      (λ m n w. (fixed_on m w.0, sym (fixed_at m w.0 s b) ∙ w.1)) k l).1

  -- where they don't agree, a set is lost
  count_falls : (t : ℕ) → fixed g t ≡ false → count (2 ^ g.states) (good g (suc t)) < count (2 ^ g.states) (good g t)
  unfolding fixed
  count_falls t h =
      let w = same_witness g.states (good g t) (good g (suc t)) h in
      let s = w.0 in
      let lost : good g (suc t) s ≡ false = refuted (good g (suc t) s) (λ e. w.2 (good_falls g t s e ∙ sym e)) in
      let had : good g t s ≡ true = ⊎_elim (λ e. e) (λ e. absurd (w.2 (e ∙ sym lost))) (decided (good g t s)) in
      count_strict (2 ^ g.states) (good g (suc t)) (good g t) (λ i l. good_falls g t i) s w.1 lost had

  counts : (t : ℕ) → ((j : ℕ) → j < t → fixed g j ≡ false) → count (2 ^ g.states) (good g t) + t ≤ 2 ^ g.states
  counts zero h = let c = count_le (2 ^ g.states) (good g 0) in omega arith
  counts (suc t) h =
      let c = counts t (λ j l. h j (omega arith)) in
      let d = count_falls t (h t (le_refl (suc t))) in
      omega arith

  pub settles : Settles g
  unfolding settling
  settles =
      ⊎_elim
      (λ w.
      let c = counts (2 ^ g.states) w.1 in
      let d = count_pos (2 ^ g.states) (good g (2 ^ g.states)) 0 (pow_pos g.states) (good_empty g A (2 ^ g.states)) in
      absurd (omega arith))
      (λ w.
      let e : settling g ≡ w.0 = ap (λ (f : Found). or_else f (2 ^ g.states)) w.1 in
      record {
        below = subst (λ (t : ℕ). t < 2 ^ g.states) (sym e) w.2.0;
        agrees = subst (λ (t : ℕ). fixed g t ≡ true) (sym e) w.2.1;
        not_before = subst (λ (t : ℕ). (j : ℕ) → j < t → fixed g j ≡ false) (sym e) w.2.2;
      })
      (first_cases (2 ^ g.states) (fixed g))

  -- the settled family is its own step
  pub settled_step : (s : ℕ) → s < 2 ^ g.states → settled g s ≡ step g (settled g) s
  unfolding settled good
  settled_step s l = fixed_at (settling g) settles.agrees s l

  -- a settled set is good for every number of rounds
  pub settled_good : (k s : ℕ) → s < 2 ^ g.states → settled g s ≡ true → good g k s ≡ true
  unfolding settled
  settled_good k s l h =
      ⊎_elim (λ b. good_fewer g k (settling g) s (leb-true k (settling g) b) h)
      (λ b. fixed_later (settling g) k (le_of_lt (leb-false k (settling g) b)) settles.agrees s l ∙ h)
      (decided (leb k (settling g)))

  pub cells_hold : (s : ℕ) → s < 2 ^ g.states → holds (cells g) s ≡ settled g s
  unfolding cells settled
  cells_hold = antichain_holds (settling g)

  pub lost_round_lem : starts_in g (settled g) ≡ false → Drops g (lost_round g)
  unfolding lost_round settled
  lost_round_lem h =
      let test : ℕ → Bool = λ k. not (starts_in g (good g k)) in
      let f = first_some (2 ^ g.states) test (settling g) settles.below (false_not h) in
      let w = first_found (2 ^ g.states) test f.0 f.1 in
      let e : lost_round g ≡ f.0 = ap (λ (x : Found). or_else x (2 ^ g.states)) f.1 in
      record {
        below = subst (λ (k : ℕ). k < 2 ^ g.states) (sym e) w.0;
        drops = subst (λ (k : ℕ). starts_in g (good g k) ≡ false) (sym e) (not-true (starts_in g (good g f.0)) w.1);
        not_before = subst (λ (k : ℕ). (j : ℕ) → j < k → starts_in g (good g j) ≡ true) (sym e) (λ j l. not-false (starts_in g (good g j)) (w.2 j l));
      }
