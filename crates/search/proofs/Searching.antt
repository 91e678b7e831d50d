-- What each turn of the search shows.
-- Assumes nothing.
use mathlib.Core.Path.{◌≡◌, refl, sym, ap, ◌∙◌, subst}
use mathlib.Core.Logic.{⊎_elim}
use mathlib.Core.Bool.{true, false, not}
use mathlib.Core.List.{List}
use Prim.Native.Nat.{ℕ, suc, ◌+◌, ◌-◌, ◌^◌, ◌≤◌, ◌<◌}
use native.Mathlib.Nat.{le_antisymm, sub-zero}
use native.Mathlib.Numerals.{add-one}
use native.Mathlib.Omega.{arith}
use lib.Dec.{leb}
use lib.Pow.{pow_pos, ones_lt}
use borrow.Author.Count.{below_none, below_more}
use borrow.Author.Tests.{leb-true, leb-false}
use Rattle.sets.specs.Mask.{member, subset}
use Rattle.sets.specs.Family.{Family}
use Rattle.sets.proofs.Logic.{decided, clash, refuted, same_truth}
use Rattle.sets.proofs.Mask.{subset_lt, subset_intro, member_rest, member_zero}
use Rattle.sets.proofs.Family.{same_intro}
use Rattle.families.specs.Bits.{has, Bits}
use Rattle.games.specs.Game.{Game, Accepted}
use Rattle.games.specs.Step.{step, good, fixed, settling}
use Rattle.games.specs.Verdict.{No, start_set, starts_in, settled, lost_round, verdict}
use Rattle.games.proofs.Steps.{good_falls, good_subset, step_ext}
use Rattle.games.proofs.Starts.{start_below, starts_at, starts_all, starts_ext}
use Rattle.games.proofs.Settling.{settles, settled_good, lost_round_lem, fixed_at}
use Rattle.games.proofs.Decided.{verdict_no}
use Rattle.search.specs.Stages.{Stage}
use Rattle.search.specs.Found.{SettledAt, Reached}

not_over : (a b : ℕ) → (b < a → ⊥) → a ≤ b
not_over a b h = ⊎_elim (λ e. leb-true a b e) (λ e. absurd (h (leb-false a b e))) (decided (leb a b))

module _ (g : Game) (A : Accepted g) where
  -- the first round in which a start set is lost is the verdict's
  lost_verdict : (k : ℕ) → starts_in g (good g k) ≡ false → ((j : ℕ) → j < k → starts_in g (good g j) ≡ true) → (verdict g ≡ No k) × (k < 2 ^ g.states)
  lost_verdict k lost before =
      let out : starts_in g (settled g) ≡ false =
      refuted (starts_in g (settled g))
      (λ h. clash (starts_all g (good g k) (λ o l. settled_good g A k (start_set g o) (start_below g A o) (starts_at g (settled g) h o l))) lost) in
      let d = lost_round_lem g A out in
      let e : lost_round g ≡ k =
      le_antisymm
      (not_over (lost_round g) k (λ l. clash (d.not_before k l) lost))
      (not_over k (lost_round g) (λ l. clash (before (lost_round g) l) d.drops)) in
      (verdict_no g out ∙ ap No e, subst (λ (n : ℕ). n < 2 ^ g.states) e d.below)

  -- the first place where the families are the same is the settling count
  settling_is : (k : ℕ) → fixed g k ≡ true → ((j : ℕ) → j < k → fixed g j ≡ false) → settling g ≡ k
  settling_is k here before =
      let s = settles g A in
      le_antisymm
      (not_over (settling g) k (λ l. clash here (s.not_before k l)))
      (not_over k (settling g) (λ l. clash s.agrees (before (settling g) l)))

  -- ---- what the bits of the good sets are

  module _ (k : ℕ) (bits : List ℕ) (w : Bits g.states (good g k) bits) where
    in_good : (s : ℕ) → has bits s ≡ true → good g k s ≡ true
    in_good s h = sym (w.at s (w.within s h)) ∙ h

    stepped_good : (s : ℕ) → step g (has bits) s ≡ good g (suc k) s
    unfolding good
    stepped_good s = step_ext g A (has bits) (good g k) w.at s

    pub good_stage : Stage g bits
    good_stage =
        record {
          size = w.size;
          within = w.within;
          down = λ s t h i. w.at t (subset_lt g.states t s i (w.within s h)) ∙ good_subset g k s t i (in_good s h);
          falls = λ s l h. w.at s l ∙ good_falls g k s (sym (stepped_good s) ∙ h);
        }

    good_next : (next : List ℕ) → Bits g.states (step g (has bits)) next → Bits g.states (good g (k + 1)) next
    good_next next v =
        record {
          size = v.size;
          at = λ s l. v.at s l ∙ stepped_good s ∙ ap (λ (j : ℕ). good g j s) (sym (add-one k));
          within = v.within;
        }

    starts_good : starts_in g (has bits) ≡ starts_in g (good g k)
    starts_good = starts_ext g (has bits) (good g k) (λ o l. w.at (start_set g o) (start_below g A o))

  good_none : (s : ℕ) → good g 0 s ≡ true
  unfolding good
  good_none s = refl

  every_start : starts_in g (good g 0) ≡ true
  every_start = starts_all g (good g 0) (λ o l. good_none (start_set g o))

  settled_is : (k : ℕ) → settling g ≡ k → good g k ≡ settled g
  unfolding settled
  settled_is k is = ap (good g) (sym is)

  -- settled at k: the bits of the sets that are good for k are those of the settled family
  settled_at : (k : ℕ) (bits : List ℕ) → Bits g.states (good g k) bits → fixed g k ≡ true → ((j : ℕ) → j < k → fixed g j ≡ false) → starts_in g (good g k) ≡ true → SettledAt g k bits
  settled_at k bits w here before starts =
      let is : settling g ≡ k = settling_is k here before in
      record {
        count_is = is;
        starts = subst (λ (F : Family). starts_in g F ≡ true) (settled_is k is) starts;
        below = subst (λ (t : ℕ). t < 2 ^ g.states) is (settles g A).below;
        family = subst (λ (F : Family). Bits g.states F bits) (settled_is k is) w;
      }

  -- ---- the first family

  module _ (bits : List ℕ) (w : Bits g.states (good g 1) bits) where
    pub first_lost : starts_in g (has bits) ≡ false → (verdict g ≡ No 1) × (1 < 2 ^ g.states)
    first_lost h = lost_verdict 1 (sym (starts_good 1 bits w) ∙ h) (below_more (λ j. starts_in g (good g j) ≡ true) 0 (below_none (λ j. starts_in g (good g j) ≡ true)) every_start)

    -- every set is in a set of all states
    all_holds : (s : ℕ) → s < 2 ^ g.states → subset s (2 ^ g.states - 1) ≡ true
    all_holds s l = subset_intro g.states s (2 ^ g.states - 1) l (λ i m h. ap (λ (x : ℕ). member x i) (sym (sub-zero (2 ^ g.states - 1))) ∙ member_rest g.states 0 i (pow_pos g.states) m ∙ ap not (member_zero i))

    whole_fixed : has bits (2 ^ g.states - 1) ≡ true → fixed g 0 ≡ true
    unfolding fixed
    whole_fixed h =
        same_intro g.states (good g 0) (good g 1)
        (λ s l. good_none s ∙ sym (good_subset g 1 (2 ^ g.states - 1) s (all_holds s l) (sym (w.at (2 ^ g.states - 1) (ones_lt g.states)) ∙ h)))

    pub first_settled : starts_in g (has bits) ≡ true → has bits (2 ^ g.states - 1) ≡ true → SettledAt g 0 bits
    first_settled y h =
        let f = whole_fixed h in
        settled_at 0 bits (record { size = w.size; at = λ s l. w.at s l ∙ sym (fixed_at g A 0 f s l); within = w.within }) f (below_none (λ j. fixed g j ≡ false)) every_start

    pub first_on : starts_in g (has bits) ≡ true → has bits (2 ^ g.states - 1) ≡ false → Reached g 1 bits
    first_on y h =
        record {
          family = w;
          starts = below_more (λ j. starts_in g (good g j) ≡ true) 1 (below_more (λ j. starts_in g (good g j) ≡ true) 0 (below_none (λ j. starts_in g (good g j) ≡ true)) every_start) (sym (starts_good 1 bits w) ∙ y);
          unsettled = below_more (λ j. fixed g j ≡ false) 0 (below_none (λ j. fixed g j ≡ false))
              (refuted (fixed g 0) (λ f. clash (sym (fixed_at g A 0 f (2 ^ g.states - 1) (ones_lt g.states)) ∙ good_none (2 ^ g.states - 1)) (sym (w.at (2 ^ g.states - 1) (ones_lt g.states)) ∙ h)));
        }

  -- ---- one turn

  module _ (k : ℕ) (bits : List ℕ) (w : Reached g k bits) where
    -- not yet settled, so k is below 2 ^ n
    pub searching_bound : k < 2 ^ g.states
    searching_bound = let s = settles g A in omega (arith, s.below, not_over k (settling g) (λ l. clash s.agrees (w.unsettled (settling g) l)))

    -- the next family is what the step leaves
    module _ (next : List ℕ) (stepped : Bits g.states (step g (has bits)) next) where
      v : Bits g.states (good g (k + 1)) next
      v = good_next k bits w.family next stepped

      pub turn_lost : starts_in g (has next) ≡ false → (verdict g ≡ No (k + 1)) × (k + 1 < 2 ^ g.states)
      turn_lost h = lost_verdict (k + 1) (sym (starts_good (k + 1) next v) ∙ h) w.starts

      next_at : (s : ℕ) → s < 2 ^ g.states → has next s ≡ good g (suc k) s
      next_at s l = v.at s l ∙ ap (λ (j : ℕ). good g j s) (add-one k)

      same_fixed : bits ≡ next → fixed g k ≡ true
      unfolding fixed
      same_fixed e = same_intro g.states (good g k) (good g (suc k)) (λ s l. sym (w.family.at s l) ∙ ap (λ (d : List ℕ). has d s) e ∙ next_at s l)

      pub turn_settled : bits ≡ next → SettledAt g k bits
      turn_settled e = settled_at k bits w.family (same_fixed e) w.unsettled (w.starts k (omega arith))

      -- families that agree have the same bits
      agreed : fixed g k ≡ true → (s : ℕ) → has bits s ≡ has next s
      agreed f s =
          same_truth (has bits s) (has next s)
          (λ h. let l = w.family.within s h in next_at s l ∙ sym (fixed_at g A k f s l) ∙ sym (w.family.at s l) ∙ h)
          (λ h. let l = v.within s h in w.family.at s l ∙ fixed_at g A k f s l ∙ sym (next_at s l) ∙ h)

      pub turn_on : starts_in g (has next) ≡ true → (((s : ℕ) → has bits s ≡ has next s) → ⊥) → Reached g (k + 1) next
      turn_on h e =
          record {
            family = v;
            starts = below_more (λ j. starts_in g (good g j) ≡ true) (k + 1) w.starts (sym (starts_good (k + 1) next v) ∙ h);
            unsettled = below_more (λ j. fixed g j ≡ false) k w.unsettled (refuted (fixed g k) (λ f. e (agreed f)));
          }
