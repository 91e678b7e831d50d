-- The list that join or meet leaves is that of the maximal sets, in plain words.
-- Assumes nothing.
use mathlib.Core.Path.{◌≡◌, refl, sym, ap, ◌∙◌, subst}
use mathlib.Core.Logic.{inl, inr, ⊎_elim}
use mathlib.Core.Bool.{Bool, true, false, cond, not, ◌||◌}
use mathlib.Core.List.{List, ◌++◌}
use Prim.Native.Nat.{ℕ, ◌^◌, ◌<◌}
use native.Mathlib.Omega.{arith}
use lib.Dec.{ltb}
use lib.ListN.{length, take, drop}
use lib.Seq.{take-append_seam}
use Rattle.sets.specs.Bounded.{Found, nothing, found, at_found}
use Rattle.sets.specs.Family.{Family, maximal, listed, cuts, join, meet}
use Rattle.sets.proofs.Logic.{or_cases, or_left, or_right}
use Rattle.sets.proofs.Mask.{common_lt}
use Rattle.sets.proofs.Family.{Within, mem_maximal, maximal_is, maximal_ascending, maximal_antichain, above, listed_mem, mem_listed, cuts_found, cuts_intro}
use Rattle.games.specs.Answers.{Leaves, leaves}
use Rattle.games.specs.Answers.{Written}
use Rattle.games.specs.Answers.{refused}
use Rattle.lists.specs.Lists.{is_width, foreign, fitted, outcome}
use Rattle.lists.specs.Plain.{OfEither, OfBoth, MaximalOf}
use Rattle.lists.proofs.Checks.{reaches_within, clean_first, clean_second}
use Rattle.games.specs.declared.Reason.TheVariants as reason
use Rattle.std.specs.Prelude.{Ok}

-- ---- the definitions

-- maximal sets of a family that stands for P
maximal_of : (n : ℕ) (F : Family) (P : ℕ → Type 0) → ((s : ℕ) → F s ≡ true → P s) → ((s : ℕ) → P s → F s ≡ true) → ((s : ℕ) → P s → s < 2 ^ n) → MaximalOf P (maximal n F)
maximal_of n F P f g b =
    record {
      ascending = maximal_ascending n F;
      sound = λ s m. f s (mem_maximal n F s m).1;
      antichain = maximal_antichain n F;
      complete = λ t p. let w = above n F t (b t p) (g t p) in (w.0, maximal_is n F w.0 w.1 w.2, w.3);
    }

module _ (n : ℕ) (k l : List ℕ) (bk : Within n k) (bl : Within n l) where
  -- join lists the maximal sets of both lists
  pub join_plain : MaximalOf (OfEither k l) (join n k l)
  unfolding join
  join_plain =
      maximal_of n (λ s. listed k s || listed l s) (OfEither k l)
      (λ s h. ⊎_elim (λ m. inl (listed_mem k s m)) (λ m. inr (listed_mem l s m)) (or_cases (listed k s) (listed l s) h))
      (λ s p. ⊎_elim (λ m. or_left (listed l s) (mem_listed k s m)) (λ m. or_right (listed k s) (mem_listed l s m)) p)
      (λ s p. ⊎_elim (λ m. bk s m) (λ m. bl s m) p)

  -- meet lists the maximal common parts
  pub meet_plain : MaximalOf (OfBoth k l) (meet n k l)
  unfolding meet
  meet_plain =
      maximal_of n (cuts k l) (OfBoth k l) (λ s h. cuts_found k l s h) (λ s p. cuts_intro k l s p.0 p.1 p.2 p.3 p.4)
      (λ s p. subst (λ (x : ℕ). x < 2 ^ n) p.4 (common_lt n p.0 p.1 (bl p.1 p.3)))

-- ---- what the entries leave

-- where the answer is a length, no mask was foreign and the result stands in front
fitted_words : (r d : List ℕ) (b : Bool) (w : ℕ) → (cond b (leaves (refused reason.ShortList (length r)) d) (leaves (Ok (length r)) (r ++ drop (length r) d))).answer ≡ Ok w → take w (cond b (leaves (refused reason.ShortList (length r)) d) (leaves (Ok (length r)) (r ++ drop (length r) d))).left ≡ r
fitted_words r d true w e = let z : ◌≡◌ {A = ℕ} 0 1 = cc in absurd (omega arith)
fitted_words r d false w e =
    let q : length r ≡ w = cc in
    subst (λ (x : ℕ). take x (r ++ drop (length r) d) ≡ r) q (take-append_seam r (drop (length r) d))

found_words : (f : Found) (r d : List ℕ) (w : ℕ) → (at_found f (λ i. leaves (refused reason.StateBeyond i) d) (fitted r d)).answer ≡ Ok w → (f ≡ nothing) × (take w (at_found f (λ i. leaves (refused reason.StateBeyond i) d) (fitted r d)).left ≡ r)
found_words nothing r d w e = (refl, fitted_words r d (ltb (length d) (length r)) w e)
found_words (found i) r d w e = let z : ◌≡◌ {A = ℕ} 0 1 = cc in absurd (omega arith)

width_words : (b : Bool) (f : Found) (r d : List ℕ) (w : ℕ) → (cond b (leaves (refused reason.BadHead 0) d) (at_found f (λ i. leaves (refused reason.StateBeyond i) d) (fitted r d))).answer ≡ Ok w → (f ≡ nothing) × (take w (cond b (leaves (refused reason.BadHead 0) d) (at_found f (λ i. leaves (refused reason.StateBeyond i) d) (fitted r d))).left ≡ r)
width_words true f r d w e = let z : ◌≡◌ {A = ℕ} 0 1 = cc in absurd (omega arith)
width_words false f r d w e = found_words f r d w e

outcome_words : (op : List ℕ → List ℕ → List ℕ) (n : ℕ) (k l d : List ℕ) (w : ℕ) → (outcome op n k l d).answer ≡ Ok w → (foreign n (k ++ l) ≡ nothing) × (take w (outcome op n k l d).left ≡ op k l)
unfolding outcome
outcome_words op n k l d w e = width_words (not (is_width n)) (foreign n (k ++ l)) (op k l) d w e

module _ (op : List ℕ → List ℕ → List ℕ) (P : List ℕ → List ℕ → ℕ → Type 0) (n : ℕ) (k l d : List ℕ) (plain : Within n k → Within n l → MaximalOf (P k l) (op k l)) where
  -- whatever the entry leaves in front is the list of the maximal sets
  pub left_plain : (r : Written) (x : List ℕ) → leaves r x ≡ outcome op n k l d → (w : ℕ) → r ≡ Ok w → MaximalOf (P k l) (take w x)
  left_plain r x e w q =
      let v = outcome_words op n k l d w (sym (ap (λ (o : Leaves Written (List ℕ)). o.answer) e) ∙ q) in
      subst (MaximalOf (P k l)) (sym (ap (λ (o : Leaves Written (List ℕ)). take w o.left) e ∙ v.1))
      (plain (reaches_within n k (clean_first k l (2 ^ n) v.0)) (reaches_within n l (clean_second k l (2 ^ n) v.0)))
