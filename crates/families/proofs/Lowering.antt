-- The subsets within a word, state by state.
-- Assumes nothing.
use mathlib.Core.Path.{◌≡◌, refl, sym, ap, ◌∙◌, subst}
use mathlib.Core.Logic.{⊎_elim}
use mathlib.Core.Bool.{Bool, true, false, not, ◌&&◌, ◌||◌, and-true}
use Prim.Native.Nat.{ℕ, ◌+◌, ◌/◌, ◌%◌, ◌^◌, ◌<◌}
use native.Mathlib.Nat.{div-one, add-div_right}
use native.Mathlib.Omega.{arith}
use lib.Dec.{eqb}
use lib.Pow.{pow_pos, shr-shr}
use borrow.Author.Tests.{eqb-true, eqb-false, eq-eqb, not-true}
use Rattle.sets.specs.Mask.{member, union, subset}
use Rattle.sets.specs.Bounded.{any}
use Rattle.sets.proofs.Logic.{decided, same_truth, and_left, and_right, and_intro, or_cases, or_left, or_right, false_not}
use Rattle.sets.proofs.Bounded.{any_found, any_intro, any_ext}
use Rattle.sets.proofs.Mask.{member_or, add_lt, subset_member, subset_refl, subset_trans, subset_add, add_subset}
use Rattle.families.specs.Bits.{lane_sets, word_with, low_has, lane_states}

-- the word has a set that holds t and differs from it below i alone
abbrev pub reached : ℕ → ℕ → ℕ → Bool
reached word i t = any lane_sets (λ u. (subset t u && eqb (t / 2 ^ i) (u / 2 ^ i)) && member word u)

reached_intro : (word i t u : ℕ) → u < lane_sets → subset t u ≡ true → t / 2 ^ i ≡ u / 2 ^ i → member word u ≡ true → reached word i t ≡ true
reached_intro word i t u l k e m =
    any_intro lane_sets (λ u. (subset t u && eqb (t / 2 ^ i) (u / 2 ^ i)) && member word u) u l (and_intro (and_intro k (eq-eqb (t / 2 ^ i) (u / 2 ^ i) e)) m)

reached_found : (word i t : ℕ) → reached word i t ≡ true → (u : ℕ) × (u < lane_sets) × (subset t u ≡ true) × (t / 2 ^ i ≡ u / 2 ^ i) × (member word u ≡ true)
reached_found word i t e =
    let w = any_found lane_sets (λ u. (subset t u && eqb (t / 2 ^ i) (u / 2 ^ i)) && member word u) e in
    let b : (subset t w.0 && eqb (t / 2 ^ i) (w.0 / 2 ^ i)) ≡ true = and_left (subset t w.0 && eqb (t / 2 ^ i) (w.0 / 2 ^ i)) (member word w.0) w.2 in
    (w.0, w.1, and_left (subset t w.0) (eqb (t / 2 ^ i) (w.0 / 2 ^ i)) b, eqb-true (t / 2 ^ i) (w.0 / 2 ^ i) (and_right (subset t w.0) (eqb (t / 2 ^ i) (w.0 / 2 ^ i)) b), and_right (subset t w.0 && eqb (t / 2 ^ i) (w.0 / 2 ^ i)) (member word w.0) w.2)

-- before the first turn
pub reached_none : (word t : ℕ) → t < lane_sets → member word t ≡ reached word 0 t
reached_none word t l =
    same_truth (member word t) (reached word 0 t) (λ m. reached_intro word 0 t t l (subset_refl t) refl m)
    (λ e. let w = reached_found word 0 t e in
    let d : t ≡ w.0 = omega (arith, div-one t, div-one w.0, w.3) in
    subst (λ (x : ℕ). member word x ≡ true) (sym d) w.4)

-- halves: where the states from i on are equal, or differ in i alone, those from i + 1 on are equal
half_same : (i t u : ℕ) → t / 2 ^ i / 2 ≡ u / 2 ^ i / 2 → t / 2 ^ (i + 1) ≡ u / 2 ^ (i + 1)
half_same i t u e = sym (shr-shr t i 1) ∙ e ∙ shr-shr u i 1

same_half : (i t u : ℕ) → t / 2 ^ (i + 1) ≡ u / 2 ^ (i + 1) → t / 2 ^ i / 2 ≡ u / 2 ^ i / 2
same_half i t u e = shr-shr t i 1 ∙ e ∙ sym (shr-shr u i 1)

with_half : (i t : ℕ) → (t + 2 ^ i) / 2 ^ i ≡ t / 2 ^ i + 1
with_half i t = add-div_right t (pow_pos i)

module _ (word cur more i : ℕ) (h : i < lane_states) (f : (t : ℕ) → t < lane_sets → member cur t ≡ reached word i t) (g : (t : ℕ) → t < lane_sets → member more t ≡ word_with cur i t) (t : ℕ) (l : t < lane_sets) where
  from_same : member cur t ≡ true → reached word (i + 1) t ≡ true
  from_same m =
      let w = reached_found word i t (sym (f t l) ∙ m) in
      reached_intro word (i + 1) t w.0 w.1 w.2 (half_same i t w.0 (ap (λ (x : ℕ). x / 2) w.3)) w.4

  from_more : member more t ≡ true → reached word (i + 1) t ≡ true
  from_more m =
      let e : (not (member t i) && member cur (t + 2 ^ i)) ≡ true = sym (g t l) ∙ m in
      let lack : member t i ≡ false = not-true (member t i) (and_left (not (member t i)) (member cur (t + 2 ^ i)) e) in
      let w = reached_found word i (t + 2 ^ i) (sym (f (t + 2 ^ i) (add_lt t i lack lane_states l h)) ∙ and_right (not (member t i)) (member cur (t + 2 ^ i)) e) in
      reached_intro word (i + 1) t w.0 w.1 (subset_trans t (t + 2 ^ i) w.0 (subset_add t i lack) w.2)
      (half_same i t w.0 (omega (arith, with_half i t, w.3, eqb-false (t / 2 ^ i % 2) 1 lack))) w.4

  to_either : (u : ℕ) → u < lane_sets → subset t u ≡ true → t / 2 ^ (i + 1) ≡ u / 2 ^ (i + 1) → member word u ≡ true → (member cur t || member more t) ≡ true
  to_either u b k e m =
      let d : t / 2 ^ i / 2 ≡ u / 2 ^ i / 2 = same_half i t u e in
      ⊎_elim
      (λ q. or_left (member more t) (f t l ∙ reached_intro word i t u b k (eqb-true (t / 2 ^ i) (u / 2 ^ i) q) m))
      (λ q. let n : t / 2 ^ i ≡ u / 2 ^ i → ⊥ = eqb-false (t / 2 ^ i) (u / 2 ^ i) q in
      ⊎_elim
      (λ a. let has : u / 2 ^ i % 2 ≡ 1 = eqb-true (u / 2 ^ i % 2) 1 (subset_member t u k i a) in
      let had : t / 2 ^ i % 2 ≡ 1 = eqb-true (t / 2 ^ i % 2) 1 a in
      absurd (n (omega arith)))
      (λ a. let lack : t / 2 ^ i % 2 ≡ 1 → ⊥ = eqb-false (t / 2 ^ i % 2) 1 a in
      or_right (member cur t)
      (g t l
      ∙ and_intro (false_not a)
      (f (t + 2 ^ i) (add_lt t i a lane_states l h)
      ∙ reached_intro word i (t + 2 ^ i) u b (add_subset t i a u k (eq-eqb (u / 2 ^ i % 2) 1 (omega arith))) (omega (arith, with_half i t)) m)))
      (decided (member t i)))
      (decided (eqb (t / 2 ^ i) (u / 2 ^ i)))

  -- one state more
  pub reached_more : member (union cur more) t ≡ reached word (i + 1) t
  reached_more =
      member_or cur more t
      ∙ same_truth (member cur t || member more t) (reached word (i + 1) t) (λ e. ⊎_elim from_same from_more (or_cases (member cur t) (member more t) e))
      (λ e. let w = reached_found word (i + 1) t e in to_either w.0 w.1 w.2 w.3 w.4)

-- all states are done
pub reached_end : (word i t : ℕ) → i ≡ lane_states → t < lane_sets → reached word i t ≡ low_has word t
reached_end word i t e l =
    ap (λ (n : ℕ). reached word n t) e
    ∙ any_ext lane_sets (λ u. (subset t u && eqb (t / lane_sets) (u / lane_sets)) && member word u) (λ u. subset t u && member word u)
    (λ u h. ap (λ (b : Bool). b && member word u) (ap (λ (b : Bool). subset t u && b) (eq-eqb (t / lane_sets) (u / lane_sets) (omega arith)) ∙ and-true (subset t u)))
