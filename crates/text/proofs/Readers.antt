-- Laws of the readers as the code goes: one for each way on, and one for each way out.
-- Assumes nothing.
use mathlib.Core.Path.{◌≡◌, refl, sym, ◌∙◌}
use Rattle.std.specs.Prelude.{Ok, IfOk}
use mathlib.Core.Logic.{⊎_elim}
use mathlib.Core.Bool.{true, false}
use mathlib.Core.List.{List, [], ◌∷◌}
use Prim.Native.Nat.{ℕ, suc, ◌+◌, ◌-◌, ◌*◌, ◌/◌, ◌≤◌, ◌<◌}
use native.Mathlib.Numerals.{add-one}
use native.Mathlib.Omega.{arith}
use borrow.Author.Tests.{lt-ltb, le-ltb, ltb-true, ltb-false, eq-eqb, ne_eqb, eqb-false}
use lib.Dec.{eqb, ltb}
use lib.ListN.{length, get_or, drop, drop_of_length-le, get_or-eq_default}
use lib.Seq.{drop-cons}
use Rattle.sets.proofs.Logic.{decided, lt_or_le, same_truth, or_left, or_right, or_false_left, or_false_right, or_false_intro}
use Rattle.std.proofs.Common.{Option, None, Some, Bor}
use Rattle.std.proofs.lemmas.List.{get_or_default}
use Rattle.std.specs.Option.{option_eq, option_copied, option_map, unwrap_or}
use borrow.Author.Tests.{eqb-true, eqb-false}
use Rattle.sets.proofs.Logic.{clash}
use Rattle.text.specs.Decimal.{digit_of, digit_at}
use Rattle.text.specs.Read.{wrong, matched, number, no_number, misplaced, further_digits, number_of}
use Rattle.text.proofs.Decimals.{digit_within}

-- ---- a literal run of bytes: s from its byte i on, at place `next` of the text l

module _ (s l : List ℕ) (i next : ℕ) where
  -- s is at its end
  pub matched_end : length s ≤ i → matched (drop i s) next (drop next l) ≡ Ok next
  unfolding matched
  matched_end h = rw (drop_of_length-le s h)

  module _ (h : i < length s) where
    -- the text is, before s
    pub matched_short : length l ≤ next → matched (drop i s) next (drop next l) ≡ wrong next
    unfolding matched
    matched_short m = rw (drop-cons s i 0 h, drop_of_length-le l m)

    module _ (m : next < length l) where
      -- the bytes differ
      pub matched_other : (get_or l next 0 ≡ get_or s i 0 → ⊥) → matched (drop i s) next (drop next l) ≡ wrong next
      unfolding matched
      matched_other d = rw (drop-cons s i 0 h, drop-cons l next 0 m, ne_eqb (get_or l next 0) (get_or s i 0) d)

      -- they are the same
      pub matched_more : get_or l next 0 ≡ get_or s i 0 → matched (drop i s) next (drop next l) ≡ matched (drop (i + 1) s) (next + 1) (drop (next + 1) l)
      unfolding matched
      matched_more e = rw (drop-cons s i 0 h, drop-cons l next 0 m, eq-eqb (get_or l next 0) (get_or s i 0) e, add-one i, add-one next)

  -- the byte at the next place, or 256 past the end
  module _ (h : i < length s) (b : get_or s i 0 < 256) where
    pub matched_wrong : (get_or l next 256 ≡ get_or s i 0 → ⊥) → matched (drop i s) next (drop next l) ≡ wrong next
    matched_wrong d =
        ⊎_elim (λ (m : next < length l). matched_other h m (λ e. d (get_or_default l next 256 0 m ∙ e))) (λ (m : length l ≤ next). matched_short h m) (lt_or_le next (length l))

    pub matched_next : get_or l next 256 ≡ get_or s i 0 → (next < length l) × (matched (drop i s) next (drop next l) ≡ matched (drop (i + 1) s) (next + 1) (drop (next + 1) l))
    matched_next e =
        ⊎_elim (λ (m : next < length l). (m, matched_more h m (sym (get_or_default l next 256 0 m) ∙ e)))
        (λ (m : length l ≤ next). let z : get_or l next 256 ≡ 256 = get_or-eq_default l 256 m in absurd (omega arith)) (lt_or_le next (length l))

-- what the code has: none past the end
abbrev pub byte_of : Option ℕ → ℕ
byte_of None = 256
byte_of (Some b) = b

pub byte_of_is : (o : Option (Bor ℕ)) → byte_of (option_copied o) ≡ unwrap_or (option_map (λ x. x.now) o) 256
byte_of_is None = refl
byte_of_is (Some x) = refl

pub byte_same : (o : Option ℕ) (b : ℕ) → option_eq eqb o (Some b) ≡ true → byte_of o ≡ b
byte_same None b e = clash e refl
byte_same (Some x) b e = eqb-true x b e

pub byte_other : (o : Option ℕ) (b : ℕ) → b < 256 → option_eq eqb o (Some b) ≡ false → byte_of o ≡ b → ⊥
byte_other None b l e f = omega (arith, l, f)
byte_other (Some x) b l e f = eqb-false x b e f

-- ---- a digit behind a number

module _ (most v d : ℕ) where
  -- behind a leading zero
  pub misplaced_zero : v ≡ 0 → misplaced most v d ≡ true
  unfolding misplaced
  misplaced_zero z = or_left (ltb most (v * 10 + d)) (eq-eqb v 0 z)

  -- above the bound by itself
  pub misplaced_digit : most < d → misplaced most v d ≡ true
  unfolding misplaced
  misplaced_digit l = or_right (eqb v 0) (lt-ltb most (v * 10 + d) (omega arith))

  -- the bound without the sum
  pub misplaced_sum : (v ≡ 0 → ⊥) → d ≤ most → ltb ((most - d) / 10) v ≡ misplaced most v d
  unfolding misplaced
  misplaced_sum z l =
      rw (ne_eqb v 0 z)
      (same_truth (ltb ((most - d) / 10) v) (ltb most (v * 10 + d))
      (λ t. lt-ltb most (v * 10 + d) (omega (arith, ltb-true ((most - d) / 10) v t)))
      (λ t. lt-ltb ((most - d) / 10) v (omega (arith, ltb-true most (v * 10 + d) t))))

  -- in its place, both ways
  pub placed : 0 < v → v * 10 + d ≤ most → misplaced most v d ≡ false
  unfolding misplaced
  placed p l = or_false_intro (ne_eqb v 0 (λ e. omega arith)) (le-ltb most (v * 10 + d) l)

  pub well_placed : misplaced most v d ≡ false → (0 < v) × (v * 10 + d ≤ most)
  unfolding misplaced
  well_placed e =
      let z : v ≡ 0 → ⊥ = eqb-false v 0 (or_false_left (eqb v 0) (ltb most (v * 10 + d)) e) in
      (omega arith, ltb-false most (v * 10 + d) (or_false_right (eqb v 0) (ltb most (v * 10 + d)) e))

-- ---- a number at the end of the text

pub further_end : (most v : ℕ) (l : List ℕ) (i : ℕ) → length l ≤ i → further_digits most v i (drop i l) ≡ number v i
unfolding further_digits
further_end most v l i h = rw (drop_of_length-le l h)

-- ---- a number: d is the digit at place i of the text l

module _ (most v : ℕ) (l : List ℕ) (i d : ℕ) (e : d ≡ digit_at l i) where
  -- no digit, or the end: no number
  pub number_none : 9 < d → number_of most i (drop i l) ≡ no_number i
  unfolding number_of digit_at
  number_none n =
      ⊎_elim (λ (h : i < length l). rw (drop-cons l i 0 h, ← e, lt-ltb 9 d n)) (λ (h : length l ≤ i). rw (drop_of_length-le l h)) (lt_or_le i (length l))

  -- no digit, or the end: the number ends
  pub further_none : 9 < d → further_digits most v i (drop i l) ≡ number v i
  unfolding further_digits digit_at
  further_none n =
      ⊎_elim (λ (h : i < length l). rw (drop-cons l i 0 h, ← e, lt-ltb 9 d n)) (λ (h : length l ≤ i). rw (drop_of_length-le l h)) (lt_or_le i (length l))

  -- a digit, which lies in the text
  module _ (n : d ≤ 9) where
    within : i < length l
    within = digit_within l i d e n

    -- the first, above the bound
    pub number_large : most < d → number_of most i (drop i l) ≡ no_number i
    unfolding number_of digit_at
    number_large m = rw (drop-cons l i 0 within, ← e, le-ltb 9 d n, lt-ltb most d m)

    -- the first
    pub number_first : d ≤ most → number_of most i (drop i l) ≡ further_digits most d (i + 1) (drop (i + 1) l)
    unfolding number_of digit_at
    number_first m = rw (drop-cons l i 0 within, ← e, le-ltb 9 d n, le-ltb most d m, add-one i)

    -- a further one, misplaced
    pub further_misplaced : misplaced most v d ≡ true → further_digits most v i (drop i l) ≡ no_number i
    unfolding further_digits digit_at
    further_misplaced m = rw (drop-cons l i 0 within, ← e, le-ltb 9 d n, m)

    -- a further one
    pub further_more : misplaced most v d ≡ false → further_digits most v i (drop i l) ≡ further_digits most (v * 10 + d) (i + 1) (drop (i + 1) l)
    unfolding further_digits digit_at
    further_more m = rw (drop-cons l i 0 within, ← e, le-ltb 9 d n, m, add-one i)

-- ---- a number's bound

further_bounded : (most v i : ℕ) (l : List ℕ) → v ≤ most → IfOk (further_digits most v i l) (λ r. r.0 ≤ most)
unfolding further_digits
further_bounded most v i [] h = h
further_bounded most v i (b ∷ l) h =
    ⊎_elim (λ (t : ltb 9 (digit_of b) ≡ true). rw t h)
    (λ (t : ltb 9 (digit_of b) ≡ false). ⊎_elim (λ (m : misplaced most v (digit_of b) ≡ true). rw (t, m) tt)
    (λ (m : misplaced most v (digit_of b) ≡ false). rw (t, m) (further_bounded most (v * 10 + digit_of b) (suc i) l (well_placed most v (digit_of b) m).1))
    (decided (misplaced most v (digit_of b))))
    (decided (ltb 9 (digit_of b)))

-- at most the bound, where there is one
pub number_bounded : (most i : ℕ) (l : List ℕ) → IfOk (number_of most i l) (λ r. r.0 ≤ most)
unfolding number_of
number_bounded most i [] = tt
number_bounded most i (b ∷ l) =
    ⊎_elim (λ (t : ltb 9 (digit_of b) ≡ true). rw t tt)
    (λ (t : ltb 9 (digit_of b) ≡ false). ⊎_elim (λ (m : ltb most (digit_of b) ≡ true). rw (t, m) tt)
    (λ (m : ltb most (digit_of b) ≡ false). rw (t, m) (further_bounded most (digit_of b) (suc i) l (ltb-false most (digit_of b) m)))
    (decided (ltb most (digit_of b))))
    (decided (ltb 9 (digit_of b)))
