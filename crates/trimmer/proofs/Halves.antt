-- A word of the work with another half: that half is the new one, and every other half stays.
-- Assumes nothing.
use mathlib.Core.Path.{◌≡◌, sym, ap, ◌∙◌}
use mathlib.Core.Logic.{⊎_elim}
use mathlib.Core.Bool.{true, false}
use mathlib.Core.List.{List}
use Prim.Native.Nat.{ℕ, ◌+◌, ◌*◌, ◌/◌, ◌%◌, ◌<◌}
use native.Mathlib.Omega.{arith}
use lib.Dec.{eqb, ltb}
use lib.ListN.{length, replicate, length-set, length-replicate, get_or-replicate, get_or-eq_default}
use lib.Seq.{get_or-set_same, get_or-set_other}
use borrow.Author.Tests.{lt-ltb, le-ltb, eqb-true, eqb-false}
use Rattle.sets.proofs.Logic.{decided, lt_or_le}
use Rattle.trimmer.specs.Halves.{half_values, lower_half, upper_half, put_lower, put_upper, marked}

lower_of : (y x : ℕ) → x < half_values → (y * half_values + x) % half_values ≡ x
lower_of y x l = omega arith

upper_of : (y x : ℕ) → x < half_values → (y * half_values + x) / half_values ≡ y
upper_of y x l = omega arith

-- what holds of i and of every other number holds of each
pub at_each : (P : ℕ → Type 0) (i : ℕ) → ((k : ℕ) → k ≡ i → P k) → ((k : ℕ) → (k ≡ i → ⊥) → P k) → (k : ℕ) → P k
at_each P i here there k = ⊎_elim (λ e. here k (eqb-true k i e)) (λ e. there k (eqb-false k i e)) (decided (eqb k i))

module _ (w : List ℕ) (i x : ℕ) where
  pub put_lower_length : length (put_lower w i x) ≡ length w
  unfolding put_lower
  put_lower_length = length-set w i (upper_half w i * half_values + x)

  pub put_upper_length : length (put_upper w i x) ≡ length w
  unfolding put_upper
  put_upper_length = length-set w i (x * half_values + lower_half w i)

  pub lower_there : (k : ℕ) → (k ≡ i → ⊥) → lower_half (put_lower w i x) k ≡ lower_half w k
  unfolding put_lower
  lower_there k n = ap (λ (y : ℕ). y % half_values) (get_or-set_other w i k (upper_half w i * half_values + x) 0 n)

  pub upper_there : (k : ℕ) → (k ≡ i → ⊥) → upper_half (put_upper w i x) k ≡ upper_half w k
  unfolding put_upper
  upper_there k n = ap (λ (y : ℕ). y / half_values) (get_or-set_other w i k (x * half_values + lower_half w i) 0 n)

  module _ (l : i < length w) where
    pub upper_here : upper_half (put_upper w i x) i ≡ x
    unfolding put_upper
    upper_here = ap (λ (y : ℕ). y / half_values) (get_or-set_same w i (x * half_values + lower_half w i) 0 l) ∙ upper_of x (lower_half w i) (omega arith)

    pub lower_stays : (k : ℕ) → lower_half (put_upper w i x) k ≡ lower_half w k
    unfolding put_upper
    lower_stays =
        at_each (λ k. lower_half (put_upper w i x) k ≡ lower_half w k) i
        (λ k e. ap (λ (j : ℕ). lower_half (put_upper w i x) j) e ∙ ap (λ (y : ℕ). y % half_values) (get_or-set_same w i (x * half_values + lower_half w i) 0 l) ∙ lower_of x (lower_half w i) (omega arith) ∙ ap (λ (j : ℕ). lower_half w j) (sym e))
        (λ k n. ap (λ (y : ℕ). y % half_values) (get_or-set_other w i k (x * half_values + lower_half w i) 0 n))

    module _ (b : x < half_values) where
      pub lower_here : lower_half (put_lower w i x) i ≡ x
      unfolding put_lower
      lower_here = ap (λ (y : ℕ). y % half_values) (get_or-set_same w i (upper_half w i * half_values + x) 0 l) ∙ lower_of (upper_half w i) x b

      pub upper_stays : (k : ℕ) → upper_half (put_lower w i x) k ≡ upper_half w k
      unfolding put_lower
      upper_stays =
          at_each (λ k. upper_half (put_lower w i x) k ≡ upper_half w k) i
          (λ k e. ap (λ (j : ℕ). upper_half (put_lower w i x) j) e ∙ ap (λ (y : ℕ). y / half_values) (get_or-set_same w i (upper_half w i * half_values + x) 0 l) ∙ upper_of (upper_half w i) x b ∙ ap (λ (j : ℕ). upper_half w j) (sym e))
          (λ k n. ap (λ (y : ℕ). y / half_values) (get_or-set_other w i k (upper_half w i * half_values + x) 0 n))

-- ---- marks

module _ (w : List ℕ) (c : ℕ) where
  pub marks : 0 < lower_half w c → marked w c ≡ true
  unfolding marked
  marks l = lt-ltb 0 (lower_half w c) l

  pub no_mark : lower_half w c ≡ 0 → marked w c ≡ false
  unfolding marked
  no_mark e = le-ltb 0 (lower_half w c) (omega arith)

-- a mark goes by the lower half alone
pub same_mark : (v w : List ℕ) (c : ℕ) → lower_half v c ≡ lower_half w c → marked v c ≡ marked w c
unfolding marked
same_mark v w c e = ap (ltb 0) e

-- no cell is marked in words of 0
pub zeroed : (n c : ℕ) → marked (replicate n 0) c ≡ false
zeroed n c =
    let long : length {A = ℕ} (replicate n 0) ≡ n = length-replicate {0} {A = ℕ} n 0 in
    no_mark (replicate n 0) c
    (ap (λ (y : ℕ). y % half_values)
    (⊎_elim (λ l. get_or-replicate n c 0 0 l) (λ l. get_or-eq_default (replicate n 0) 0 (omega (arith, long))) (lt_or_le c n)))
