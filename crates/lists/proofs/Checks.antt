-- Laws of the search for a mask that names a state from n up.
-- Assumes nothing.
use mathlib.Core.Path.{◌≡◌, sym, ap, ◌∙◌, subst}
use mathlib.Core.Logic.{⊎_elim}
use mathlib.Core.Bool.{false}
use mathlib.Core.List.{List, ◌++◌}
use Prim.Native.Nat.{ℕ, ◌+◌, ◌-◌, ◌^◌, ◌≤◌, ◌<◌}
use native.Mathlib.Omega.{arith}
use lib.Dec.{leb, ltb}
use lib.ListN.{length, get_or, length-append, get_or-append}
use lib.Seq.{get_or-append-add}
use borrow.Author.Tests.{leb-false, ltb-true, ltb-false}
use Rattle.sets.specs.Bounded.{nothing, found, first, reaches}
use Rattle.sets.proofs.Bounded.{first_is, first_none, first_found, first_nothing}
use Rattle.sets.proofs.Logic.{decided}
use Rattle.sets.proofs.Family.{Within, mem_at}

-- where no mask names a state from n up, the list's sets are sets of states below n
pub reaches_within : (n : ℕ) (l : List ℕ) → first (length l) (reaches l (2 ^ n)) ≡ nothing → Within n l
reaches_within n l e t m =
    let w = mem_at l t m in
    subst (λ (x : ℕ). x < 2 ^ n) w.2 (leb-false (2 ^ n) (get_or l w.0 0) (first_nothing (length l) (reaches l (2 ^ n)) e w.0 w.1))

module _ (k l : List ℕ) (end : ℕ) where
  -- the first list's masks stand in front
  in_first : (i : ℕ) → i < length k → reaches (k ++ l) end i ≡ reaches k end i
  in_first i h = ap (leb end) (get_or-append k l 0 i h)

  -- the second's are counted on
  in_second : (i : ℕ) → reaches (k ++ l) end (length k + i) ≡ reaches l end i
  in_second i = ap (leb end) (get_or-append-add k l i 0)

  in_either : (j : ℕ) → first (length k) (reaches k end) ≡ nothing → ((i : ℕ) → i < j → reaches l end i ≡ false) → (i : ℕ) → i < length k + j → reaches (k ++ l) end i ≡ false
  in_either j e h i b =
      ⊎_elim (λ t. let c : i < length k = ltb-true i (length k) t in in_first i c ∙ first_nothing (length k) (reaches k end) e i c)
      (λ t. let c : length k ≤ i = ltb-false i (length k) t in
      let q : length k + (i - length k) ≡ i = omega arith in
      subst (λ (x : ℕ). reaches (k ++ l) end x ≡ false) q (in_second (i - length k) ∙ h (i - length k) (omega arith)))
      (decided (ltb i (length k)))

  -- found in the first list
  pub found_first : (i : ℕ) → first (length k) (reaches k end) ≡ found i → first (length (k ++ l)) (reaches (k ++ l) end) ≡ found i
  found_first i e =
      let w = first_found (length k) (reaches k end) i e in
      let b : i < length k = w.0 in
      first_is (length (k ++ l)) (reaches (k ++ l) end) i (omega (arith, length-append k l)) (in_first i b ∙ w.1)
      (λ j c. in_first j (omega arith) ∙ w.2 j c)

  -- not in the first, but in the second
  pub found_second : (j : ℕ) → first (length k) (reaches k end) ≡ nothing → first (length l) (reaches l end) ≡ found j → first (length (k ++ l)) (reaches (k ++ l) end) ≡ found (length k + j)
  found_second j e f =
      let w = first_found (length l) (reaches l end) j f in
      let b : j < length l = w.0 in
      first_is (length (k ++ l)) (reaches (k ++ l) end) (length k + j) (omega (arith, length-append k l)) (in_second j ∙ w.1) (in_either j e w.2)

  -- in neither
  pub found_neither : first (length k) (reaches k end) ≡ nothing → first (length l) (reaches l end) ≡ nothing → first (length (k ++ l)) (reaches (k ++ l) end) ≡ nothing
  found_neither e f =
      first_none (length (k ++ l)) (reaches (k ++ l) end)
      (λ i c. in_either (length l) e (first_nothing (length l) (reaches l end) f) i (subst (λ (x : ℕ). i < x) (length-append k l) c))

  -- where both have none, the first has none
  pub clean_first : first (length (k ++ l)) (reaches (k ++ l) end) ≡ nothing → first (length k) (reaches k end) ≡ nothing
  clean_first e =
      first_none (length k) (reaches k end)
      (λ i h. sym (in_first i h) ∙ first_nothing (length (k ++ l)) (reaches (k ++ l) end) e i (omega (arith, length-append k l)))

  -- and the second has none
  pub clean_second : first (length (k ++ l)) (reaches (k ++ l) end) ≡ nothing → first (length l) (reaches l end) ≡ nothing
  clean_second e =
      first_none (length l) (reaches l end)
      (λ i h. sym (in_second i) ∙ first_nothing (length (k ++ l)) (reaches (k ++ l) end) e (length k + i) (omega (arith, length-append k l)))
