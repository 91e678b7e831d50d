-- A rule of a table, proved at all of its entries by one test that antt computes, one entry after the other.
-- Assumes nothing.
use mathlib.Core.Path.{◌≡◌, sym, ◌∙◌, subst}
use mathlib.Core.Bool.{Bool, true, ◌&&◌, beq}
use mathlib.Core.List.{List, [], ◌∷◌}
use Prim.Native.Nat.{ℕ, zero, suc, ◌+◌, ◌<◌}
use native.Mathlib.Nat.{add-zero, zero-add, add-suc, suc-add, le_of_suc-le-suc, not-suc-le-zero}
use lib.ListN.{length, get_or}
use Rattle.sets.specs.Bounded.{all}
use Rattle.sets.specs.Mask.{member}
use Rattle.sets.proofs.Logic.{and_left, and_right, beq_same}
use Rattle.sets.proofs.Bounded.{all_at}

-- the test passes at each entry of the list and its place, counted from i
unfoldable pub every : (ℕ → ℕ → Bool) → ℕ → List ℕ → Bool
every f i [] = true
every f i (x ∷ xs) = f i x && every f (suc i) xs

from : (f : ℕ → ℕ → Bool) (xs : List ℕ) (i : ℕ) → every f i xs ≡ true → (k : ℕ) → k < length xs → f (i + k) (get_or xs k 0) ≡ true
unfolding every
from f [] i t k h = absurd (not-suc-le-zero h)
from f (x ∷ xs) i t zero h = subst (λ (m : ℕ). f m x ≡ true) (sym (add-zero i)) (and_left (f i x) (every f (suc i) xs) t)
from f (x ∷ xs) i t (suc k) h =
    subst (λ (m : ℕ). f m (get_or xs k 0) ≡ true) (suc-add i k ∙ sym (add-suc i k))
    (from f xs (suc i) (and_right (f i x) (every f (suc i) xs) t) k (le_of_suc-le-suc h))

-- the entry k has as members those numbers below n that the rule gives for k
unfoldable pub right : ℕ → (ℕ → ℕ → Bool) → ℕ → ℕ → Bool
right n rule k x = all n (λ t. beq (member x t) (rule k t))

-- so a table that passes has them
pub entries : (n : ℕ) (rule : ℕ → ℕ → Bool) (xs : List ℕ) → every (right n rule) 0 xs ≡ true → (k : ℕ) → k < length xs → (t : ℕ) → t < n → member (get_or xs k 0) t ≡ rule k t
unfolding right
entries n rule xs e k h t l =
    beq_same (member (get_or xs k 0) t) (rule k t)
    (all_at n (λ t. beq (member (get_or xs k 0) t) (rule k t))
    (subst (λ (m : ℕ). right n rule m (get_or xs k 0) ≡ true) (zero-add k) (from (right n rule) xs 0 e k h)) t l)
