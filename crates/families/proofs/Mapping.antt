-- A loop that stores a word at each place, from the first up.
-- Assumes nothing.
use mathlib.Core.Path.{◌≡◌, sym, ◌∙◌, subst}
use mathlib.Core.Logic.{⊎_elim}
use mathlib.Core.List.{List}
use Prim.Native.Nat.{ℕ, ◌+◌, ◌≤◌, ◌<◌}
use native.Mathlib.Omega.{arith}
use lib.Dec.{eqb}
use lib.ListN.{length, get_or, set, length-set}
use lib.Seq.{get_or-set_same, get_or-set_other}
use borrow.Author.Tests.{eqb-true, eqb-false}
use Rattle.sets.proofs.Logic.{decided}

-- the words below i are as P asks of each place and its word, the others are as they were
pub record Mapping (P : ℕ → ℕ → Type 0) (old bits : List ℕ) (i : ℕ) : Type 0 where
  pub within : i ≤ length old
  pub long : length bits ≡ length old
  pub done : (m : ℕ) → m < i → P m (get_or bits m 0)
  pub kept : (m : ℕ) → i ≤ m → get_or bits m 0 ≡ get_or old m 0

-- one turn, however the word was stored
module _ (P : ℕ → ℕ → Type 0) (old bits : List ℕ) (i : ℕ) (w : Mapping P old bits i) (l : i < length old) where
  pub mapping_by : (new : List ℕ) → length new ≡ length bits → ((m : ℕ) → (m ≡ i → ⊥) → get_or new m 0 ≡ get_or bits m 0) → P i (get_or new i 0) → Mapping P old new (i + 1)
  mapping_by new long others p =
      record {
        within = omega arith;
        long = long ∙ w.long;
        done = λ m h. ⊎_elim
            (λ e. subst (λ (x : ℕ). P x (get_or new x 0)) (sym (eqb-true m i e)) p)
            (λ e. subst (P m) (sym (others m (eqb-false m i e))) (w.done m (omega (arith, eqb-false m i e))))
            (decided (eqb m i));
        kept = λ m h. others m (λ d. omega arith) ∙ w.kept m (omega arith);
      }

-- by a store
pub mapping_more : (P : ℕ → ℕ → Type 0) (old bits : List ℕ) (i word : ℕ) → Mapping P old bits i → i < length old → P i word → Mapping P old (set bits i word) (i + 1)
mapping_more P old bits i word w l p =
    mapping_by P old bits i w l (set bits i word) (length-set bits i word) (λ m e. get_or-set_other bits i m word 0 e)
    (subst (P i) (sym (get_or-set_same bits i word 0 (omega (arith, w.long)))) p)
