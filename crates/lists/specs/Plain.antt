-- Join and meet in the plain words of document 01, without masks' width or tests.
-- Assumes nothing.
use Rattle.std.specs.Prelude.{◌≡◌, ◌⊎◌, true, ℕ}
use mathlib.Core.List.{List, Memᴰ}
use Rattle.sets.specs.Mask.{common, subset}
use Rattle.sets.specs.Family.{Antichain, Ascending}

-- a set of one of the lists
abbrev pub OfEither : List ℕ → List ℕ → ℕ → Type 0
OfEither k l s = Memᴰ s k ⊎ Memᴰ s l

-- the common part of one set from each
abbrev pub OfBoth : List ℕ → List ℕ → ℕ → Type 0
OfBoth k l s = (t : ℕ) × (u : ℕ) × Memᴰ t k × Memᴰ u l × (common t u ≡ s)

-- the list is that of the maximal ones: ascending without repeats, each one of them, none in another, and each of them lies in one listed
pub record MaximalOf (F : ℕ → Type 0) (r : List ℕ) : Type 0 where
  pub ascending : Ascending r
  pub sound : (s : ℕ) → Memᴰ s r → F s
  pub antichain : Antichain r
  pub complete : (t : ℕ) → F t → (s : ℕ) × Memᴰ s r × (subset t s ≡ true)
