-- Families of sets of states below n, and their maximal sets.
-- Assumes nothing.
use Rattle.std.specs.Prelude.{◌≡◌, Bool, true, false, not, ◌&&◌, ◌||◌, ℕ, ◌^◌, ◌<◌, eqb}
use Rattle.std.specs.Bool.{beq}
use mathlib.Core.List.{List, [], ◌∷◌, Memᴰ}
use Rattle.sets.specs.Mask.{common, subset}
use Rattle.sets.specs.Bounded.{all, select}

-- a family: which sets belong to it
abbrev pub Family : Type 0
Family = ℕ → Bool

-- every subset of a set of the family is in it
abbrev pub DownClosed : Family → Type 0
DownClosed F = (s t : ℕ) → F s ≡ true → subset t s ≡ true → F t ≡ true

-- the two have the same sets of states below n
unfoldable pub same : ℕ → Family → Family → Bool
same n F G = all (2 ^ n) (λ s. beq (F s) (G s))

-- s is in F, and no other set of F holds it
unfoldable pub is_maximal : ℕ → Family → ℕ → Bool
is_maximal n F s = F s && all (2 ^ n) (λ t. not (F t && subset s t) || eqb t s)

-- the maximal sets of F in ascending order of mask (document 01: an antichain, the list)
unfoldable pub maximal : ℕ → Family → List ℕ
maximal n F = select (2 ^ n) (is_maximal n F)

-- s is one of the list
unfoldable pub listed : List ℕ → Family
listed [] s = false
listed (t ∷ l) s = eqb t s || listed l s

-- some set of the list holds s
unfoldable pub holds : List ℕ → Family
holds [] s = false
holds (t ∷ l) s = subset s t || holds l s

-- s is the common part of t and one set of the list
unfoldable pub cut : ℕ → List ℕ → Family
cut t [] s = false
cut t (u ∷ l) s = eqb (common t u) s || cut t l s

-- s is the common part of one set from each list
unfoldable pub cuts : List ℕ → List ℕ → Family
cuts [] l s = false
cuts (t ∷ k) l s = cut t l s || cuts k l s

-- the maximal sets of both lists
unfoldable pub join : ℕ → List ℕ → List ℕ → List ℕ
join n k l = maximal n (λ s. listed k s || listed l s)

-- the maximal common parts of one set from each list
unfoldable pub meet : ℕ → List ℕ → List ℕ → List ℕ
meet n k l = maximal n (cuts k l)

-- no set of the list lies in another
abbrev pub Antichain : List ℕ → Type 0
Antichain l = (s t : ℕ) → Memᴰ s l → Memᴰ t l → subset s t ≡ true → s ≡ t

-- each set's mask is below those after it
pub data Ascending : List ℕ → Type 0 where
  none : Ascending []
  more : {s : ℕ} {l : List ℕ} → ((t : ℕ) → Memᴰ t l → s < t) → Ascending l → Ascending (s ∷ l)
