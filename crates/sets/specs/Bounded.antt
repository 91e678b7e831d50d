-- Tests on the numbers below a bound, in the order in which a loop counts up.
-- Assumes nothing.
use Rattle.std.specs.Prelude.{Bool, true, false, cond, ◌&&◌, ◌||◌, List, [], ◌∷◌, ◌++◌, ℕ, zero, suc, leb, get_or, drop, replicate}

-- every number below the bound passes
unfoldable pub all : ℕ → (ℕ → Bool) → Bool
all zero test = true
all (suc n) test = all n test && test n

-- some number below the bound passes
unfoldable pub any : ℕ → (ℕ → Bool) → Bool
any zero test = false
any (suc n) test = any n test || test n

pub data Found : Type 0 where
  nothing : Found
  found : ℕ → Found

-- the lowest number below the bound that passes; no number is tested after it
unfoldable pub first : ℕ → (ℕ → Bool) → Found
first zero test = nothing
first (suc n) test = elim (first n test) [ nothing ↦ elim (test n) [ false ↦ nothing | true ↦ found n ] | found i ↦ found i ]

-- the number found, or the value given where there is none
abbrev pub or_else : Found → ℕ → ℕ
or_else nothing d = d
or_else (found i) d = i

-- what is said of the number found, else what follows
abbrev pub at_found : {A : Type 0} → Found → (ℕ → A) → A → A
at_found nothing said rest = rest
at_found (found i) said rest = said i

-- how many numbers below the bound pass
unfoldable pub count : ℕ → (ℕ → Bool) → ℕ
count zero test = 0
count (suc n) test = cond (test n) (suc (count n test)) (count n test)

-- the number at place i of the list is `bound` or more
abbrev pub reaches : List ℕ → ℕ → ℕ → Bool
reaches l bound i = leb bound (get_or l i 0)

-- the numbers below the bound that pass, ascending
unfoldable pub select : ℕ → (ℕ → Bool) → List ℕ
select zero test = []
select (suc n) test = select n test ++ cond (test n) (n ∷ []) []

-- the lists for the numbers below the bound, one behind the other
unfoldable pub gather : ℕ → (ℕ → List ℕ) → List ℕ
gather zero piece = []
gather (suc n) piece = gather n piece ++ piece n

-- the list with its first k places set to f 0, f 1, and so on
abbrev pub filled_by : ℕ → (ℕ → ℕ) → List ℕ → List ℕ
filled_by k f d = gather k (λ i. f i ∷ []) ++ drop k d

-- the list with its first n places set to v
abbrev pub fill : ℕ → ℕ → List ℕ → List ℕ
fill n v d = replicate n v ++ drop n d
