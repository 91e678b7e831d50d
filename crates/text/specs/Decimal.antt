-- Numbers as decimal digits in ASCII.
-- Assumes nothing.
use Rattle.std.specs.Prelude.{true, false, cond, List, [], ◌∷◌, ◌++◌, ℕ, zero, suc, ◌+◌, ◌-◌, ◌/◌, ◌%◌, ltb, get_or}

-- the byte of a digit
abbrev pub digit : ℕ → ℕ
digit d = 48 + d

-- the last k digits of n, or all where there are fewer
unfoldable pub last_digits : ℕ → ℕ → List ℕ
last_digits zero n = []
last_digits (suc k) n = elim (ltb n 10) [ true ↦ digit n ∷ [] | false ↦ last_digits k (n / 10) ++ (digit (n % 10) ∷ []) ]

-- n in decimal, with no zero in front; n + 1 digits are enough
unfoldable pub decimal : ℕ → List ℕ
decimal n = last_digits (suc n) n

-- the value of a byte as a digit; 10 where it is none
unfoldable pub digit_of : ℕ → ℕ
digit_of b = cond (ltb b 48) 10 (cond (ltb 57 b) 10 (b - 48))

-- the digit at a place of a text; 10 where there is none, past the end too
unfoldable pub digit_at : List ℕ → ℕ → ℕ
digit_at l i = digit_of (get_or l i 0)
