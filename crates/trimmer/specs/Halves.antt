-- The words of the work, each taken as two halves of 16 bits.
-- Assumes nothing.
use Rattle.std.specs.Prelude.{Bool, List, ℕ, ◌+◌, ◌*◌, ◌/◌, ◌%◌, ◌^◌, ltb, get_or, set}

-- the numbers that a half can hold
abbrev pub half_values : ℕ
half_values = 2 ^ 16

abbrev pub lower_half : List ℕ → (i : ℕ) → ℕ
lower_half w i = get_or w i 0 % half_values

abbrev pub upper_half : List ℕ → (i : ℕ) → ℕ
upper_half w i = get_or w i 0 / half_values

-- word i with another lower half; with another upper half
unfoldable pub put_lower : List ℕ → (i x : ℕ) → List ℕ
put_lower w i x = set w i (upper_half w i * half_values + x)

unfoldable pub put_upper : List ℕ → (i x : ℕ) → List ℕ
put_upper w i x = set w i (x * half_values + lower_half w i)

-- cell c is marked: the lower half of its word is not 0
unfoldable pub marked : List ℕ → (c : ℕ) → Bool
marked w c = ltb 0 (lower_half w c)
