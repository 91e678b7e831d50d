-- A set of states as a mask: bit i is state i (document 01, "The game").
-- Assumes nothing.
use Rattle.std.specs.Prelude.{Bool, cond, ℕ, zero, suc, ◌-◌, ◌/◌, ◌%◌, ◌^◌, eqb}
use Rattle.std.specs.Int.Bits.{bit_and, bit_or}

-- state i is a member of s
abbrev pub member : ℕ → ℕ → Bool
member s i = eqb (s / 2 ^ i % 2) 1

-- the states in both, and the states in either
abbrev pub common : ℕ → ℕ → ℕ
common s t = bit_and s t

abbrev pub union : ℕ → ℕ → ℕ
union s t = bit_or s t

-- each member of s is a member of t
abbrev pub subset : ℕ → ℕ → Bool
subset s t = eqb (common s t) s

-- the set of the one state i
abbrev pub single : ℕ → ℕ
single i = 2 ^ i

-- s, its member i taken out
abbrev pub without : ℕ → ℕ → ℕ
without s i = cond (member s i) (s - single i) s

-- what f gives for the members of s below n, united
unfoldable pub union_over : ℕ → ℕ → (ℕ → ℕ) → ℕ
union_over zero s f = 0
union_over (suc n) s f = union (union_over n s f) (cond (member s n) (f n) 0)
