-- Readers of text. Each reads at a place, and answers the place behind, or the first wrong place.
-- Assumes nothing.
use Rattle.std.specs.Prelude.{Bool, cond, ◌||◌, List, [], ◌∷◌, ℕ, suc, ◌+◌, ◌*◌, eqb, ltb, drop, Result, Ok, Err}
use Rattle.text.specs.Decimal.{digit_of}
use Rattle.text.specs.declared.Wrong.{Wrong}

-- place i is the first wrong one
abbrev pub wrong : {A : Type 0} → ℕ → Result A Wrong
wrong i = Err (record { place = i })

-- ---- a literal run of bytes

-- l, which begins at place i, is to begin with s; the first byte that differs is wrong, and so is the end of l before that of s
unfoldable pub matched : List ℕ → ℕ → List ℕ → Result ℕ Wrong
matched [] i l = Ok i
matched (b ∷ s) i [] = wrong i
matched (b ∷ s) i (c ∷ l) = cond (eqb c b) (matched s (suc i) l) (wrong i)

-- s is to stand at place i
unfoldable pub skipped : List ℕ → List ℕ → ℕ → Result ℕ Wrong
skipped s l i = matched s i (drop i l)

-- ---- a number in decimal

-- the number v was read, up to place i
abbrev pub number : ℕ → ℕ → Result (ℕ × ℕ) Wrong
number v i = Ok (v, i)

-- no number: place i is wrong
abbrev pub no_number : ℕ → Result (ℕ × ℕ) Wrong
no_number i = wrong i

-- the digit d may not follow the number v: that would give a leading zero, or a number above `most`
unfoldable pub misplaced : (most v d : ℕ) → Bool
misplaced most v d = eqb v 0 || ltb most (v * 10 + d)

-- v was read so far; l, which begins at place i, may go on with digits
unfoldable pub further_digits : (most v i : ℕ) → List ℕ → Result (ℕ × ℕ) Wrong
further_digits most v i [] = number v i
further_digits most v i (b ∷ l) =
    cond (ltb 9 (digit_of b)) (number v i)
    (cond (misplaced most v (digit_of b)) (no_number i) (further_digits most (v * 10 + digit_of b) (suc i) l))

-- l, which begins at place i, is to begin with a number of at most `most`
unfoldable pub number_of : (most i : ℕ) → List ℕ → Result (ℕ × ℕ) Wrong
number_of most i [] = no_number i
number_of most i (b ∷ l) =
    cond (ltb 9 (digit_of b)) (no_number i) (cond (ltb most (digit_of b)) (no_number i) (further_digits most (digit_of b) (suc i) l))

-- a number of at most `most` is to stand at place i
unfoldable pub read_decimal : (most : ℕ) → List ℕ → ℕ → Result (ℕ × ℕ) Wrong
read_decimal most l i = number_of most i (drop i l)
