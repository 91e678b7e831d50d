-- Words as little-endian bytes.
-- Assumes nothing.
use Rattle.std.specs.Prelude.{List, [], ◌∷◌, ℕ, ◌+◌, ◌*◌, get_or}
use Rattle.sets.specs.Bounded.{gather}

-- the word whose bytes begin at a place, the lowest first
abbrev pub word : List ℕ → ℕ → ℕ
word b at = get_or b at 0 + 256 * get_or b (at + 1) 0 + 65536 * get_or b (at + 2) 0 + 16777216 * get_or b (at + 3) 0

-- the first n words
unfoldable pub words_of : ℕ → List ℕ → List ℕ
words_of n b = gather n (λ i. word b (4 * i) ∷ [])
