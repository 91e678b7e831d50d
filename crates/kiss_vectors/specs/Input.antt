-- What the lines of the input mean.
-- Assumes nothing.
use Rattle.std.specs.Prelude.{List, ℕ, zero, suc, ◌+◌, ◌-◌, ◌*◌, ◌%◌, cond, eqb, ltb, slice_index_or}
use Rattle.kiss_vectors.specs.declared.source.Source.{Source}
use Rattle.kiss_vectors.specs.declared.source.Source.TheVariants.{Words, Chain, Text}

-- the byte that is shown: `|` is a newline, `<` a carriage return, `>` a tab, `_` a space
abbrev pub meant : ℕ → ℕ
meant b = cond (eqb b 124) 10 (cond (eqb b 60) 13 (cond (eqb b 62) 9 (cond (eqb b 95) 32 b)))

-- the digit that a byte is: 0 to 9, and `A` to `F`; any other byte is one too
abbrev pub digit : ℕ → ℕ
digit b = cond (ltb b 65) (b % 16) ((b - 65 + 10) % 16)

-- what so many columns in front hold; 0 stands for each that isn't there
unfoldable pub value : (radix columns : ℕ) → List ℕ → ℕ
value radix zero w = 0
value radix (suc n) w = value radix n w * radix + digit (slice_index_or w n 0)

-- a line's first byte, 0 where it has none
abbrev pub letter : List ℕ → ℕ
letter w = slice_index_or w 0 0

-- `k` and `t` are letters of sources, any other is taken for `c`
abbrev pub known : ℕ → ℕ
known b = cond (eqb b 107) 107 (cond (eqb b 116) 116 99)

-- the letter of a source's line
abbrev pub letter_of : Source → ℕ
letter_of (Words _) = 99
letter_of (Chain _) = 107
letter_of (Text _) = 116

-- what stands behind the letter
abbrev pub text_of : Source → List ℕ
text_of (Words t) = t.now
text_of (Chain t) = t.now
text_of (Text t) = t.now
