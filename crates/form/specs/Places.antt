-- What stands at a place of a text: a byte, a digit, a number.
-- Assumes nothing.
use Rattle.std.specs.Prelude.{◌≡◌, List, ℕ, ◌+◌, ◌^◌, ◌≤◌, ◌<◌, length, Option, None, Some}
use Rattle.form.specs.Form.{ending, Spells, byte_at, digits}

-- a byte, or the text's end
abbrev pub next_byte : Option ℕ → ℕ
next_byte None = ending
next_byte (Some b) = b

-- what a byte says as a digit of a base, if it is one
abbrev pub Digit : (base b : ℕ) → Option ℕ → Type 0
Digit base b None = (48 ≤ b) → (b < 48 + base) → ⊥
Digit base b (Some d) = (b ≡ 48 + d) × (d < base)

-- a number stands in the text, by its digits
pub record Said (t : List ℕ) (at base width v : ℕ) : Type 0 where
  pub within : at + width ≤ length t
  pub below : v < base ^ width
  pub spells : Spells (byte_at t) at (digits base width v)
