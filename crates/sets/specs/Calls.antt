-- What the calls of a test that was passed in answer.
-- Assumes nothing.
use Rattle.std.specs.Prelude.{◌≡◌, ◌<◌, Bool, ℕ}

-- below the bound, they answer as the definition does
abbrev pub Answers : (ℕ → Bool → Type 0) → ℕ → (ℕ → Bool) → Type 0
Answers gives n test = (i : ℕ) (r : Bool) → i < n → gives i r → r ≡ test i
