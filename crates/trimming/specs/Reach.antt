-- Which cells of an automaton a list of observations can lead to (document 02, change 5).
-- Assumes nothing.
use Rattle.std.specs.Prelude.{◌≡◌, ℕ, ◌<◌}
use Rattle.games.specs.Automaton.{Automaton}

-- a first or next word with c in its low field names a cell: one of the automaton's
abbrev pub Names : Automaton → ℕ → Type 0
Names A c = c < A.size

-- the cell is reached, over o observations: a first word names it; a next word of a reached cell names it; or it is cell 0, and no first
-- word names a cell
pub data Reached (A : Automaton) (o : ℕ) : ℕ → Type 0 where
  by_first : {c : ℕ} (observation : ℕ) → observation < o → A.begins observation ≡ c → Names A c → Reached A o c
  by_next : {c : ℕ} (from observation : ℕ) → Reached A o from → observation < o → A.next from observation ≡ c → Names A c → Reached A o c
  alone : {c : ℕ} → c ≡ 0 → ((j : ℕ) → j < o → Names A (A.begins j) → ⊥) → Reached A o c
