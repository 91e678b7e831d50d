-- What the functions that number the kept cells and write them promise each other.
-- Assumes nothing.
use Rattle.std.specs.Prelude.{◌≡◌, Bool, true, cond, List, [], ◌∷◌, ℕ, ◌<◌, eqb, length, get_or}
use Rattle.sets.specs.Bounded.{count, select, gather}
use Rattle.games.specs.Automaton.{Automaton, no_cell}
use Rattle.games.specs.Fields.{word}
use Rattle.trimming.specs.Trim.{reached, kept, renumbered}
use Rattle.trimmer.specs.Halves.{lower_half, upper_half}
use Rattle.trimmer.specs.Marking.{named_from}

-- of m cells those that pass the test are numbered in their order: the numbers in the lower halves, the cells in the upper ones
pub record Numbered (m : ℕ) (test : ℕ → Bool) (w : List ℕ) : Type 0 where
  pub size : length w ≡ m
  pub new : (c : ℕ) → c < m → test c ≡ true → lower_half w c ≡ count c test
  pub old : (i : ℕ) → i < count m test → upper_half w i ≡ get_or (select m test) i 0

-- the same of an automaton's cells: the new number of each reached one, and the kept cells
pub record Renumbering (A : Automaton) (o : ℕ) (w : List ℕ) : Type 0 where
  pub size : length w ≡ A.size
  pub new : (c : ℕ) → c < A.size → reached A o c ≡ true → lower_half w c ≡ renumbered A o c
  pub old : (i : ℕ) → i < length (kept A o) → upper_half w i ≡ get_or (kept A o) i 0

-- a cell's new number; no cell stays none
abbrev pub numbered_as : (c number : ℕ) → ℕ
numbered_as c n = cond (eqb c no_cell) no_cell n

-- the new number of a cell, as it stands in the work
unfoldable pub new_name : List ℕ → (c : ℕ) → ℕ
new_name w c = numbered_as c (lower_half w c)

-- a word, and behind it those that the card has from a place on, of a kind and with new numbers
unfoldable pub row_words : (card : List ℕ) (at count kind own : ℕ) (work : List ℕ) → List ℕ
row_words w at n k own work = own ∷ gather n (λ j. word k (new_name work (named_from w at j)) j 0 ∷ [])
