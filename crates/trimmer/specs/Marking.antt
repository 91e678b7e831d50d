-- What the functions that mark the reached cells promise each other.
-- Assumes nothing.
use Rattle.std.specs.Prelude.{◌≡◌, ◌⊎◌, true, cond, List, ℕ, ◌+◌, ◌≤◌, ◌<◌, eqb, length, get_or}
use Rattle.sets.specs.Bounded.{count}
use Rattle.games.specs.Automaton.{Automaton, no_cell}
use Rattle.games.specs.Fields.{low_field}
use Rattle.trimming.specs.Reach.{Names, Reached}
use Rattle.trimming.specs.Trim.{reached, kept}
use Rattle.trimmer.specs.Halves.{half_values, upper_half, marked}
use Rattle.trimmer.specs.declared.Marks.{Marks}

-- of n cells that wait, the one that is next is held apart; those behind it stand in the upper halves of the words from 1 up to n
abbrev pub Waits : (w : List ℕ) (n next : ℕ) → (c : ℕ) → Type 0
Waits w n next c = ((0 < n) × (next ≡ c)) ⊎ ((i : ℕ) × (0 < i) × (i < n) × (upper_half w i ≡ c))

-- what waits are marked cells, no more than there are
pub record Listing (w : List ℕ) (n next : ℕ) : Type 0 where
  pub few : n ≤ count (length w) (marked w)
  pub fits : next < half_values
  pub sound : (c : ℕ) → Waits w n next c → (c < length w) × (marked w c ≡ true)

-- of `many` names in a row, those that are cells were marked, and wait where they were not marked before: n waited in w, and k do in v
pub record Added (name : ℕ → ℕ) (many : ℕ) (w : List ℕ) (n next : ℕ) (v : List ℕ) (k top : ℕ) : Type 0 where
  pub same : length v ≡ length w
  pub listing : Listing v k top
  pub grew : k + count (length w) (marked w) ≡ n + count (length w) (marked v)
  pub keeps : (c : ℕ) → Waits w n next c → Waits v k top c
  pub marks : (c : ℕ) → marked w c ≡ true → marked v c ≡ true
  pub all : (j : ℕ) → j < many → name j < length w → marked v (name j) ≡ true
  pub only : (c : ℕ) → marked v c ≡ true → (marked w c ≡ true) ⊎ (Waits v k top c × ((j : ℕ) × (j < many) × (name j ≡ c)))

-- what the card's words from a place on name
abbrev pub named_from : List ℕ → (at j : ℕ) → ℕ
named_from w at j = low_field (get_or w (at + j) 0)

-- one of so many cells, or none
abbrev pub NamesInside : (c cells : ℕ) → Type 0
NamesInside c m = (c < m) ⊎ (c ≡ no_cell)

-- the cell that a word names, or the other one where it names none
abbrev pub named_or : (cell other : ℕ) → ℕ
named_or c d = cond (eqb c no_cell) d c

-- so many words from a place on lie in the card, and each names one of its cells or none
pub record Naming (w : List ℕ) (at many cells : ℕ) : Type 0 where
  pub within : at + many ≤ length w
  pub few : cells ≤ no_cell
  pub named : (j : ℕ) → j < many → NamesInside (named_from w at j) cells

-- a cell that is marked
pub record Own (w : List ℕ) (c : ℕ) : Type 0 where
  pub inside : c < length w
  pub is_marked : marked w c ≡ true

-- the cell that the first words begin with: the first one that is named, or cell 0 where none is
pub record FirstNamed (A : Automaton) (o c : ℕ) : Type 0 where
  pub inside : Names A c
  pub found : ((j : ℕ) × (j < o) × (A.begins j ≡ c)) ⊎ ((c ≡ 0) × ((j : ℕ) → j < o → Names A (A.begins j) → ⊥))

-- the cells that the next words of c name are marked
abbrev pub Done : Automaton → (o : ℕ) → List ℕ → (c : ℕ) → Type 0
Done A o w c = (j : ℕ) → j < o → Names A (A.next c j) → marked w (A.next c j) ≡ true

-- the cells where a run begins are marked, and none but reached ones; t of the marked cells were taken up, and n wait
pub record Taking (A : Automaton) (o t : ℕ) (w : List ℕ) (n next : ℕ) : Type 0 where
  pub size : length w ≡ A.size
  pub listing : Listing w n next
  pub many : t + n ≡ count A.size (marked w)
  pub firsts : (j : ℕ) → j < o → Names A (A.begins j) → marked w (A.begins j) ≡ true
  pub zeroth : ((j : ℕ) → j < o → Names A (A.begins j) → ⊥) → marked w 0 ≡ true
  pub only : (c : ℕ) → c < A.size → marked w c ≡ true → Reached A o c
  pub done : (c : ℕ) → c < A.size → marked w c ≡ true → Waits w n next c ⊎ Done A o w c

-- just the reached cells are marked, n of them
pub record Marked (A : Automaton) (o : ℕ) (w : List ℕ) (n : ℕ) : Type 0 where
  pub size : length w ≡ A.size
  pub just : (c : ℕ) → c < A.size → marked w c ≡ reached A o c
  pub many : n ≡ length (kept A o)

-- ---- the same of the marks as the code holds them, with the cells that wait

abbrev pub ListingOf : Marks → Type 0
ListingOf m = Listing m.work.now m.waiting m.next.0

abbrev pub TakingOf : Automaton → (o t : ℕ) → Marks → Type 0
TakingOf A o t m = Taking A o t m.work.now m.waiting m.next.0

-- the marks m became v: they still stand in the same work
pub record Adds (name : ℕ → ℕ) (many : ℕ) (m v : Marks) : Type 0 where
  pub same_work : v.work.ghost_name ≡ m.work.ghost_name
  pub added : Added name many m.work.now m.waiting m.next.0 v.work.now v.waiting v.next.0

-- one cell less waits, and the one behind it is next; no word changed
pub record TakenOff (m v : Marks) : Type 0 where
  pub same_work : v.work.ghost_name ≡ m.work.ghost_name
  pub unchanged : v.work.now ≡ m.work.now
  pub less : v.waiting + 1 ≡ m.waiting
  pub behind : v.next.0 ≡ upper_half m.work.now v.waiting
  pub fits : v.next.0 < half_values
