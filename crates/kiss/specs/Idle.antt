-- Which cells a sequence of observations leads to, and the lowest that none does (document 02, change 6: refusal 20).
-- Assumes nothing.
use Rattle.std.specs.Prelude.{◌≡◌, Bool, not, ◌&&◌, List, ℕ, ◌<◌, Option, None, Some}
use Rattle.sets.specs.Bounded.{Found, first, at_found}
use Rattle.games.specs.declared.Cell.{Cell}
use Rattle.games.specs.Automaton.{Automaton}
use Rattle.cards.specs.Card.{automaton, card_cells, card_observations}
use Rattle.cards.specs.Run.{as_cell, entered, ran}
use Rattle.trimming.specs.Trim.{no_first, reached}

-- an observation leads to the cell at first, or from a cell that a sequence leads to. Where no first word names a cell, nothing leads to
-- any: cell 0 is no exception here, as it is for the trimmer
pub data Led (A : Automaton) (o : ℕ) : ℕ → Type 0 where
  at_first : {c : ℕ} (observation : ℕ) → observation < o → A.begins observation ≡ c → c < A.size → Led A o c
  later : {c : ℕ} (from observation : ℕ) → Led A o from → observation < o → A.next from observation ≡ c → c < A.size → Led A o c

-- the same as a test
unfoldable pub led : Automaton → (o c : ℕ) → Bool
led A o c = not (no_first A o) && reached A o c

-- the lowest cell that is not led to
unfoldable pub idle : List ℕ → Found
idle w = first (card_cells w) (λ c. not (led (automaton w) (card_observations w) c))

-- a number that was found as the cell that it is; none where none was
abbrev pub cell_found : Found → Option Cell
cell_found f = at_found f (λ c. Some (as_cell c)) None

-- in plain words: no list of observations makes the card enter cell c, and some list makes it enter each cell below
pub record LowestIdle (w : List ℕ) (c : ℕ) : Type 0 where
  pub inside : c < card_cells w
  pub never : (h : List ℕ) (a : ℕ) → ran w h ≡ entered c a → ⊥
  pub below : (d : ℕ) → d < c → (h : List ℕ) × (ran w h ≡ entered d ((automaton w).action d))
