-- What a line changes in the words of a card, and the words of a blank card.
-- Assumes nothing.
use Rattle.std.specs.Prelude.{cond, List, [], ◌∷◌, ℕ, ◌+◌, ◌*◌, eqb, set}
use Rattle.sets.specs.Bounded.{gather}
use Rattle.games.specs.Format.{max_observations, max_cells, kind_first, kind_cell, kind_next}
use Rattle.games.specs.Automaton.{no_cell}
use Rattle.games.specs.Fields.{word}
use Rattle.games.specs.Words.{part_length, card_length}
use Rattle.cards.specs.Card.{cell_place}

-- the words of the longest card
abbrev pub most_words : ℕ
most_words = card_length max_cells max_observations

-- a row of a blank card: its own word, and o words that name no cell
abbrev pub blank_row : (kind own o : ℕ) → List ℕ
blank_row k own o = own ∷ gather o (λ j. word k no_cell j 0 ∷ [])

-- the word of a state for an observation: a first word of the reset state, a next word of a cell. The front is as long as a part, so it
-- stands in row `state`
abbrev pub slot_place : (o state observation : ℕ) → ℕ
slot_place o q j = q * part_length o + 1 + j

abbrev pub slot_kind : (state : ℕ) → ℕ
slot_kind q = cond (eqb q 0) kind_first kind_next

-- with a line: on observation j state q goes to cell n, whose set is empty and whose action is u
unfoldable pub stored : (o q j n u : ℕ) → List ℕ → List ℕ
stored o q j n u w = set (set w (slot_place o q j) (word (slot_kind q) n j 0)) (cell_place o n) (word kind_cell 0 0 u)
