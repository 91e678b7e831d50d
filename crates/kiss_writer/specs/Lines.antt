-- The lines and the head as the writer has them, where the bits of input and output are known; and how long they are.
-- Assumes nothing.
use Rattle.std.specs.Prelude.{◌≡◌, List, ◌++◌, ℕ, zero, suc, ◌+◌, ◌*◌, ◌≤◌}
use Rattle.games.specs.Format.{max_cells, max_observations}
use Rattle.cards.specs.Card.{automaton, card_cells, card_actions, card_observations}
use Rattle.form.specs.Form.{digits}
use Rattle.text.specs.Text.{bytes}
use Rattle.kiss.specs.Text.{bits, cell_name, state_name, slot_text, state_text, head_text, newline}
use Rattle.kiss_writer.specs.declared.Bits.{Bits}

-- a line up to the cell that is entered
unfoldable pub line_front : (input q j : ℕ) → List ℕ
line_front i q j = digits 2 i j ++ bytes " " ++ state_name q ++ bytes " "

-- a line: on observation j state q goes to cell n, whose action is u
unfoldable pub line_of : (input output q j n u : ℕ) → List ℕ
line_of i b q j n u = line_front i q j ++ cell_name n ++ bytes " " ++ digits 2 b u ++ newline

-- the head up to the bits of input
unfoldable pub head_front : (a o input : ℕ) → List ℕ
head_front a o i = bytes "# actions " ++ digits 10 2 a ++ bytes " observations " ++ digits 10 2 o ++ bytes "\n.i " ++ digits 10 1 i

-- and the whole, by the number of states
unfoldable pub head_of : (a o states input output : ℕ) → List ℕ
head_of a o s i b =
    head_front a o i ++ bytes "\n.o " ++ digits 10 1 b ++ bytes "\n.s " ++ digits 10 5 s ++ bytes "\n.r reset\n"

-- the head of a card's text
abbrev pub card_head_text : List ℕ → List ℕ
card_head_text w = head_text (card_actions w) (card_observations w) (card_cells w)

-- one to three bits each
pub record Narrow (bs : Bits) : Type 0 where
  pub some_input : 1 ≤ bs.input
  pub inputs : bs.input ≤ 3
  pub some_output : 1 ≤ bs.output
  pub outputs : bs.output ≤ 3

-- the bits of a card
pub record Wide (w : List ℕ) (bs : Bits) : Type 0 where
  pub input : bs.input ≡ bits (card_observations w)
  pub output : bs.output ≡ bits (card_actions w)

-- the line of a state of a card for an observation, and the lines of a state
abbrev pub slot_of : List ℕ → (q j : ℕ) → List ℕ
slot_of w = slot_text (automaton w) (card_actions w) (card_observations w)

abbrev pub lines_of : List ℕ → (q : ℕ) → List ℕ
lines_of w = state_text (automaton w) (card_actions w) (card_observations w)

-- ---- how many bytes

-- a cell's name, and a state's
abbrev pub cell_bytes : ℕ
cell_bytes = 6

abbrev pub name_bytes : (q : ℕ) → ℕ
name_bytes zero = 5
name_bytes (suc c) = cell_bytes

-- a line: the bits of input and output, two names, three spaces and its end
abbrev pub line_bytes : (input output q : ℕ) → ℕ
line_bytes i b q = i + b + name_bytes q + cell_bytes + 4

-- a line at most, with three bits each
abbrev pub most_bytes : ℕ
most_bytes = 3 + 3 + cell_bytes + cell_bytes + 4

-- the lines at most
abbrev pub lines_bytes : ℕ
lines_bytes = (1 + max_cells) * (max_observations * most_bytes)

-- the lines of state q of a card have so many bytes each
abbrev pub LineLong : List ℕ → (q line : ℕ) → Type 0
LineLong w q line = line ≡ line_bytes (bits (card_observations w)) (bits (card_actions w)) q

-- the head up to the bits of input, and the whole
abbrev pub front_bytes : ℕ
front_bytes = 33

abbrev pub head_bytes : ℕ
head_bytes = 57
