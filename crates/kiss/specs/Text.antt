-- The text of a card as KISS2, the one that docs/KISS2.md fixes (document 02, change 6).
-- Assumes nothing.
use Rattle.std.specs.Prelude.{cond, List, [], ◌∷◌, ◌++◌, ℕ, zero, suc, ◌^◌, eqb, ltb}
use Rattle.sets.specs.Bounded.{count, gather}
use Rattle.games.specs.Automaton.{Automaton, no_cell}
use Rattle.cards.specs.Card.{automaton, card_actions, card_observations}
use Rattle.text.specs.Text.{bytes}
use Rattle.form.specs.Form.{digits}

-- the fewest bits that hold n - 1, at least one: one, and one more for each power of two from 2 up that is below n
unfoldable pub bits : ℕ → ℕ
bits n = suc (count n (λ k. ltb (2 ^ suc k) n))

-- the states of the machine: number 0 is the reset state, number 1 + c is cell c
unfoldable pub cell_name : ℕ → List ℕ
cell_name c = bytes "c" ++ digits 10 5 c

unfoldable pub state_name : ℕ → List ℕ
state_name zero = bytes "reset"
state_name (suc c) = cell_name c

-- the cell that a state goes to on an observation, or `no_cell` where that cannot occur
unfoldable pub target : Automaton → (state observation : ℕ) → ℕ
target A zero j = A.begins j
target A (suc c) j = A.next c j

-- the byte that ends a line
abbrev pub newline : List ℕ
newline = 10 ∷ []

-- a line: on observation j state q goes to cell n, whose action is u
unfoldable pub line_text : (a o q j n u : ℕ) → List ℕ
line_text a o q j n u =
    digits 2 (bits o) j ++ bytes " " ++ state_name q ++ bytes " " ++ cell_name n ++ bytes " " ++ digits 2 (bits a) u ++ newline

-- the line of a state for an observation; none where that cannot occur
unfoldable pub slot_text : Automaton → (a o q j : ℕ) → List ℕ
slot_text A a o q j = let n = target A q j in cond (eqb n no_cell) [] (line_text a o q j n (A.action n))

-- the lines of a state
unfoldable pub state_text : Automaton → (a o q : ℕ) → List ℕ
state_text A a o q = gather o (slot_text A a o q)

-- what stands before the lines: actions and observations in a comment; the bits of input and output; the states, m cells and the reset
-- state; the reset state
unfoldable pub head_text : (a o m : ℕ) → List ℕ
head_text a o m =
    bytes "# actions " ++ digits 10 2 a ++ bytes " observations " ++ digits 10 2 o
    ++ bytes "\n.i " ++ digits 10 1 (bits o) ++ bytes "\n.o " ++ digits 10 1 (bits a)
    ++ bytes "\n.s " ++ digits 10 5 (suc m) ++ bytes "\n.r reset\n"

-- the text of an automaton for a actions and o observations: the head, the lines of the states in their order, the end
unfoldable pub machine_text : Automaton → (a o : ℕ) → List ℕ
machine_text A a o = head_text a o A.size ++ gather (suc A.size) (state_text A a o) ++ bytes ".e\n"

-- the text of a card
unfoldable pub kiss_text : List ℕ → List ℕ
kiss_text w = machine_text (automaton w) (card_actions w) (card_observations w)
