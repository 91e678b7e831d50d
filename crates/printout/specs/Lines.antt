-- What the solving program prints (document 01, "Stations to try"): its lines, the text of a card, the text of an answer. Numbers are decimal.
-- Assumes nothing.
use Rattle.std.specs.Prelude.{cond, List, [], ◌∷◌, ◌++◌, ℕ, ◌+◌, ◌*◌, eqb}
use Rattle.sets.specs.Bounded.{gather}
use Rattle.games.specs.Automaton.{no_cell}
use Rattle.cards.specs.Card.{automaton, card_cells, card_observations}
use Rattle.text.specs.Text.{bytes}
use Rattle.text.specs.Decimal.{decimal}
use Rattle.std.specs.Prelude.{Ok, Err}
use Rattle.games.specs.Answers.{number_of}
use Rattle.solver.specs.Solve.{Answer}
use Rattle.solver.specs.declared.Verdict.TheVariants.{Yes, No}
use Rattle.std.specs.Prelude.{Err}

-- ---- lines

-- a field: a space, and the number
unfoldable pub field : ℕ → List ℕ
field n = bytes " " ++ decimal n

-- a cell's number; `-` for the number that says that the observation cannot occur
unfoldable pub cell_text : ℕ → List ℕ
cell_text c = cond (eqb c no_cell) (bytes "-") (decimal c)

unfoldable pub cell_field : ℕ → List ℕ
cell_field c = bytes " " ++ cell_text c

-- the byte that ends a line
abbrev pub newline : List ℕ
newline = 10 ∷ []

unfoldable pub yes_line : (settled cells : ℕ) → List ℕ
yes_line t m = bytes "yes" ++ field t ++ field m ++ newline

unfoldable pub first_line : (observation cell : ℕ) → List ℕ
first_line j c = bytes "first" ++ field j ++ cell_field c ++ newline

unfoldable pub cell_line : (cell set action : ℕ) → List ℕ
cell_line c s a = bytes "cell" ++ field c ++ field s ++ field a ++ newline

unfoldable pub next_line : (cell observation next : ℕ) → List ℕ
next_line c j d = bytes "next" ++ field c ++ field j ++ cell_field d ++ newline

unfoldable pub no_line : (round : ℕ) → List ℕ
no_line k = bytes "no" ++ field k ++ newline

unfoldable pub refused_line : (number place : ℕ) → List ℕ
refused_line n p = bytes "refused" ++ field n ++ field p ++ newline

-- ---- the text of a card, by what its words mean

-- the line of an observation's first cell, a cell's own line, and the line of the cell that an observation leads to
abbrev pub first_text : List ℕ → (observation : ℕ) → List ℕ
first_text w j = first_line j ((automaton w).begins j)

abbrev pub own_text : List ℕ → (cell : ℕ) → List ℕ
own_text w c = cell_line c ((automaton w).set c) ((automaton w).action c)

abbrev pub next_text : List ℕ → (cell observation : ℕ) → List ℕ
next_text w c j = next_line c j ((automaton w).next c j)

-- the first lines, for the observations in order
unfoldable pub front_text : List ℕ → List ℕ
front_text w = gather (card_observations w) (first_text w)

-- a cell's part: its own line, then its next lines, for the observations in order
unfoldable pub part_text : List ℕ → (cell : ℕ) → List ℕ
part_text w c = own_text w c ++ gather (card_observations w) (next_text w c)

-- the first lines, then the parts of the cells in order
unfoldable pub card_text : List ℕ → List ℕ
card_text w = front_text w ++ gather (card_cells w) (part_text w)

-- ---- what is printed for an answer: after a yes its card, which the other answers don't look at

unfoldable pub answer_text : Answer → (card : List ℕ) → List ℕ
answer_text (Ok (Yes settled cells)) w = yes_line settled cells ++ card_text w
answer_text (Ok (No round)) w = no_line round
answer_text (Err e) w = refused_line (number_of e.reason) e.place

-- ---- what is printed where there is no answer: the program could not read, or not write

abbrev pub unread_line : List ℕ
unread_line = bytes "the input can't be read" ++ newline

abbrev pub unwritten_line : List ℕ
unwritten_line = bytes "the answer can't be written" ++ newline

-- ---- how long a line is at most

-- a space and the digits of a 64-bit number
abbrev pub field_bytes : ℕ
field_bytes = 1 + 20

-- the longest word of a line, three fields, the end
abbrev pub line_bytes : ℕ
line_bytes = 7 + 3 * field_bytes + 1
