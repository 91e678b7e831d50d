-- Running a card over its words and a cell number (document 01, "Entries": Run; refusals 13, 12, 14).
-- Assumes nothing.
use Rattle.std.specs.Prelude.{ℕ, cond, List, [], ◌∷◌, ◌==◌, nat_le}
use Rattle.games.specs.Answers.{unless}
use Rattle.games.specs.Automaton.{Automaton, no_cell}
use Rattle.games.specs.declared.Cell.{Cell}
use Rattle.games.specs.declared.Observation.{Observation}
use Rattle.games.specs.declared.Refusal.{Refusal}
use Rattle.cards.specs.declared.Entered.{Entered}
use Rattle.cards.specs.declared.Stood.{Stood}
use Rattle.cards.specs.Card.{automaton, card_observations, checked}
use Rattle.games.specs.declared.Reason.TheVariants as reason
use Rattle.games.specs.Answers.{refused}
use Rattle.std.specs.Prelude.{Result, Ok, Err, Option, None, Some}

-- a number as one of its column
abbrev pub as_cell : ℕ → Cell
as_cell c = record { 0 = c }

abbrev pub as_observation : ℕ → Observation
as_observation j = record { 0 = j }

-- what an observation leads to: a cell entered and its action, or a refusal
abbrev pub Move : Type 0
Move = Result Entered Refusal

-- the cell entered and its action
abbrev pub entered : (c a : ℕ) → Move
entered c a = Ok (record { cell = as_cell c; action = record { 0 = a } })

-- the cell that a first or next word names; 65,535 is none
abbrev pub led : ℕ → Option Cell
led c = cond (c == no_cell) None (Some (as_cell c))

-- entering the cell that there is, with its action; 14 where there is none
abbrev pub enters_if : Automaton → Option Cell → (j : ℕ) → Move
enters_if A None j = refused reason.CannotOccur j
enters_if A (Some c) j = entered c.0 (A.action c.0)

-- what the observation j leads to: the cell c and its action, or 14 where the automaton says that j cannot occur
unfoldable pub enters : Automaton → (c j : ℕ) → Move
enters A c j = cond (c == no_cell) (refused reason.CannotOccur j) (entered c (A.action c))

-- what an automaton for o observations does on the first observation
unfoldable pub begun : Automaton → (o j : ℕ) → Move
begun A o j = cond (nat_le o j) (refused reason.NumberBeyond j) (enters A (A.begins j) j)

-- what it does in cell c on a later one: the cell is looked at first
unfoldable pub followed : Automaton → (o c j : ℕ) → Move
followed A o c j = cond (nat_le A.size c) (refused reason.NumberBeyond c) (cond (nat_le o j) (refused reason.NumberBeyond j) (enters A (A.next c j) j))

-- opening a card with the first observation; the card's own refusal comes first
unfoldable pub opened : List ℕ → ℕ → Move
opened w j = unless (checked w) Err (begun (automaton w) (card_observations w) j)

-- a later observation in a cell
unfoldable pub stepped : List ℕ → (c j : ℕ) → Move
stepped w c j = unless (checked w) Err (followed (automaton w) (card_observations w) c j)

-- ---- a runner

-- a runner in cell c, whose last answer is m
abbrev pub stands : Cell → Move → Stood
stands c m = record { cell = c; answer = m }

-- the cell that a move leads to: the one entered, or the one given where it was refused
abbrev pub cell_or : Move → Cell → Cell
cell_or (Ok m) d = m.cell
cell_or (Err e) d = d

-- a runner after an answer
abbrev pub stands_after : Move → Cell → Stood
stands_after m c = stands (cell_or m c) m

-- opened with the first observation; a refused opening gives cell 65,535
abbrev pub starts : (card : List ℕ) → Observation → Stood
starts w j = stands_after (opened w j.0) (as_cell no_cell)

-- moved from a cell by a later observation; a refused runner stays in its cell
abbrev pub advances : (card : List ℕ) → Cell → Observation → Stood
advances w c j = stands_after (stepped w c.0 j.0) c

-- ---- a list of observations

-- one observation more: a step from the cell entered; a refusal stays
unfoldable pub moved : List ℕ → Move → ℕ → Move
moved w (Ok m) j = stepped w m.cell.0 j
moved w (Err e) j = Err e

unfoldable pub ran_from : List ℕ → Move → List ℕ → Move
ran_from w r [] = r
ran_from w r (j ∷ h) = ran_from w (moved w r j) h

-- what a card does on a list of observations: its last move, or its first refusal. Before the first observation it is in no cell,
-- and gives what a step gives from cell 65,535 (13, else 12)
unfoldable pub ran : List ℕ → List ℕ → Move
ran w [] = stepped w no_cell 0
ran w (j ∷ h) = ran_from w (opened w j) h
