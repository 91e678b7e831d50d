-- A card as a certificate (document 02, change 1): four conditions on its words, each of which is about one word, say that it is safe
-- for a game; and what safe means.
-- Assumes nothing.
use Rattle.std.specs.Prelude.{Bool, true, cond, not, ◌&&◌, List, ℕ, ◌^◌, eqb, ltb, length}
use Rattle.sets.specs.Mask.{subset}
use Rattle.sets.specs.Bounded.{first, at_found}
use Rattle.games.specs.Answers.{unless}
use Rattle.games.specs.Game.{Game}
use Rattle.games.specs.Step.{safe, enabled_at, after}
use Rattle.games.specs.Verdict.{start_set}
use Rattle.games.specs.Automaton.{Automaton, no_cell}
use Rattle.games.specs.Words.{game}
use Rattle.games.specs.Answers.{Checked}
use Rattle.games.specs.Answers.{refused}
use Rattle.cards.specs.Card.{Spot, at_head, at_first, at_cell, at_next, spot_at, card_observations, automaton}
use Rattle.cards.specs.Kept.{Kept}
use Rattle.pairs.specs.Pair.{checked}
use Rattle.runner.specs.Control.{Controls}
use Rattle.games.specs.declared.Reason.TheVariants as reason
use Rattle.std.specs.Prelude.{Ok, Err}

-- the states of s lie in the set of the cell named; there are none where the word says "cannot occur"
unfoldable pub lies : Automaton → (s cell : ℕ) → Bool
lies A s c = cond (eqb c no_cell) (eqb s 0) (subset s (A.set c))

-- the start states showing the observation lie in the first cell named
unfoldable pub first_holds : Game → Automaton → (observation : ℕ) → Bool
first_holds g A j = lies A (start_set g j) (A.begins j)

-- the set has no state from n up and no bad one
unfoldable pub set_fits : Game → (s : ℕ) → Bool
set_fits g s = ltb s (2 ^ g.states) && safe g s

-- the cell's set fits, and the action is enabled at all its members
unfoldable pub cell_holds : Game → Automaton → (cell : ℕ) → Bool
cell_holds g A c = set_fits g (A.set c) && enabled_at g (A.set c) (A.action c)

-- the successors of the cell's set showing the observation lie in the next cell named
unfoldable pub next_holds : Game → Automaton → (cell observation : ℕ) → Bool
next_holds g A c j = lies A (after g (A.set c) (A.action c) j) (A.next c j)

-- the condition on a word, by where it stands
abbrev pub spot_holds : Game → Automaton → Spot → Bool
spot_holds g A at_head = true
spot_holds g A (at_first j) = first_holds g A j
spot_holds g A (at_cell c) = cell_holds g A c
spot_holds g A (at_next c j) = next_holds g A c j

unfoldable pub word_holds : Game → (card : List ℕ) → (place : ℕ) → Bool
word_holds g k p = spot_holds g (automaton k) (spot_at (card_observations k) p)

-- the lowest word at fault
unfoldable pub words_certified : Game → (card : List ℕ) → Checked
words_certified g k = at_found (first (length k) (λ p. not (word_holds g k p))) (refused reason.NotSafe) (Ok tt)

-- the table checks, 13, 16, 18
unfoldable pub certified : (table card : List ℕ) → Checked
certified w k = unless (checked w k) Err (words_certified (game w) k)

-- what is promised of a card that is accepted: it keeps every play clear, and on every play under the actions it gives it is in a cell
-- whose set holds the state and is never refused by 12, 13 or 14; nor is it in a runner
pub record Safe (g : Game) (card : List ℕ) : Type 0 where
  pub kept : Kept g card
  pub controls : Controls g card
