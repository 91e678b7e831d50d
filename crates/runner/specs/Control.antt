-- What is promised of a runner that holds a card, and of a run over a list, on the plays of a game under the card (document 01, "Run":
-- played on any play of its table under the actions it gives, a solver's card never meets 12, 13 or 14).
-- Assumes nothing.
use Rattle.std.specs.Prelude.{◌≡◌, List, ℕ, suc, ◌≤◌, length, take}
use Rattle.sets.specs.Bounded.{filled_by}
use Rattle.games.specs.Answers.{leaves}
use Rattle.games.specs.Game.{Game}
use Rattle.games.specs.Play.{Play, PlayOf, seen, rounds}
use Rattle.games.specs.Automaton.{cell_after, action_after}
use Rattle.games.specs.Demands.{UnderCard}
use Rattle.cards.specs.Card.{automaton}
use Rattle.cards.specs.Run.{entered, as_cell, stands}
use Rattle.runner.specs.Runs.{standing, ran_into}
use Rattle.std.specs.Prelude.{Ok}

-- the cell that the card is in after the observations, and the action that it gives there
abbrev pub cell : (card seen : List ℕ) → ℕ
cell k h = cell_after (automaton k) h

abbrev pub action : (card seen : List ℕ) → ℕ
action k h = action_after (automaton k) h

-- opened with the first of the observations and moved by the others, the runner is in that cell, and its last answer was to enter it
-- with that action: no refusal
abbrev pub Enters : (card seen : List ℕ) → Type 0
Enters k h = standing k h ≡ stands (as_cell (cell k h)) (entered (cell k h) (action k h))

-- on every play of the game under the actions that the card gives, the runner enters a cell on every move, and a run over the play's
-- observations takes them all and writes the actions
pub record Controls (g : Game) (k : List ℕ) : Type 0 where
  pub each_move : (p : Play) → PlayOf g p → UnderCard (automaton k) p → (i : ℕ) → 1 ≤ i → i ≤ rounds p → Enters k (take i (seen p))
  pub whole_run : (p : Play) → PlayOf g p → UnderCard (automaton k) p → (d : List ℕ) → rounds p ≤ length d →
      ran_into k (seen p) d ≡ leaves (Ok (rounds p)) (filled_by (rounds p) (λ i. action k (take (suc i) (seen p))) d)
