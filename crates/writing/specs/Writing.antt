-- The words of the card, by the parts in which they are written.
-- Assumes nothing.
use Rattle.std.specs.Prelude.{◌≡◌, true, List, [], ◌∷◌, ℕ, ◌^◌, ◌<◌, length}
use Rattle.sets.specs.Bounded.{gather}
use Rattle.families.specs.Bits.{lanes, sets}
use Rattle.games.specs.Format.{kind_first, kind_cell, kind_next}
use Rattle.games.specs.Game.{Game}
use Rattle.games.specs.Step.{after}
use Rattle.games.specs.Verdict.{start_sets, start_set, settled, cells}
use Rattle.games.specs.Automaton.{holding, chosen}
use Rattle.games.specs.Fields.{word}
use Rattle.games.specs.Words.{game, card_head}

-- the cells of an accepted table, as bits, and the number of the sets of its states
pub record Listed (table tops : List ℕ) (base : ℕ) : Type 0 where
  pub are : sets tops ≡ cells (game table)
  pub wide : length tops ≡ lanes (game table).states
  pub all_sets : base ≡ 2 ^ (game table).states

-- a settled set
pub record SettledSet (g : Game) (s : ℕ) : Type 0 where
  pub below : s < 2 ^ g.states
  pub is_settled : settled g s ≡ true

-- the head and the first cells
unfoldable pub front_words : Game → List ℕ
front_words g =
    card_head (length (cells g)) g.observations g.actions
    ∷ gather (start_sets g) (λ j. word kind_first (holding (cells g) (start_set g j)) j 0 ∷ [])

-- a cell's set and action, and its next cells
unfoldable pub set_words : Game → ℕ → List ℕ
set_words g s =
    word kind_cell s 0 (chosen g s)
    ∷ gather g.observations (λ j. word kind_next (holding (cells g) (after g s (chosen g s) j)) j 0 ∷ [])
