-- Document 01's card by what it means: an automaton over observations that gives an action in each cell (document 000, Theorem 12).
-- Assumes nothing.
use Rattle.std.specs.Prelude.{Bool, cond, not, ◌&&◌, ◌||◌, List, [], ◌∷◌, ℕ, ◌-◌, eqb, leb, ltb, length, get_or}
use Rattle.sets.specs.Mask.{member, subset}
use Rattle.sets.specs.Bounded.{all, first, or_else, count}
use Rattle.games.specs.Format.{max_states, low_values}
use Rattle.games.specs.Game.{Game}
use Rattle.games.specs.Step.{after, lowest}
use Rattle.games.specs.Verdict.{start_set, settled, cells}

-- the largest cell number says: the observation cannot occur here
abbrev pub no_cell : ℕ
no_cell = low_values - 1

pub record Automaton : Type 0 where
  -- the number of cells; a cell's set and action; the first cell by observation, the next by cell and observation
  pub size : ℕ
  pub set : ℕ → ℕ
  pub action : ℕ → ℕ
  pub begins : ℕ → ℕ
  pub next : ℕ → ℕ → ℕ

-- the cell that an observation leads to; from no cell it leads to none
unfoldable pub next_cell : Automaton → (cell observation : ℕ) → ℕ
next_cell A c o = cond (ltb c A.size) (A.next c o) no_cell

-- the cell that it is in after the observations: from a cell, and from the opening
unfoldable pub cell_from : Automaton → ℕ → List ℕ → ℕ
cell_from A c [] = c
cell_from A c (o ∷ h) = cell_from A (next_cell A c o) h

unfoldable pub cell_after : Automaton → List ℕ → ℕ
cell_after A [] = no_cell
cell_after A (o ∷ h) = cell_from A (A.begins o) h

-- the action that it gives there
unfoldable pub action_after : Automaton → List ℕ → ℕ
action_after A h = A.action (cell_after A h)

-- how many states a set has
unfoldable pub state_count : ℕ → ℕ
state_count s = count max_states (member s)

-- the set of cell c holds s
abbrev pub holds_at : List ℕ → ℕ → ℕ → Bool
holds_at l s c = subset s (get_or l c 0)

-- it does, and no cell whose set holds s has fewer states
unfoldable pub tightest_at : List ℕ → ℕ → ℕ → Bool
tightest_at l s c = holds_at l s c && all (length l) (λ d. not (holds_at l s d) || leb (state_count (get_or l c 0)) (state_count (get_or l d 0)))

-- the cell named for s: of those whose sets hold s with the fewest states the lowest-numbered, or `no_cell` if s has no state
unfoldable pub holding : List ℕ → ℕ → ℕ
holding l s = cond (eqb s 0) no_cell (or_else (first (length l) (tightest_at l s)) no_cell)

-- a settled set's action: the lowest that meets the step
unfoldable pub chosen : Game → ℕ → ℕ
chosen g s = lowest g (settled g) s

-- the card of a yes
unfoldable pub card : Game → Automaton
card g =
    let l = cells g in
    record {
      size = length l;
      set = λ c. get_or l c 0;
      action = λ c. chosen g (get_or l c 0);
      begins = λ o. holding l (start_set g o);
      next = λ c o. holding l (after g (get_or l c 0) (chosen g (get_or l c 0)) o);
    }
