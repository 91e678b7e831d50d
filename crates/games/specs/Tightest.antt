-- Document 02, change 3, in plain words: the cell that a first or next word names says as much as a cell can.
-- Assumes nothing.
use Rattle.std.specs.Prelude.{◌≡◌, true, false, List, ℕ, ◌≤◌, ◌<◌, length, get_or}
use Rattle.sets.specs.Mask.{subset}
use Rattle.sets.specs.Family.{holds}
use Rattle.games.specs.Game.{Game}
use Rattle.games.specs.Step.{after}
use Rattle.games.specs.Verdict.{start_sets, start_set, cells}
use Rattle.games.specs.Automaton.{no_cell, state_count, holding, card}

-- cell c holds s, no cell that holds s has fewer states, and none with as few has a lower number
pub record Tightest (l : List ℕ) (s c : ℕ) : Type 0 where
  pub is_cell : c < length l
  pub holds_it : subset s (get_or l c 0) ≡ true
  pub fewest : (d : ℕ) → d < length l → subset s (get_or l d 0) ≡ true → state_count (get_or l c 0) ≤ state_count (get_or l d 0)
  pub lowest : (d : ℕ) → d < length l → subset s (get_or l d 0) ≡ true → state_count (get_or l d 0) ≡ state_count (get_or l c 0) → c ≤ d

-- what `holding` names for s: where some cell holds s, the tightest, and there is no other such cell; no cell where s is empty or in none
pub record NamesTightest (l : List ℕ) (s : ℕ) : Type 0 where
  pub empty : s ≡ 0 → holding l s ≡ no_cell
  pub unheld : holds l s ≡ false → holding l s ≡ no_cell
  pub tightest : (s ≡ 0 → ⊥) → holds l s ≡ true → Tightest l s (holding l s)
  pub only : (s ≡ 0 → ⊥) → (c : ℕ) → Tightest l s c → c ≡ holding l s

-- so does the card of a yes: each first word for the start states that show its observation, each next word for the successors that do
pub record CardTightest (g : Game) : Type 0 where
  pub begins : (o : ℕ) → o < start_sets g → (start_set g o ≡ 0 → ⊥) → Tightest (cells g) (start_set g o) ((card g).begins o)
  pub next : (c o : ℕ) → c < length (cells g) → o < g.observations → (after g ((card g).set c) ((card g).action c) o ≡ 0 → ⊥) →
      Tightest (cells g) (after g ((card g).set c) ((card g).action c) o) ((card g).next c o)
