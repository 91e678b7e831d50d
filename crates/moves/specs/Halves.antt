-- The successors of every set in two reads: for each action a table for the lower half of the states and one for the upper half.
-- Assumes nothing.
use Rattle.std.specs.Prelude.{◌≡◌, Bool, cond, List, ℕ, ◌+◌, ◌*◌, ◌/◌, ◌%◌, ◌^◌, ◌≤◌, ◌<◌, length, get_or, Option, Some, None, unwrap_or}
use Rattle.std.specs.Result.{result_ok}
use Rattle.sets.specs.Mask.{common, union, union_over}
use Rattle.sets.specs.Bounded.{all}
use Rattle.sets.specs.Family.{Family}
use Rattle.games.specs.Format.{max_states, max_actions, low_values}
use Rattle.games.specs.Game.{Game}
use Rattle.games.specs.Step.{enabled_at, post}
use Rattle.walk.specs.Walk.{moved, walked}
use Rattle.walk.specs.declared.Walked.{Walked}

-- what a set comes to under an action: the successors of the whole set, where the action is enabled at all its members
unfoldable pub posted : Game → ℕ → ℕ → Option ℕ
posted g s a = cond (enabled_at g s a) (Some (post g s a)) None

-- the walk's answer without its numbers
abbrev pub unnumbered : Walked → Option ℕ
unnumbered w = result_ok w.post

-- it is the answer of one walk over the members: two reads of the half tables say what the walk says
abbrev pub AsWalked : Game → Type 0
AsWalked g = (s a : ℕ) → posted g s a ≡ unnumbered (walked g s a)

-- for every observation, the states of u that show it form a set of the family
unfoldable pub shown_in : Game → Family → ℕ → Bool
shown_in g F u = all g.observations (λ j. F (common u (g.shown j)))

-- the states of a half, and their sets
abbrev pub half_states : ℕ
half_states = (max_states + 1) / 2

abbrev pub half_sets : ℕ
half_sets = 2 ^ half_states

-- the words of one of the two tables: a half for each action
abbrev pub side_words : ℕ
side_words = max_actions * half_sets

-- above every mask: it stands for the successors where the action is not enabled
abbrev pub blocked_mark : ℕ
blocked_mark = low_values

-- what a member comes to in the walk, as a word: its successors, or the mark
unfoldable pub mark : Game → (a i : ℕ) → ℕ
mark g a i = unwrap_or (moved g a i) blocked_mark

-- an action of the game, and its states from `first` on, no more than a half has
pub record InHalf (g : Game) (a first count : ℕ) : Type 0 where
  pub action : a < g.actions
  pub states : first + count ≤ g.states
  pub few : count ≤ half_states

-- the list e is d with its first `size` entries again behind them, united with w
pub record Doubled (size w : ℕ) (d e : List ℕ) : Type 0 where
  pub same : length e ≡ length d
  pub front : (x : ℕ) → x < size → get_or e x 0 ≡ get_or d x 0
  pub behind : (x : ℕ) → x < size → get_or e (size + x) 0 ≡ union (get_or d x 0) w

-- entry h is what the members of h lead to under the action, state i of the half being state `first` + i
pub record Halved (g : Game) (a first count : ℕ) (half : List ℕ) : Type 0 where
  pub size : length half ≡ half_sets
  pub at : (h : ℕ) → h < 2 ^ count → get_or half h 0 ≡ union_over count h (λ i. mark g a (first + i))

-- for each of the first `up_to` actions, its `half_sets` entries are such a half
pub record Sided (g : Game) (first count up_to : ℕ) (side : List ℕ) : Type 0 where
  pub size : length side ≡ side_words
  pub at : (a h : ℕ) → a < up_to → h < 2 ^ count → get_or side (a * half_sets + h) 0 ≡ union_over count h (λ i. mark g a (first + i))

-- for each action and each set, the two entries give the marked successors
pub record Tabled (g : Game) (low high : List ℕ) : Type 0 where
  pub low_size : length low ≡ side_words
  pub high_size : length high ≡ side_words
  pub at : (a s : ℕ) → a < g.actions → s < 2 ^ g.states →
      union (get_or low (a * half_sets + s % half_sets) 0) (get_or high (a * half_sets + s / half_sets) 0) ≡ union_over g.states s (mark g a)
