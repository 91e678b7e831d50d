-- The game that a station table describes (document 01, "The game"; document 000: a two-player game of imperfect information; parked
-- states: document 02, change 2).
-- States, actions and observations are numbers from 0; a set of states is a mask.
-- Assumes nothing.
use Rattle.std.specs.Prelude.{◌≡◌, Bool, true, not, ◌||◌, ℕ, ◌^◌, ◌≤◌, ◌<◌, eqb}
use Rattle.sets.specs.Mask.{member}

pub record Game : Type 0 where
  -- how many states, actions and observations (document 01: n, a, and o readings)
  pub states : ℕ
  pub actions : ℕ
  pub observations : ℕ
  -- the start set, the set of bad states, and that of the parked ones, where the station has finished
  pub start : ℕ
  pub bad : ℕ
  pub parked : ℕ
  -- the states that show an observation
  pub shown : ℕ → ℕ
  -- the successors that an action gives a state
  pub successors : ℕ → ℕ → ℕ

-- state i shows observation o
abbrev pub Shows : Game → ℕ → ℕ → Type 0
Shows g i o = (o < g.observations) × (member (g.shown o) i ≡ true)

-- what the table checks leave: there are states, actions and observations, no set names a state from n up, the start set is not empty,
-- every state shows an observation, and a parked state has no successors
pub record Accepted (g : Game) : Type 0 where
  pub some_state : 1 ≤ g.states
  pub some_action : 1 ≤ g.actions
  pub some_observation : 1 ≤ g.observations
  pub start_below : g.start < 2 ^ g.states
  pub bad_below : g.bad < 2 ^ g.states
  pub parked_below : g.parked < 2 ^ g.states
  pub shown_below : (o : ℕ) → o < g.observations → g.shown o < 2 ^ g.states
  pub successors_below : (a i : ℕ) → a < g.actions → i < g.states → g.successors a i < 2 ^ g.states
  pub start_some : 1 ≤ g.start
  pub all_show : (i : ℕ) → i < g.states → (o : ℕ) × Shows g i o
  pub parked_end : (a i : ℕ) → a < g.actions → i < g.states → member g.parked i ≡ true → g.successors a i ≡ 0

-- action a has a successor in state i
unfoldable pub has_successor : Game → ℕ → ℕ → Bool
has_successor g i a = not (eqb (g.successors a i) 0)

-- action a is enabled in state i (document 01: open, not blocked): the state is parked, and the play has ended there, or the action has a
-- successor
unfoldable pub enabled : Game → ℕ → ℕ → Bool
enabled g i a = member g.parked i || has_successor g i a
