-- What stands at each place of a table (document 01, "Words"; document 02, change 2). A table's head has the place 0.
-- Assumes nothing.
use Rattle.std.specs.Prelude.{◌≡◌, true, cond, ℕ, ◌+◌, ◌-◌, ◌*◌, ◌/◌, ◌%◌, ◌^◌, ◌≤◌, ◌<◌, eqb, ltb}
use Rattle.games.specs.Format.{max_states, max_actions, max_observations}
use Rattle.games.specs.Fields.{head_states, head_actions, head_observations, head_marked}
use Rattle.games.specs.declared.Shape.{Shape}
use Rattle.games.specs.declared.Place.{Place}
use Rattle.games.specs.declared.Place.TheVariants.{Start, Bad, Parked, Shown, Move}

-- the numbers of a head, and whether the table marks parked states
abbrev pub shape_of : ℕ → Shape
shape_of w = record { states = head_states w; actions = head_actions w; observations = head_observations w; marked = head_marked w }

-- the sets that stand behind it: those of the observations and of the actions and states, by their numbers
abbrev pub shown : ℕ → Place
shown j = Shown (record { 0 = j })

abbrev pub move : (action state : ℕ) → Place
move a i = Move (record { 0 = a }) (record { 0 = i })

-- where they begin
abbrev pub start_place : ℕ
start_place = 1

abbrev pub bad_place : ℕ
bad_place = 2

abbrev pub parked_place : ℕ
parked_place = 3

-- the words of the parked set: one where the table marks parked states; it is also the bit of the head
unfoldable pub parked_words : Shape → ℕ
parked_words s = cond s.marked 1 0

abbrev pub shown_place : Shape → ℕ
shown_place s = parked_place + parked_words s

abbrev pub moves_place : Shape → ℕ
moves_place s = shown_place s + s.observations

-- the words of a table
abbrev pub table_length : Shape → ℕ
table_length s = moves_place s + s.actions * s.states

-- where a set stands: the start set, the bad set, the parked set, the observations' in order, and for each action its states' in order
abbrev pub place_of : Shape → Place → ℕ
place_of s Start = start_place
place_of s Bad = bad_place
place_of s Parked = parked_place
place_of s (Shown j) = shown_place s + j.0
place_of s (Move a i) = moves_place s + a.0 * s.states + i.0

-- what stands at a place from 1 up
unfoldable pub place_at : Shape → ℕ → Place
place_at s p =
    cond (eqb p start_place) Start
    (cond (eqb p bad_place) Bad
    (cond (ltb p (shown_place s)) Parked
    (cond (ltb p (moves_place s)) (shown (p - shown_place s))
    (move ((p - moves_place s) / s.states) ((p - moves_place s) % s.states)))))

-- a table of this shape has the set
abbrev pub Within : Shape → Place → Type 0
Within s Start = Unit {0}
Within s Bad = Unit {0}
Within s Parked = s.marked ≡ true
Within s (Shown j) = j.0 < s.observations
Within s (Move a i) = (a.0 < s.actions) × (i.0 < s.states)

-- the numbers are within the limits
pub record Limited (s : Shape) : Type 0 where
  pub some_state : 1 ≤ s.states
  pub most_states : s.states ≤ max_states
  pub some_action : 1 ≤ s.actions
  pub most_actions : s.actions ≤ max_actions
  pub some_observation : 1 ≤ s.observations
  pub most_observations : s.observations ≤ max_observations

-- a place is a number of 32 bits
abbrev pub max_place : ℕ
max_place = 2 ^ 32
