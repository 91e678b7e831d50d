-- The word of each place of a table (document 01, "Words"; parked states: document 02, change 2), and how many words it can have.
-- Assumes nothing.
use Rattle.std.specs.Prelude.{◌≡◌, List, ℕ, ◌+◌, ◌*◌, ◌/◌, length, get_or, take, drop}
use Rattle.games.specs.Format.{max_observations, max_moves, kind_at, head_actions_at, head_observations_at, head_marked_at, head_spare_at}
use Rattle.games.specs.Format.{kind_table, kind_start, kind_bad, kind_parked, kind_shown, kind_move}
use Rattle.games.specs.Fields.{word}
use Rattle.games.specs.Places.{shape_of, shown, move, place_of, parked_place, parked_words, table_length, Limited}
use Rattle.games.specs.declared.Shape.{Shape}
use Rattle.games.specs.declared.Place.{Place}
use Rattle.games.specs.declared.Place.TheVariants.{Start, Bad, Parked, Shown, Move}

-- the numbers of a table's head
abbrev pub shape_in : List ℕ → Shape
shape_in w = shape_of (get_or w 0 0)

-- the words of the longest table: those in front of the parked set, it, the observations' sets and the moves
abbrev pub max_words : ℕ
max_words = parked_place + 1 + max_observations + max_moves

-- the head for these numbers, and the bit where the table marks parked states
abbrev pub head_word : Shape → ℕ
head_word s =
    kind_table * kind_at + parked_words s * head_marked_at + s.observations * head_observations_at + s.actions * head_actions_at + s.states

-- a head from its spare bits up: its kind, and they are 0
abbrev pub head_top : ℕ
head_top = kind_table * kind_at / head_spare_at

-- a set's word with no state in its mask: its kind, and the observation, or the state and the action, that it is for
unfoldable pub bare_word : Place → ℕ
bare_word Start = word kind_start 0 0 0
bare_word Bad = word kind_bad 0 0 0
bare_word Parked = word kind_parked 0 0 0
bare_word (Shown j) = word kind_shown 0 j.0 0
bare_word (Move a i) = word kind_move 0 i.0 a.0

-- the words for the observations' sets, and those for the moves
abbrev pub shown_words : List ℕ → List ℕ
shown_words w = take (shape_in w).observations (drop (place_of (shape_in w) (shown 0)) w)

abbrev pub move_words : List ℕ → List ℕ
move_words w = drop (place_of (shape_in w) (move 0 0)) w

-- the head's numbers are within the limits, and the words are as many as they ask
pub record Sized (w : List ℕ) : Type 0 where
  pub limits : Limited (shape_in w)
  pub long : length w ≡ table_length (shape_in w)
