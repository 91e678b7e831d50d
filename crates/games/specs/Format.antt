-- The numbers of the format (documents 01 and 02), each here alone: limits, bit positions and kinds.
-- Assumes nothing.
use Rattle.std.specs.Prelude.{Bool, ◌&&◌, ℕ, ◌*◌, ◌^◌, leb}

-- ---- limits

-- a number from 1 up to its limit
abbrev pub within : (number most : ℕ) → Bool
within x most = leb 1 x && leb x most

-- the most states, actions and observations
abbrev pub max_states : ℕ
max_states = 12

abbrev pub max_actions : ℕ
max_actions = 8

abbrev pub max_observations : ℕ
max_observations = 8

-- the sets of that many states; a card has at most one cell for each
abbrev pub max_sets : ℕ
max_sets = 2 ^ max_states

abbrev pub max_cells : ℕ
max_cells = max_sets

-- the moves of that many states and actions
abbrev pub max_moves : ℕ
max_moves = max_actions * max_states

-- ---- bit positions: a field is `w / At % Values`

-- a mask or a cell number in bits 0-15
abbrev pub low_values : ℕ
low_values = 2 ^ 16

-- an observation or a state in bits 16-19
abbrev pub number_at : ℕ
number_at = 2 ^ 16

abbrev pub number_values : ℕ
number_values = 2 ^ 4

-- an action in bits 20-23
abbrev pub action_at : ℕ
action_at = 2 ^ 20

abbrev pub action_values : ℕ
action_values = 2 ^ 4

-- the kind in bits 28-31
abbrev pub kind_at : ℕ
kind_at = 2 ^ 28

abbrev pub kind_values : ℕ
kind_values = 2 ^ 4

-- a table's head: states in bits 0-7, actions in 8-15, observations in 16-23
abbrev pub head_values : ℕ
head_values = 2 ^ 8

abbrev pub head_actions_at : ℕ
head_actions_at = 2 ^ 8

abbrev pub head_observations_at : ℕ
head_observations_at = 2 ^ 16

-- bit 24: the table marks parked states
abbrev pub head_marked_at : ℕ
head_marked_at = 2 ^ 24

abbrev pub bit_values : ℕ
bit_values = 2

-- behind them the spare bits 25-27 begin
abbrev pub head_spare_at : ℕ
head_spare_at = 2 ^ 25

-- ---- kinds of a table's words: head, start set, bad set, the states that show an observation, the successors of a state, parked states

abbrev pub kind_table : ℕ
kind_table = 1

abbrev pub kind_start : ℕ
kind_start = 2

abbrev pub kind_bad : ℕ
kind_bad = 3

abbrev pub kind_shown : ℕ
kind_shown = 4

abbrev pub kind_move : ℕ
kind_move = 5

abbrev pub kind_parked : ℕ
kind_parked = 6

-- kinds of a card's words: head, first cell, cell, next cell

abbrev pub kind_card : ℕ
kind_card = 8

abbrev pub kind_first : ℕ
kind_first = 9

abbrev pub kind_cell : ℕ
kind_cell = 10

abbrev pub kind_next : ℕ
kind_next = 11
