-- The fields of a word (document 01, "Words").
-- Assumes nothing.
use Rattle.std.specs.Prelude.{Bool, ℕ, ◌+◌, ◌*◌, ◌/◌, ◌%◌, eqb}
use Rattle.games.specs.Format.{low_values, number_at, number_values, action_at, action_values, kind_at, head_values, head_actions_at, head_observations_at, head_marked_at, bit_values}

abbrev pub kind : ℕ → ℕ
kind w = w / kind_at

-- a mask or a cell number, an observation or a state, an action
abbrev pub low_field : ℕ → ℕ
low_field w = w % low_values

abbrev pub number_field : ℕ → ℕ
number_field w = w / number_at % number_values

abbrev pub action_field : ℕ → ℕ
action_field w = w / action_at % action_values

-- a word of a kind with these three fields
abbrev pub word : ℕ → ℕ → ℕ → ℕ → ℕ
word k low number action = k * kind_at + action * action_at + number * number_at + low

-- the numbers of a table's head, and whether its bit for parked states is set
abbrev pub head_states : ℕ → ℕ
head_states w = w % head_values

abbrev pub head_actions : ℕ → ℕ
head_actions w = w / head_actions_at % head_values

abbrev pub head_observations : ℕ → ℕ
head_observations w = w / head_observations_at % head_values

abbrev pub head_marked : ℕ → Bool
head_marked w = eqb (w / head_marked_at % bit_values) 1
