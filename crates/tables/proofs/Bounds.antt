-- Bounds on a table's numbers and words.
-- Assumes nothing.
use mathlib.Core.List.{List}
use Prim.Native.Nat.{ℕ, ◌+◌, ◌*◌, ◌^◌, ◌≤◌, ◌<◌}
use native.Mathlib.Omega.{arith}
use lib.ListN.{length}
use Rattle.games.specs.Format.{max_states, max_actions, max_observations, max_sets, max_moves}
use Rattle.games.specs.Places.{place_of, table_length, Within, Limited}
use Rattle.games.specs.Words.{game}
use Rattle.games.specs.declared.Shape.{Shape}
use Rattle.games.specs.declared.Place.{Place}
use Rattle.games.proofs.Limits.{slot_below, moves_below, sets_below}
use Rattle.games.proofs.Places.{parked_words_lem, place_below}
use Rattle.tables.specs.Layout.{shape_in, max_words, Sized}
use Rattle.tables.specs.Fields.{fields_shape}
use Rattle.tables.specs.declared.Fields.{Fields}

-- no table is longer than the longest
pub length_short : (s : Shape) → Limited s → table_length s ≤ max_words
length_short s l = omega (arith, parked_words_lem s, moves_below s.actions s.states l.most_actions l.most_states)

-- the slot of an action and a state is one of the slots
pub slot_inside : (f : Fields) (a i : ℕ) → Limited (fields_shape f) → a < f.actions → i < f.states → a * f.states + i < max_moves
slot_inside f a i l p q =
    omega (arith, slot_below a f.actions f.states i p q, moves_below f.actions f.states l.most_actions l.most_states)

module _ (w : List ℕ) (h : Sized w) where
  -- the numbers of the game
  game_limited : Limited (record { states = (game w).states; actions = (game w).actions; observations = (game w).observations; marked = (shape_in w).marked })
  unfolding game
  game_limited = h.limits

  pub few_states : (game w).states ≤ max_states
  few_states = game_limited.most_states

  pub few_actions : (game w).actions ≤ max_actions
  few_actions = game_limited.most_actions

  pub few_observations : (game w).observations ≤ max_observations
  few_observations = game_limited.most_observations

  pub few_sets : 2 ^ (game w).states ≤ max_sets
  few_sets = sets_below (game w).states few_states

  -- a set of the table stands in it
  pub place_inside : (x : Place) → Within (shape_in w) x → place_of (shape_in w) x < length w
  place_inside x k = rw h.long (place_below (shape_in w) x k)
