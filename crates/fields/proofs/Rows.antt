-- The small inputs of document 01's "Numbered refusals" for fields: each gives its number and place. Beside them station E with its state
-- parked: its fields with the bit, and the parked set as an unused slot without it.
-- Assumes nothing.
use mathlib.Core.Path.{◌≡◌, refl}
use mathlib.Core.Bool.{Bool, true, false}
use mathlib.Core.List.{[], ◌∷◌, ◌++◌}
use Prim.Native.Nat.{ℕ, ◌-◌}
use lib.ListN.{replicate}
use Rattle.sets.specs.Bounded.{all, any, first, gather}
use Rattle.games.specs.Format.{max_observations, max_moves}
use Rattle.games.specs.Answers.{leaves}
use Rattle.games.specs.Places.{parked_words, place_at}
use Rattle.games.specs.Game.{has_successor}
use Rattle.games.specs.Stations.{table_a}
use Rattle.tables.specs.Layout.{bare_word}
use Rattle.tables.specs.Check.{limits_hold, unseen, departs, parked_checked, sets_checked}
use Rattle.tables.specs.Fields.{fields_of, game_of}
use Rattle.fields.specs.Write.{word_at, unused_zero, wide_at, slots_checked, masks_checked, fields_checked, written_to, write_of}
use Rattle.tables.specs.declared.Fields.{Fields}
use Rattle.games.specs.declared.Reason.TheVariants as reason
use Rattle.games.specs.Answers.{refused}
use Rattle.std.specs.Prelude.{Ok}

-- station A's fields
abbrev fields_a : Fields
fields_a = record { states = 3; actions = 2; observations = 1; start = 1; bad = 4; marked = false; parked = 0; shown = 7 ∷ replicate (max_observations - 1) 0; moves = 2 ∷ 0 ∷ 4 ∷ 4 ∷ 1 ∷ 4 ∷ replicate (max_moves - 6) 0 }

pub reads_a : fields_of table_a ≡ fields_a
unfolding fields_of parked_words gather
reads_a = refl

pub writes_a : write_of fields_a (replicate 11 9) ≡ leaves (Ok 10) (table_a ++ (9 ∷ []))
unfolding write_of fields_checked slots_checked masks_checked sets_checked parked_checked departs has_successor limits_hold unused_zero wide_at parked_words place_at word_at bare_word game_of unseen written_to first any all gather
writes_a = refl

-- 10
pub writes_short : write_of fields_a (replicate 9 9) ≡ leaves (refused reason.ShortTable 10) (replicate 9 9)
unfolding write_of fields_checked slots_checked masks_checked sets_checked parked_checked departs has_successor limits_hold unused_zero wide_at parked_words place_at word_at bare_word game_of unseen written_to first any all gather
writes_short = refl

-- 11: reading slot 1 is 1
pub writes_unused : write_of (record { states = 3; actions = 2; observations = 1; start = 1; bad = 4; marked = false; parked = 0; shown = 7 ∷ 1 ∷ replicate (max_observations - 2) 0; moves = 2 ∷ 0 ∷ 4 ∷ 4 ∷ 1 ∷ 4 ∷ replicate (max_moves - 6) 0 }) (replicate 10 9) ≡ leaves (refused reason.SlotUsed 0) (replicate 10 9)
unfolding write_of fields_checked slots_checked masks_checked sets_checked parked_checked departs has_successor limits_hold unused_zero wide_at parked_words place_at word_at bare_word game_of unseen written_to first any all gather
writes_unused = refl

-- E's fields, its state parked, with the bit and a move
abbrev fields_e : (marked : Bool) (move : ℕ) → Fields
fields_e marked move = record { states = 1; actions = 1; observations = 1; start = 1; bad = 0; marked = marked; parked = 1; shown = 1 ∷ replicate (max_observations - 1) 0; moves = move ∷ replicate (max_moves - 1) 0 }

pub writes_parked : write_of (fields_e true 0) (replicate 7 9) ≡ leaves (Ok 6) (0x1101_0101 ∷ 0x2000_0001 ∷ 0x3000_0000 ∷ 0x6000_0001 ∷ 0x4000_0001 ∷ 0x5000_0000 ∷ 9 ∷ [])
unfolding write_of fields_checked slots_checked masks_checked sets_checked parked_checked departs has_successor limits_hold unused_zero wide_at parked_words place_at word_at bare_word game_of unseen written_to first any all gather
writes_parked = refl

-- 11: the bit isn't set
pub writes_unmarked : write_of (fields_e false 0) (replicate 7 9) ≡ leaves (refused reason.SlotUsed 0) (replicate 7 9)
unfolding write_of fields_checked slots_checked masks_checked sets_checked parked_checked departs has_successor limits_hold unused_zero wide_at parked_words place_at word_at bare_word game_of unseen written_to first any all gather
writes_unmarked = refl

-- 19 before 10: the parked state has a successor, and there is no room
pub writes_departing : write_of (fields_e true 1) [] ≡ leaves (refused reason.ParkedMoves 0) []
unfolding write_of fields_checked slots_checked masks_checked sets_checked parked_checked departs has_successor limits_hold unused_zero wide_at parked_words place_at word_at bare_word game_of unseen written_to first any all gather
writes_departing = refl
