-- What writing fields as a table's words answers (document 01, "Entries"; parked states: document 02, change 2).
-- Assumes nothing.
use Rattle.std.specs.Prelude.{Bool, cond, not, ◌&&◌, ◌||◌, List, ℕ, ◌+◌, ◌*◌, eqb, ltb, length, get_or}
use Rattle.sets.specs.Bounded.{all, first, at_found, filled_by}
use Rattle.games.specs.Answers.{unless, Leaves, leaves}
use Rattle.games.specs.Places.{place_at, table_length}
use Rattle.games.specs.Answers.{Checked}
use Rattle.games.specs.Answers.{refused}
use Rattle.games.specs.Answers.{Written}
use Rattle.tables.specs.Layout.{head_word, bare_word}
use Rattle.tables.specs.Check.{limits_hold, too_wide, sets_checked, parked_checked}
use Rattle.tables.specs.Fields.{fields_shape, field_at, game_of}
use Rattle.tables.specs.declared.Fields.{Fields}
use Rattle.games.specs.declared.Reason.TheVariants as reason
use Rattle.std.specs.Prelude.{Ok, Err}

-- the mask of the word at a place from 1 up
abbrev pub mask_of : Fields → ℕ → ℕ
mask_of f p = field_at f (place_at (fields_shape f) p)

-- the words of a table: the head, then kind, index and mask of each place
unfoldable pub word_at : Fields → ℕ → ℕ
word_at f p = cond (eqb p 0) (head_word (fields_shape f)) (bare_word (place_at (fields_shape f) p) + mask_of f p)

abbrev pub words_length : Fields → ℕ
words_length f = table_length (fields_shape f)

-- the slot is used, or 0
abbrev pub slot_clean : (used : ℕ) → List ℕ → ℕ → Bool
slot_clean used l j = ltb j used || eqb (get_or l j 0) 0

-- the slots from `used` up are 0
unfoldable pub unused_zero : (used : ℕ) → List ℕ → Bool
unused_zero used l = all (length l) (slot_clean used l)

-- the parked set is used where the fields mark parked states, or 0
abbrev pub parked_clean : Fields → Bool
parked_clean f = f.marked || eqb f.parked 0

-- unused slots are 0: the parked set, those of the observations, those of the moves
abbrev pub slots_clean : Fields → Bool
slots_clean f = parked_clean f && (unused_zero f.observations f.shown && unused_zero (f.actions * f.states) f.moves)

-- the mask of the word to be written names a state from n up
unfoldable pub wide_at : Fields → ℕ → Bool
wide_at f p = ltb 0 p && too_wide f.states (mask_of f p)

-- 2 and 11
unfoldable pub slots_checked : Fields → Checked
slots_checked f =
    cond (not (limits_hold (fields_shape f))) (refused reason.BadHead 0)
    (cond (not (slots_clean f)) (refused reason.SlotUsed 0)
    (Ok tt))

-- 5
unfoldable pub masks_checked : Fields → Checked
masks_checked f = at_found (first (words_length f) (wide_at f)) (λ p. refused reason.StateBeyond p) (Ok tt)

-- 2, 11, 5, 6, 7 and 19
unfoldable pub fields_checked : Fields → Checked
fields_checked f =
    unless (slots_checked f) Err
    (unless (masks_checked f) Err
    (unless (sets_checked (game_of f)) Err
    (parked_checked (game_of f))))

-- 10, or the table's words in front
unfoldable pub written_to : Fields → List ℕ → Leaves Written (List ℕ)
written_to f d =
    cond (ltb (length d) (words_length f)) (leaves (refused reason.ShortTable (words_length f)) d)
    (leaves (Ok (words_length f)) (filled_by (words_length f) (word_at f) d))

-- write: 2, 11, 5, 6, 7, 19, 10; a refusal leaves the buffer as it was
unfoldable pub write_of : Fields → List ℕ → Leaves Written (List ℕ)
write_of f d =
    unless (fields_checked f) (λ e. leaves (Err e) d)
    (written_to f d)
