-- Words without the bit are checked as document 01 says: a statement that is proved of all words.
-- Assumes nothing.
use Rattle.std.specs.Prelude.{◌≡◌, false, ◌&&◌, List, ℕ, ◌+◌, ◌*◌, ◌/◌, ◌^◌, eqb, get_or}
use Rattle.games.specs.Answers.{unless}
use Rattle.games.specs.Fields.{head_marked}
use Rattle.games.specs.Places.{shape_of, table_length}
use Rattle.games.specs.Words.{game}
use Rattle.tables.specs.Layout.{shape_in}
use Rattle.tables.specs.Check.{limits_hold, head_right, size_checked, words_checked, sets_checked, checked}
use Rattle.std.specs.Prelude.{Err}

pub record ChecksAsBefore (w : List ℕ) : Type 0 where
  -- 2: the kind, the bits 24 to 27, and the limits
  pub head : head_right (get_or w 0 0) ≡ (eqb (get_or w 0 0 / 2 ^ 24) 16 && limits_hold (shape_of (get_or w 0 0)))
  -- 3
  pub long : table_length (shape_in w) ≡ 3 + (shape_in w).observations + (shape_in w).actions * (shape_in w).states
  -- the whole answer: 1 to 7
  pub answer : checked w ≡ unless (size_checked w) Err (unless (words_checked w) Err (sets_checked (game w)))

abbrev pub Unmarked : List ℕ → Type 0
Unmarked w = head_marked (get_or w 0 0) ≡ false → ChecksAsBefore w
