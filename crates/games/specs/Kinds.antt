-- The number of a kind of words.
-- Assumes nothing.
use Rattle.std.specs.Prelude.{ℕ}
use Rattle.games.specs.Format.{kind_table, kind_start, kind_bad, kind_shown, kind_move, kind_parked, kind_card, kind_first, kind_cell, kind_next}
use Rattle.games.specs.declared.Kind.{Kind}
use Rattle.games.specs.declared.Kind.TheVariants as kind

abbrev pub kind_number : Kind → ℕ
kind_number kind.Table = kind_table
kind_number kind.Start = kind_start
kind_number kind.Bad = kind_bad
kind_number kind.Shown = kind_shown
kind_number kind.Move = kind_move
kind_number kind.Parked = kind_parked
kind_number kind.Card = kind_card
kind_number kind.First = kind_first
kind_number kind.Cell = kind_cell
kind_number kind.Next = kind_next
