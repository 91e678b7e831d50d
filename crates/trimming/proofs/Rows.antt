-- Cards and what is left of them, computed from the definitions.
-- Assumes nothing.
use mathlib.Core.Path.{◌≡◌, refl}
use mathlib.Core.List.{List, [], ◌∷◌}
use Prim.Native.Nat.{ℕ}
use Rattle.sets.specs.Bounded.{any, count, select, gather}
use Rattle.games.specs.Words.{cell_words, card_words}
use Rattle.games.specs.Stations.{card_a, card_c, card_tightest}
use Rattle.cards.specs.Card.{automaton}
use Rattle.trimming.specs.Trim.{first_names, next_names, no_first, reached_in, reached, kept, renumbered, trim, trimmed}

abbrev pub Row : Type 0
Row = record { card : List ℕ; left : List ℕ }

pub data Rows : List Row → Type 0 where
  none : Rows []
  row : {w k : List ℕ} {l : List Row} → trimmed w ≡ k → Rows l → Rows (record { card = w; left = k } ∷ l)

-- A's and C's card have no idle cell. Of the card whose cells overlap, cell 0 is idle, and cell 1 gets its number. Then three cells: cell 1 is
-- named by cell 2 alone, which nothing names; and cell 1 is named by itself alone, while 2 is the first cell and leads to 0. Then no first
-- word names a cell: cell 0 stays alone; and so it does with cell 1, which it names
pub rows : List Row
rows =
    record { card = card_a; left = card_a }
    ∷ record { card = card_c; left = card_c }
    ∷ record { card = card_tightest; left = 0x8021_0001 ∷ 0x9000_0000 ∷ 0xa010_0009 ∷ 0xb000_0000 ∷ [] }
    ∷ record {
      card = 0x8021_0003 ∷ 0x9000_0000 ∷ 0xa000_0001 ∷ 0xb000_0000 ∷ 0xa000_0003 ∷ 0xb000_0000 ∷ 0xa010_0002 ∷ 0xb000_0001 ∷ [];
      left = 0x8021_0001 ∷ 0x9000_0000 ∷ 0xa000_0001 ∷ 0xb000_0000 ∷ [];
    }
    ∷ record {
      card = 0x8021_0003 ∷ 0x9000_0002 ∷ 0xa000_0001 ∷ 0xb000_0002 ∷ 0xa000_0003 ∷ 0xb000_0001 ∷ 0xa010_0002 ∷ 0xb000_0000 ∷ [];
      left = 0x8021_0002 ∷ 0x9000_0001 ∷ 0xa000_0001 ∷ 0xb000_0001 ∷ 0xa010_0002 ∷ 0xb000_0000 ∷ [];
    }
    ∷ record {
      card = 0x8021_0002 ∷ 0x9000_ffff ∷ 0xa000_0001 ∷ 0xb000_ffff ∷ 0xa010_0002 ∷ 0xb000_0000 ∷ [];
      left = 0x8021_0001 ∷ 0x9000_ffff ∷ 0xa000_0001 ∷ 0xb000_ffff ∷ [];
    }
    ∷ record {
      card = 0x8021_0003 ∷ 0x9000_ffff ∷ 0xa000_0001 ∷ 0xb000_0001 ∷ 0xa010_0002 ∷ 0xb000_ffff ∷ 0xa000_0003 ∷ 0xb000_0001 ∷ [];
      left = 0x8021_0002 ∷ 0x9000_ffff ∷ 0xa000_0001 ∷ 0xb000_0001 ∷ 0xa010_0002 ∷ 0xb000_ffff ∷ [];
    }
    ∷ []

pub every_row : Rows rows
unfolding rows trimmed trim renumbered kept reached reached_in no_first next_names first_names any count select gather cell_words card_words automaton
every_row = row refl (row refl (row refl (row refl (row refl (row refl (row refl none))))))
