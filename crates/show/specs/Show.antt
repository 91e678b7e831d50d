-- What show hands back (document 01, "Entries": Show; refusal 12; "Order").
-- Assumes nothing.
use Rattle.std.specs.Prelude.{cond, List, [], ℕ, ◌+◌, ◌*◌, leb, take, drop}
use Rattle.games.specs.Answers.{unless}
use Rattle.games.specs.Places.{move, place_of}
use Rattle.games.specs.Words.{game}
use Rattle.tables.specs.Layout.{shape_in}
use Rattle.cards.specs.Card.{automaton}
use Rattle.pairs.specs.Pair.{checked}
use Rattle.games.specs.declared.Refusal.{Refusal}
use Rattle.show.specs.declared.Part.{Part}
use Rattle.games.specs.declared.Reason.TheVariants as reason
use Rattle.games.specs.Answers.{refused}
use Rattle.std.specs.Prelude.{Result, Ok, Err}

-- a part of the table, or a refusal
abbrev pub Shown : Type 0
Shown = Result Part Refusal

-- 12: there is no such cell; else the place of the first move word of the cell's action, and as many words as there are states
unfoldable pub located : (table card : List ℕ) (cell : ℕ) → Shown
located w k c =
    let A = automaton k in
    cond (leb A.size c) (refused reason.NumberBeyond c)
    (Ok (record { offset = place_of (shape_in w) (move (A.action c) 0); length = (game w).states }))

-- the answer: table, 13, 16, 12
unfoldable pub found : (table card : List ℕ) (cell : ℕ) → Shown
found w k c =
    unless (checked w k) Err
    (located w k c)

-- a part of a slice: its words, and the address of the first (a block of memory and a byte in it)
pub record Handed : Type 0 where
  pub words : List ℕ
  pub address : ℕ × ℕ

abbrev pub handed : List ℕ → ℕ × ℕ → Handed
handed words address = record { words = words; address = address }

-- the part of the table that an answer names; where it refuses, the empty one at the table's start. A word has 4 bytes
abbrev pub part_of : (table : List ℕ) (address : ℕ × ℕ) → Shown → Handed
part_of w p (Ok part) = handed (take part.length (drop part.offset w)) (p.0, part.offset * 4 + p.1)
part_of w p (Err e) = handed [] p
