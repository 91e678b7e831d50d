-- The small inputs of document 01's "Numbered refusals" that show meets, and station A's parts, computed from the definitions.
-- Assumes nothing.
use mathlib.Core.Path.{◌≡◌, refl}
use mathlib.Core.List.{List, [], ◌∷◌}
use Prim.Native.Nat.{ℕ}
use lib.ListN.{set}
use Rattle.sets.specs.Bounded.{any, first}
use Rattle.games.specs.Game.{has_successor}
use Rattle.games.specs.Places.{parked_words, place_at}
use Rattle.games.specs.Words.{game}
use Rattle.games.specs.Stations.{table_a, table_c, card_a}
use Rattle.tables.specs.Layout.{bare_word}
use Rattle.tables.specs.Check.{limits_hold, head_right, size_checked, placed, faulty, words_checked as table_words, unseen, departs, parked_checked, sets_checked, checked as table_checked}
use Rattle.cards.specs.Card.{automaton, head_fits, cell_named, cell_fits, part_spot, spot_at, word_fits, words_checked, checked}
use Rattle.pairs.specs.Pair.{agree, checked as pair_checked}
use Rattle.show.specs.Show.{located, found, handed, part_of}
use Rattle.show.specs.Show.{Shown}
use Rattle.games.specs.declared.Reason.TheVariants as reason
use Rattle.games.specs.Answers.{refused}
use Rattle.std.specs.Prelude.{Ok}

abbrev pub Row : Type 0
Row = record { table : List ℕ; card : List ℕ; cell : ℕ; answer : Shown }

pub data Rows : List Row → Type 0 where
  none : Rows []
  row : {w k : List ℕ} {c : ℕ} {r : Shown} {l : List Row} → found w k c ≡ r → Rows l → Rows (record { table = w; card = k; cell = c; answer = r } ∷ l)

pub rows : List Row
rows =
    record { table = table_a; card = card_a; cell = 0; answer = Ok (record { offset = 4; length = 3 }) }
    ∷ record { table = table_a; card = card_a; cell = 1; answer = Ok (record { offset = 7; length = 3 }) }
    ∷ record { table = table_a; card = card_a; cell = 2; answer = refused reason.NumberBeyond 2 }
    ∷ record { table = table_a; card = set card_a 0 0x8021_0003; cell = 0; answer = refused reason.NoCard 6 }
    ∷ record { table = table_c; card = card_a; cell = 0; answer = refused reason.Disagree 0 }
    ∷ record { table = table_c; card = card_a; cell = 2; answer = refused reason.Disagree 0 }
    ∷ record { table = []; card = []; cell = 0; answer = refused reason.NoWords 0 }
    ∷ []

pub every_row : Rows rows
unfolding rows found located pair_checked agree table_checked size_checked table_words sets_checked parked_checked head_right limits_hold placed faulty unseen departs has_successor parked_words place_at bare_word game first any automaton checked words_checked word_fits head_fits cell_named cell_fits part_spot spot_at
every_row = row refl (row refl (row refl (row refl (row refl (row refl (row refl none))))))

-- cell 1's action is dose: its words stand 28 bytes behind the table's first
pub part_a : part_of table_a (5, 100) (Ok (record { offset = 7; length = 3 })) ≡ handed (0x5010_0004 ∷ 0x5011_0001 ∷ 0x5012_0004 ∷ []) (5, 128)
part_a = refl
