-- The small inputs of document 01's "Numbered refusals" that the check of a pair meets, computed from the definitions.
-- Assumes nothing.
use mathlib.Core.Path.{◌≡◌, refl}
use mathlib.Core.List.{List, [], ◌∷◌}
use Prim.Native.Nat.{ℕ}
use lib.ListN.{set}
use Rattle.sets.specs.Bounded.{any, first}
use Rattle.games.specs.Game.{has_successor}
use Rattle.games.specs.Places.{parked_words, place_at}
use Rattle.games.specs.Words.{game}
use Rattle.games.specs.Stations.{table_a, table_c, table_d, card_a}
use Rattle.games.specs.Answers.{Checked}
use Rattle.games.specs.Answers.{refused}
use Rattle.tables.specs.Layout.{bare_word}
use Rattle.tables.specs.Check.{limits_hold, head_right, size_checked, placed, faulty, words_checked as table_words, unseen, departs, parked_checked, sets_checked, checked as table_checked}
use Rattle.cards.specs.Card.{head_fits, cell_named, cell_fits, part_spot, spot_at, word_fits, words_checked, checked as card_checked}
use Rattle.pairs.specs.Pair.{agree, checked}
use Rattle.games.specs.declared.Reason.TheVariants as reason
use Rattle.std.specs.Prelude.{Ok}

abbrev pub Row : Type 0
Row = record { table : List ℕ; card : List ℕ; answer : Checked }

pub data Rows : List Row → Type 0 where
  none : Rows []
  row : {w k : List ℕ} {r : Checked} {l : List Row} → checked w k ≡ r → Rows l → Rows (record { table = w; card = k; answer = r } ∷ l)

-- C has other observations than A's card, D other actions
pub rows : List Row
rows =
    record { table = table_a; card = card_a; answer = Ok tt }
    ∷ record { table = []; card = []; answer = refused reason.NoWords 0 }
    ∷ record { table = table_a; card = []; answer = refused reason.NoCard 0 }
    ∷ record { table = table_a; card = set card_a 0 0x8021_0003; answer = refused reason.NoCard 6 }
    ∷ record { table = table_c; card = card_a; answer = refused reason.Disagree 0 }
    ∷ record { table = table_d; card = card_a; answer = refused reason.Disagree 0 }
    ∷ []

pub every_row : Rows rows
unfolding rows checked agree table_checked size_checked table_words sets_checked parked_checked head_right limits_hold placed faulty unseen departs has_successor parked_words place_at bare_word game first any card_checked words_checked word_fits head_fits cell_named cell_fits part_spot spot_at
every_row = row refl (row refl (row refl (row refl (row refl (row refl none)))))
