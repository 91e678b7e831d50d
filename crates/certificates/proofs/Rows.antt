-- The cards of stations A and C against their tables and with one word changed, computed from the definitions.
-- Assumes nothing.
use mathlib.Core.Path.{◌≡◌, refl}
use mathlib.Core.List.{List, [], ◌∷◌}
use Prim.Native.Nat.{ℕ}
use lib.ListN.{set}
use Rattle.sets.specs.Bounded.{all, any, first}
use Rattle.sets.specs.Mask.{union_over}
use Rattle.games.specs.Game.{has_successor, enabled}
use Rattle.games.specs.Step.{safe, enabled_at, post, after}
use Rattle.games.specs.Verdict.{start_set}
use Rattle.games.specs.Places.{parked_words, place_at}
use Rattle.games.specs.Words.{game}
use Rattle.games.specs.Stations.{table_a, table_b, table_c, card_a, card_c}
use Rattle.games.specs.Answers.{Checked}
use Rattle.games.specs.Answers.{refused}
use Rattle.tables.specs.Layout.{bare_word}
use Rattle.tables.specs.Check.{limits_hold, head_right, size_checked, placed, faulty, words_checked as table_words, unseen, departs, parked_checked, sets_checked, checked as table_checked}
use Rattle.cards.specs.Card.{head_fits, cell_named, cell_fits, part_spot, spot_at, word_fits, words_checked, automaton, checked as card_checked}
use Rattle.pairs.specs.Pair.{agree, checked}
use Rattle.certificates.specs.Certificate.{lies, first_holds, set_fits, cell_holds, next_holds, word_holds, words_certified, certified}
use Rattle.games.specs.declared.Reason.TheVariants as reason
use Rattle.std.specs.Prelude.{Ok}

abbrev pub Row : Type 0
Row = record { table : List ℕ; card : List ℕ; answer : Checked }

pub data Rows : List Row → Type 0 where
  none : Rows []
  row : {w k : List ℕ} {r : Checked} {l : List Row} → certified w k ≡ r → Rows l → Rows (record { table = w; card = k; answer = r } ∷ l)

-- B starts in {0, 1}: cell 0 does not hold that. Then A's card with: no first cell; a bad state in cell 0; one from n up; dosing in cell 0,
-- which leads to the bad state; no next cell; waiting in cell 1, which is blocked; an empty set in cell 1, which says too little though
-- the card is safe
pub rows : List Row
rows =
    record { table = table_a; card = card_a; answer = Ok tt }
    ∷ record { table = table_c; card = card_c; answer = Ok tt }
    ∷ record { table = table_c; card = card_a; answer = refused reason.Disagree 0 }
    ∷ record { table = table_b; card = card_a; answer = refused reason.NotSafe 1 }
    ∷ record { table = table_a; card = set card_a 1 0x9000_FFFF; answer = refused reason.NotSafe 1 }
    ∷ record { table = table_a; card = set card_a 2 0xA000_0005; answer = refused reason.NotSafe 2 }
    ∷ record { table = table_a; card = set card_a 2 0xA000_0009; answer = refused reason.NotSafe 2 }
    ∷ record { table = table_a; card = set card_a 2 0xA010_0001; answer = refused reason.NotSafe 3 }
    ∷ record { table = table_a; card = set card_a 3 0xB000_FFFF; answer = refused reason.NotSafe 3 }
    ∷ record { table = table_a; card = set card_a 4 0xA000_0002; answer = refused reason.NotSafe 4 }
    ∷ record { table = table_a; card = set card_a 4 0xA010_0000; answer = refused reason.NotSafe 3 }
    ∷ []

pub every_row : Rows rows
unfolding rows certified words_certified word_holds first_holds set_fits cell_holds next_holds lies safe enabled_at enabled post after start_set union_over all checked agree table_checked size_checked table_words sets_checked parked_checked head_right limits_hold placed faulty unseen departs has_successor parked_words place_at bare_word game first any card_checked words_checked word_fits head_fits cell_named cell_fits part_spot spot_at automaton
every_row = row refl (row refl (row refl (row refl (row refl (row refl (row refl (row refl (row refl (row refl (row refl none))))))))))
