-- The small inputs of document 01's "Numbered refusals", as far as they are tables: each gives its number and place.
-- Beside them: 13 states, a word that 4 and 5 would both refuse, and the table E with its state parked: the bits 24 and 25, its word under
-- 3, 4 and 5, and 19.
-- Assumes nothing.
use mathlib.Core.Path.{◌≡◌, refl}
use mathlib.Core.List.{List, [], ◌∷◌}
use Prim.Native.Nat.{ℕ}
use lib.ListN.{set}
use Rattle.sets.specs.Bounded.{any, first}
use Rattle.games.specs.Places.{parked_words, place_at}
use Rattle.games.specs.Game.{has_successor}
use Rattle.games.specs.Words.{game}
use Rattle.games.specs.Stations.{table_a, parked_e}
use Rattle.games.specs.Answers.{Checked}
use Rattle.games.specs.Answers.{refused}
use Rattle.tables.specs.Layout.{bare_word}
use Rattle.tables.specs.Check.{limits_hold, head_right, size_checked, placed, faulty, words_checked, unseen, departs, parked_checked, sets_checked, checked}
use Rattle.games.specs.declared.Reason.TheVariants as reason
use Rattle.std.specs.Prelude.{Ok}

pub data Rows : List (record { input : List ℕ; answer : Checked }) → Type 0 where
  none : Rows []
  row : {w : List ℕ} {r : Checked} {l : List (record { input : List ℕ; answer : Checked })} → checked w ≡ r → Rows l → Rows (record { input = w; answer = r } ∷ l)

pub rows : List (record { input : List ℕ; answer : Checked })
rows =
    record { input = table_a; answer = Ok tt }
    ∷ record { input = []; answer = refused reason.NoWords 0 }
    ∷ record { input = 0x1001_0200 ∷ []; answer = refused reason.BadHead 0 }
    ∷ record { input = 0x1001_020d ∷ []; answer = refused reason.BadHead 0 }
    ∷ record { input = 0x1001_0203 ∷ []; answer = refused reason.BadLength 1 }
    ∷ record { input = set table_a 1 0x3000_0001; answer = refused reason.Misplaced 1 }
    ∷ record { input = set table_a 2 0x2000_0008; answer = refused reason.Misplaced 2 }
    ∷ record { input = set table_a 2 0x3000_0008; answer = refused reason.StateBeyond 2 }
    ∷ record { input = set table_a 1 0x2000_0000; answer = refused reason.NoStart 1 }
    ∷ record { input = set table_a 3 0x4000_0003; answer = refused reason.Unseen 2 }
    ∷ record { input = parked_e; answer = Ok tt }
    ∷ record { input = set parked_e 0 0x1301_0101; answer = refused reason.BadHead 0 }
    ∷ record { input = set parked_e 0 0x1001_0101; answer = refused reason.BadLength 6 }
    ∷ record { input = set parked_e 3 0x6001_0001; answer = refused reason.Misplaced 3 }
    ∷ record { input = set parked_e 3 0x6000_0002; answer = refused reason.StateBeyond 3 }
    ∷ record { input = set parked_e 3 0x6000_0000; answer = Ok tt }
    ∷ record { input = set parked_e 5 0x5000_0001; answer = refused reason.ParkedMoves 0 }
    ∷ record { input = set (set parked_e 4 0x4000_0000) 5 0x5000_0001; answer = refused reason.Unseen 0 }
    ∷ []

pub every_row : Rows rows
unfolding rows checked size_checked words_checked sets_checked parked_checked head_right limits_hold placed faulty unseen departs has_successor parked_words place_at bare_word game first any
every_row =
    row refl (row refl (row refl (row refl (row refl (row refl (row refl (row refl (row refl (row refl (row refl (row refl (row refl (row refl (row refl (row refl (row refl (row refl none)))))))))))))))))
