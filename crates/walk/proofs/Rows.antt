-- The walk by computation, each row worked out by hand: station A (action 0 waits, blocked in 1; action 1 doses), E and Q blocked and parked
-- (Q: 0 to {1,2}, 1 blocked, 2 to 3, 3 blocked), no member, and a member from n up.
-- Assumes nothing.
use mathlib.Core.Path.{◌≡◌, refl}
use mathlib.Core.List.{List, [], ◌∷◌}
use Prim.Native.Nat.{ℕ}
use Rattle.sets.specs.Bounded.{select}
use Rattle.games.specs.Game.{has_successor, enabled}
use Rattle.games.specs.Places.{parked_words}
use Rattle.games.specs.Stations.{table_a, table_e, parked_e, forked_q, parked_q}
use Rattle.games.specs.Words.{game}
use Rattle.walk.specs.declared.Walked.{Walked}
use Rattle.walk.specs.Walk.{passed, stopped, moved, members, along, walked}

pub record Row : Type 0 where
  pub table : List ℕ
  pub action : ℕ
  pub set : ℕ
  pub answer : Walked

abbrev passes : List ℕ → (action set successors looked : ℕ) → Row
passes w a s u c = record { table = w; action = a; set = s; answer = passed u c }

abbrev stops : List ℕ → (action set member looked : ℕ) → Row
stops w a s i c = record { table = w; action = a; set = s; answer = stopped i c }

pub data Rows : List Row → Type 0 where
  none : Rows []
  row : {r : Row} {l : List Row} → walked (game r.table) r.set r.action ≡ r.answer → Rows l → Rows (r ∷ l)

pub rows : List Row
rows =
    stops table_a 0 7 1 2
    ∷ passes table_a 0 5 6 2
    ∷ passes table_a 1 7 5 3
    ∷ stops table_a 0 2 1 1
    ∷ passes table_a 0 0 0 0
    ∷ passes table_a 0 9 2 1
    ∷ stops table_e 0 1 0 1
    ∷ passes parked_e 0 1 0 1
    ∷ stops forked_q 0 15 1 2
    ∷ stops forked_q 0 14 1 1
    ∷ stops parked_q 0 15 3 4
    ∷ stops parked_q 0 10 3 2
    ∷ passes parked_q 0 7 14 3
    ∷ passes parked_q 0 2 0 1
    ∷ []

pub every_row : Rows rows
unfolding rows walked along members moved select enabled has_successor parked_words game
every_row =
    row refl (row refl (row refl (row refl (row refl (row refl (row refl (row refl (row refl (row refl (row refl (row refl (row refl (row refl none)))))))))))))
