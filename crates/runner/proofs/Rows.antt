-- Runs of the cards of stations A and C, computed from the definitions: document 01's row 14 and the refusals of a runner among them.
-- Assumes nothing.
use mathlib.Core.Path.{◌≡◌, refl}
use mathlib.Core.List.{List, [], ◌∷◌}
use Prim.Native.Nat.{ℕ}
use lib.ListN.{set}
use Rattle.sets.specs.Bounded.{first, gather}
use Rattle.games.specs.Answers.{Leaves, leaves}
use Rattle.games.specs.Stations.{card_a, card_c}
use Rattle.cards.specs.Card.{automaton, head_fits, cell_named, cell_fits, part_spot, spot_at, word_fits, words_checked, checked}
use Rattle.cards.specs.Run.{entered, enters, begun, followed, opened, stepped, moved, ran_from, ran, as_cell, stands}
use Rattle.cards.specs.declared.Stood.{Stood}
use Rattle.cards.specs.Run.{Move}
use Rattle.runner.specs.Runs.{stopped, Ran}
use Rattle.runner.specs.Runs.{standing_from, standing, ran_up_to, writes, ran_into}
use Rattle.games.specs.declared.Reason.TheVariants as reason
use Rattle.games.specs.Answers.{refused}
use Rattle.std.specs.Prelude.{Ok}

-- a runner in the cell of a number
abbrev at : ℕ → Move → Stood
at c m = stands (as_cell c) m

-- a card and observations; the buffer, and how the run leaves it; the runner
abbrev pub Row : Type 0
Row = record { card : List ℕ; seen : List ℕ; out : List ℕ; run : Leaves Ran (List ℕ); runner : Stood }

pub data Rows : List Row → Type 0 where
  none : Rows []
  row : {w h d : List ℕ} {r : Leaves Ran (List ℕ)} {s : Stood} {l : List Row} → ran_into w h d ≡ r → standing w h ≡ s
      → Rows l → Rows (record { card = w; seen = h; out = d; run = r; runner = s } ∷ l)

-- the buffer of each row
abbrev room : List ℕ
room = 9 ∷ 9 ∷ 9 ∷ 9 ∷ []

pub rows : List Row
rows =
    record { card = card_a; seen = 0 ∷ 0 ∷ 0 ∷ []; out = room; run = leaves (Ok 3) (0 ∷ 1 ∷ 0 ∷ 9 ∷ []); runner = at 0 (entered 0 0) }
    -- C in cell 0 cannot show 0
    ∷ record { card = card_c; seen = 1 ∷ 0 ∷ 0 ∷ []; out = room; run = leaves (stopped reason.CannotOccur 0 2) room; runner = at 0 (refused reason.CannotOccur 0) }
    -- nor at the second observation; the runner goes on from the cell it stayed in
    ∷ record { card = card_c; seen = 0 ∷ 0 ∷ 1 ∷ []; out = room; run = leaves (stopped reason.CannotOccur 0 1) room; runner = at 1 (entered 1 1) }
    -- there is no observation 2
    ∷ record { card = card_c; seen = 2 ∷ []; out = room; run = leaves (stopped reason.NumberBeyond 2 0) room; runner = at 65535 (refused reason.NumberBeyond 2) }
    -- a refused opening: the step after it is refused too
    ∷ record { card = card_c; seen = 2 ∷ 0 ∷ []; out = room; run = leaves (stopped reason.NumberBeyond 2 0) room; runner = at 65535 (refused reason.NumberBeyond 65535) }
    ∷ record { card = set card_a 0 0x8021_0003; seen = 0 ∷ []; out = room; run = leaves (stopped reason.NoCard 6 0) room; runner = at 65535 (refused reason.NoCard 6) }
    -- a wrong card is told first, with no observation, and with a buffer that is short
    ∷ record { card = set card_a 0 0x8021_0003; seen = []; out = room; run = leaves (stopped reason.NoCard 6 0) room; runner = at 65535 (refused reason.NoCard 6) }
    ∷ record { card = set card_a 0 0x8021_0003; seen = 0 ∷ 0 ∷ []; out = 9 ∷ []; run = leaves (stopped reason.NoCard 6 0) (9 ∷ []); runner = at 65535 (refused reason.NoCard 6) }
    -- no observation: nothing is taken
    ∷ record { card = card_a; seen = []; out = []; run = leaves (Ok 0) []; runner = at 65535 (refused reason.NumberBeyond 65535) }
    -- a short buffer is told after the observations: here the second cannot occur
    ∷ record { card = card_c; seen = 0 ∷ 0 ∷ 1 ∷ []; out = 9 ∷ 9 ∷ []; run = leaves (stopped reason.CannotOccur 0 1) (9 ∷ 9 ∷ []); runner = at 1 (entered 1 1) }
    -- five observations, four words: all were taken before
    ∷ record { card = card_a; seen = 0 ∷ 0 ∷ 0 ∷ 0 ∷ 0 ∷ []; out = room; run = leaves (stopped reason.ShortList 5 5) room; runner = at 0 (entered 0 0) }
    ∷ []

pub every_row : Rows rows
unfolding rows ran_into writes ran_up_to standing standing_from ran ran_from moved opened stepped begun followed enters automaton checked words_checked word_fits head_fits cell_named cell_fits part_spot spot_at first gather
every_row =
    row refl refl (row refl refl (row refl refl (row refl refl (row refl refl (row refl refl
    (row refl refl (row refl refl (row refl refl (row refl refl (row refl refl none))))))))))
