-- A table's fields: what they hold, and what they mean.
-- Assumes nothing.
use Rattle.std.specs.Prelude.{List, ℕ, ◌+◌, ◌*◌, ◌/◌, ◌%◌, get_or, replicate}
use Rattle.sets.specs.Bounded.{filled_by}
use Rattle.games.specs.Format.{max_observations, max_moves}
use Rattle.games.specs.Fields.{low_field}
use Rattle.games.specs.Game.{Game}
use Rattle.games.specs.Places.{shown, move}
use Rattle.games.specs.Words.{mask_at, parked_in}
use Rattle.games.specs.declared.Shape.{Shape}
use Rattle.games.specs.declared.Place.{Place}
use Rattle.games.specs.declared.Place.TheVariants.{Start, Bad, Parked, Shown, Move}
use Rattle.tables.specs.Layout.{shape_in}
use Rattle.tables.specs.declared.Fields.{Fields}

-- the numbers of the fields, and whether they mark parked states
abbrev pub fields_shape : Fields → Shape
fields_shape f = record { states = f.states; actions = f.actions; observations = f.observations; marked = f.marked }

-- the masks from a place on
abbrev pub masks_from : List ℕ → ℕ → ℕ → ℕ
masks_from w base i = low_field (get_or w (base + i) 0)

-- a table's fields: observation j in slot j, action a and state i in slot a · n + i, unused slots 0, and so the parked set where the table
-- doesn't mark parked states
unfoldable pub fields_of : List ℕ → Fields
fields_of w =
    let s = shape_in w in
    record {
      states = s.states;
      actions = s.actions;
      observations = s.observations;
      start = mask_at w Start;
      bad = mask_at w Bad;
      marked = s.marked;
      parked = parked_in w;
      shown = filled_by s.observations (λ j. mask_at w (shown j)) (replicate max_observations 0);
      moves = filled_by (s.actions * s.states) (λ j. mask_at w (move (j / s.states) (j % s.states))) (replicate max_moves 0);
    }

-- the mask that the fields have for a place
abbrev pub field_at : Fields → Place → ℕ
field_at f Start = f.start
field_at f Bad = f.bad
field_at f Parked = f.parked
field_at f (Shown j) = get_or f.shown j.0 0
field_at f (Move a i) = get_or f.moves (a.0 * f.states + i.0) 0

-- what the fields mean
unfoldable pub game_of : Fields → Game
game_of f =
    record {
      states = f.states;
      actions = f.actions;
      observations = f.observations;
      start = field_at f Start;
      bad = field_at f Bad;
      parked = field_at f Parked;
      shown = λ j. field_at f (shown j);
      successors = λ a i. field_at f (move a i);
    }
