-- What the rows change before they call an entry.
-- Assumes nothing.
use Rattle.std.specs.Prelude.{slice_set}
use Rattle.tables.specs.declared.Fields.{Fields}
use Rattle.rows.specs.declared.field_rows.Difference.{Difference}
use Rattle.rows.specs.declared.field_rows.Difference.TheVariants.{Numbers, Sets, Reading, Move}

-- the fields with the difference: a slot that isn't there changes nothing
abbrev pub made : Difference → Fields → Fields
made (Numbers n a o) f = record f { states = n; actions = a; observations = o }
made (Sets start bad) f = record f { start = start; bad = bad }
made (Reading slot mask) f = record f { shown = slice_set f.shown slot mask }
made (Move slot mask) f = record f { moves = slice_set f.moves slot mask }
