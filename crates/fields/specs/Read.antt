-- What reading a table into fields answers (document 01, "Entries"; parked states: document 02, change 2).
-- Assumes nothing.
use Rattle.std.specs.Prelude.{List, ℕ, Result, Ok, Err}
use Rattle.games.specs.Answers.{unless}
use Rattle.games.specs.declared.Refusal.{Refusal}
use Rattle.tables.specs.Check.{checked}
use Rattle.tables.specs.Fields.{fields_of}
use Rattle.tables.specs.declared.Fields.{Fields}

-- the refusal of the table checks, else the table's fields
unfoldable pub read_of : List ℕ → Result Fields Refusal
read_of w = unless (checked w) Err (Ok (fields_of w))
