-- Reading and writing undo each other.
-- Assumes nothing.
use Rattle.std.specs.Prelude.{◌≡◌, List, ◌++◌, ℕ, ◌≤◌, length, take, drop}
use Rattle.games.specs.Answers.{leaves}
use Rattle.games.specs.Answers.{Written}
use Rattle.tables.specs.declared.Fields.{Fields}
use Rattle.fields.specs.Read.{read_of}
use Rattle.fields.specs.Write.{write_of}
use Rattle.games.specs.declared.Refusal.{Refusal}
use Rattle.std.specs.Prelude.{Result, Ok}

-- what was read of a table that is fine, written into any buffer long enough, gives the table's words in front
abbrev pub WritesBack : (table : List ℕ) → Result Fields Refusal → Type 0
WritesBack w r =
    (f : Fields) → r ≡ Ok f → (d : List ℕ) → length w ≤ length d → write_of f d ≡ leaves (Ok (length w)) (w ++ drop (length w) d)

-- where k words were written, reading the first k words of the buffer gives these fields
abbrev pub ReadsBack : Fields → Written → (buffer : List ℕ) → Type 0
ReadsBack f r d = (k : ℕ) → r ≡ Ok k → read_of (take k d) ≡ Ok f
