-- A line by the fields that the code hands over: what inner functions promise each other.
-- Assumes nothing.
use Rattle.std.specs.Prelude.{List, [], ◌∷◌, ◌++◌, ℕ, Some, None}
use Rattle.text.specs.Text.{bytes}
use Rattle.text.specs.Decimal.{decimal}
use Rattle.printout.specs.Lines.{field}
use Rattle.printout.specs.declared.Field.{Field}
use Rattle.printout.specs.declared.Field.TheVariants.{Number, Entered}

-- the text of a field
abbrev pub field_of : Field → List ℕ
field_of (Number n) = field n
field_of (Entered (Some c)) = bytes " " ++ decimal c.0
field_of (Entered None) = bytes " " ++ bytes "-"

-- a text, and the fields behind it
abbrev pub with_fields : List ℕ → List Field → List ℕ
with_fields s [] = s
with_fields s (f ∷ fs) = with_fields (s ++ field_of f) fs
