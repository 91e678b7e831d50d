-- Text as bytes in a buffer: what a writer does, and what stands at a place.
-- Assumes nothing.
use Rattle.std.specs.Prelude.{◌≡◌, List, [], ◌∷◌, ◌++◌, ℕ, ◌+◌, length, drop}
use Prim.Native.Char.{code}
use Prim.Native.String.{String}
use Prim.Native.String as string
use Rattle.std.proofs.lemmas.List.Edits.{sets}

-- a quoted text as bytes; ASCII only
abbrev pub bytes : String → List ℕ
bytes string.[] = []
bytes (string.◌∷◌ c s) = code c ∷ bytes s

-- places stay below this, those past a buffer's end too, so that no sum of places wraps: 2^62
abbrev pub room : ℕ
room = 4611686018427387904

-- s was written at place `at` of the buffer d, which became e. What lies past the end is not stored, and the next place r is behind s either way
pub record Wrote (s : List ℕ) (at : ℕ) (d : List ℕ) (r : ℕ) (e : List ℕ) : Type 0 where
  pub next : r ≡ at + length s
  pub stored : e ≡ sets d at s

-- s stands at place `at` of the text l, and r is the place behind it
pub record Stands (s : List ℕ) (at : ℕ) (l : List ℕ) (r : ℕ) : Type 0 where
  pub next : r ≡ at + length s
  pub text : drop at l ≡ s ++ drop r l
