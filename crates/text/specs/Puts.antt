-- What a step of a writer does.
-- Assumes nothing.
use Rattle.std.specs.Prelude.{◌≡◌, List, ℕ}
use Rattle.text.specs.Text.{Wrote}
use Rattle.text.specs.declared.Writer.{Writer}

-- the writer w wrote s, and became v: it still has the same buffer
pub record Puts (s : List ℕ) (w v : Writer) : Type 0 where
  pub buffer : v.out.ghost_name ≡ w.out.ghost_name
  pub wrote : Wrote s w.at w.out.now v.at v.out.now
