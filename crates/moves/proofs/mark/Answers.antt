-- `moves::mark` meets its contract: what the state comes to in the walk, as a word.
use mathlib.Core.Path.{ap, ◌∙◌}
use Prim.Native.Nat.{ℕ}
use Rattle.std.specs.Prelude.{Option, unwrap_or}
use Rattle.moves.specs.Halves.{blocked_mark, mark}
use Rattle.moves.proofs.mark.Goals as goal

pub returns : goal.returns
unfolding mark
returns c = c.unwrap_or.ensures ∙ ap (λ (o : Option ℕ). unwrap_or o blocked_mark) c.move_from.ensures
