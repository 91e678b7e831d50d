-- `search::safely_enabled` meets its contract: the two tests are the definition's.
use mathlib.Core.Path.{ap₂}
use mathlib.Core.Bool.{Bool, not, ◌&&◌}
use native.Mathlib.Omega.{arith}
use Rattle.search.specs.Stages.{safely_enabled}
use Rattle.tables.proofs.Bounds.{few_states}
use Rattle.search.proofs.safely_enabled.Goals as goal

pub member-bad-requires : goal.member-bad-requires
member-bad-requires c = omega (arith, c.requires.1, few_states c.args.table.words.now c.args.table.sized)

pub returns : goal.returns
unfolding safely_enabled
returns c = ap₂ (λ (x y : Bool). x && not y) c.enabled.ensures (rw c.bad.ensures at c.member-bad.ensures)
