-- `families::having` meets its contract.
use mathlib.Core.Path.{ap, ◌∙◌}
use mathlib.Core.Bool.{not, not-not}
use native.Mathlib.Omega.{arith}
use Rattle.sets.specs.Mask.{member}
use Rattle.sets.proofs.Mask.{member_rest}
use Rattle.families.specs.Bits.{lane_sets}
use Rattle.families.proofs.having.Goals as goal

pub returns : goal.returns
returns c = λ t l. member_rest lane_sets c.lacking.result t (omega (arith, c.lacking)) l ∙ ap not (c.lacking.ensures t l) ∙ not-not (member t c.args.i)
