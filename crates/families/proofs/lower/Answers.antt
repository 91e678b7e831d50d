-- `families::lower` meets its contract.
use mathlib.Core.Path.{◌∙◌}
use native.Mathlib.Omega.{arith}
use Rattle.families.proofs.Lowering.{reached_end}
use Rattle.families.proofs.lower.Goals as goal

pub returns : goal.returns
returns c = λ t l. c.loop-i.invariant t l ∙ reached_end c.args.word c.loop-i.i t (omega arith) l
