-- `Fields::check_sets` meets its contract: the slots are the observations' sets.
use mathlib.Core.Path.{◌∙◌}
use native.Mathlib.Omega.{arith}
use Rattle.tables.proofs.Same.{fields_sets}
use Rattle.tables.proofs.Fields.check_sets.Goals as goal

pub returns : goal.returns
returns c = c.check_sets.ensures ∙ fields_sets c.args.self _ c.shape.ensures (omega (arith, c.requires.most_observations))
