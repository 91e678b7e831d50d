-- A table that every check accepts is sized.
use Rattle.std.proofs.Common.{sym, ◌∙◌}
use Rattle.tables.proofs.Checks.{sized}
use Rattle.tables.proofs.words.Accepted.of.Goals as goal

pub invariant_of-result : goal.invariant_of-result
invariant_of-result c = record { sized = sized _ (sym c.check.ensures ∙ c.in_ok-check.was) }
