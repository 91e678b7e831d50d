-- The check of the size is what the struct promises.
use Rattle.std.proofs.Common.{sym, ◌∙◌}
use Rattle.tables.proofs.Checks.{size_sized}
use Rattle.tables.proofs.words.Table.of.Goals as goal

pub invariant_of-result : goal.invariant_of-result
invariant_of-result c = record { sized = size_sized _ (sym c.check_size.ensures ∙ c.in_ok-check_size.was) }
