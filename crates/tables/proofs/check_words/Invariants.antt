-- `tables::check_words` meets its contract: before each turn no word so far is faulty.
use mathlib.Core.Path.{◌≡◌}
use Rattle.sets.specs.Bounded.{first, nothing}
use Rattle.tables.specs.Check.{faulty}
use Rattle.tables.proofs.check_words.Given as goal

abbrev pub invariant-loop-p : goal.invariant-loop-p
invariant-loop-p l = first l.p (faulty l.table.words.now) ≡ nothing
