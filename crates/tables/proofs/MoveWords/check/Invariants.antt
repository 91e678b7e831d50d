-- `MoveWords::check` meets its contract: before each turn no state so far departs.
use mathlib.Core.Path.{◌≡◌}
use Rattle.sets.specs.Bounded.{first, nothing}
use Rattle.tables.specs.Check.{departs_from}
use Rattle.tables.proofs.MoveWords.check.Given as goal

abbrev pub invariant-loop-i : goal.invariant-loop-i
invariant-loop-i l = first l.i (departs_from l.self.words.now 0 l.self.sizes.shape l.self.parked) ≡ nothing
