-- Invariant: the first i slots hold masks, the rest is as it was.
use mathlib.Core.Path.{◌≡◌}
use Rattle.sets.specs.Bounded.{filled_by}
use Rattle.tables.specs.Fields.{masks_from}
use Rattle.tables.proofs.words.masks.Given as goal

abbrev pub invariant-loop-i : goal.invariant-loop-i
invariant-loop-i g l = l.slots ≡ filled_by l.i (masks_from l.words 0) l.initial.slots
