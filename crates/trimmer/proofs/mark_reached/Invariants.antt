-- `trimmer::mark_reached` meets its contract. The loop's invariant: `taken` of the marked cells were taken up, and the others wait. The
-- measure is how many cells are left to be taken up.
use Prim.Native.Nat.{◌-◌}
use mathlib.Core.Path.{◌≡◌}
use lib.ListN.{length}
use Rattle.cards.specs.Card.{card_observations, automaton}
use Rattle.trimmer.specs.Marking.{TakingOf}
use Rattle.trimmer.proofs.mark_reached.Given as goal

abbrev pub invariant-loop-marks : goal.invariant-loop-marks
invariant-loop-marks l = TakingOf (automaton l.card.words.now) (card_observations l.card.words.now) l.taken l.marks × (l.marks.work.ghost_name ≡ l.initial.marks.work.ghost_name)

abbrev pub decreases-loop-marks : goal.decreases-loop-marks
decreases-loop-marks l = length l.initial.marks.work.now - l.taken
