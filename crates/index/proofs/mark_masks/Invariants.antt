-- `index::mark_masks` meets its contract. The loop's invariant: the masks below place i are written.
use Rattle.index.proofs.Marking.{Masking}
use Rattle.index.proofs.mark_masks.Given as goal

abbrev pub invariant-loop-i : goal.invariant-loop-i
invariant-loop-i l = Masking l.i l.masks
