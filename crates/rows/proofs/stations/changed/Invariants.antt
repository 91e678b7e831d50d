-- The changes up to here are made.
use Rattle.std.proofs.Common.{◌≡◌, fold, take, slice_set}
use Rattle.rows.proofs.stations.changed.Given as goal

abbrev pub invariant-loop-change : goal.invariant-loop-change
invariant-loop-change g l = l.result ≡ fold (λ w c. slice_set w c.0 c.1) l.fn.words (take l.change-index l.changes)
