-- `index::note_cells` meets its contract. The loop's invariant: the first c cells are noted.
use mathlib.Core.Path.{◌≡◌}
use lib.ListN.{length}
use Rattle.index.proofs.Noting.{Noting}
use Rattle.index.proofs.note_cells.Given as goal

abbrev pub invariant-loop-c : goal.invariant-loop-c
invariant-loop-c l = (length l.work ≡ length l.initial.work) × Noting l.tops l.base l.c l.work
