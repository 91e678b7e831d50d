-- Invariant: the first i observations were taken, and the card is in the cell after them.
use Rattle.runner.proofs.Laws.{At}
use Rattle.runner.proofs.try_run.Given as goal

abbrev pub invariant-loop-i : goal.invariant-loop-i
invariant-loop-i l = At l.card.words.now l.seen l.i l.cell
