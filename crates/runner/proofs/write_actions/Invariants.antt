-- Invariant: the first i observations were taken, the card is in the cell after them, and their actions stand in front of the buffer.
use Rattle.runner.proofs.Laws.{Wrote}
use Rattle.runner.proofs.write_actions.Given as goal

abbrev pub invariant-loop-i : goal.invariant-loop-i
invariant-loop-i l = Wrote l.card.words.now l.seen l.initial.out l.out l.i l.cell
