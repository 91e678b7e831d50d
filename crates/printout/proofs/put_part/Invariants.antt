-- Invariant: behind the cell's own line, the next lines of the observations below j are written.
use Rattle.printout.specs.Lines.{line_bytes, next_text}
use Rattle.printout.proofs.Texts.{Below}
use Rattle.printout.proofs.put_part.Given as goal

abbrev pub invariant-loop-j : goal.invariant-loop-j
invariant-loop-j l = Below (next_text l.card.words.now l.cell.0) line_bytes l.j l.initial.out l.out
