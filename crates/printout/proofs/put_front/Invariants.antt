-- Invariant: the first lines of the observations below j are written.
use Rattle.printout.specs.Lines.{line_bytes, first_text}
use Rattle.printout.proofs.Texts.{Below}
use Rattle.printout.proofs.put_front.Given as goal

abbrev pub invariant-loop-j : goal.invariant-loop-j
invariant-loop-j l = Below (first_text l.card.words.now) line_bytes l.j l.initial.out l.out
