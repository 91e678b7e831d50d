-- `trimmer::number` meets its contract. The loop's invariant: the marked cells below c are numbered.
use Rattle.trimmer.proofs.Numbering.{Counting}
use Rattle.trimmer.proofs.number.Given as goal

abbrev pub invariant-loop-c : goal.invariant-loop-c
invariant-loop-c l = Counting l.initial.work l.c l.kept l.work
