-- The loop's invariant: the cells that the words so far name are marked.
use Rattle.trimmer.specs.Marking.{Adds, named_from}
use Rattle.trimmer.proofs.Marks.mark_named.Given as goal

abbrev pub invariant-loop-name : goal.invariant-loop-name
invariant-loop-name l = Adds (named_from l.names 0) l.name-index l.initial.self l.self
