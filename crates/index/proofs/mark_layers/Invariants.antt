-- `index::mark_layers` meets its contract. The loop's invariant: the lanes of the cells so far are in their layers.
use Rattle.index.proofs.Marking.{Layered}
use Rattle.index.proofs.mark_layers.Given as goal

abbrev pub invariant-loop-s : goal.invariant-loop-s
invariant-loop-s l = Layered l.cells l.s-index l.layers
