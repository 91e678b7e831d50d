-- `index::Cells::in_layer` meets its contract. The loop's invariant: what the layer has stands in the lanes left.
use Rattle.index.proofs.Layering.{Looking}
use Rattle.index.proofs.Cells.in_layer.Given as goal

abbrev pub invariant-loop-rest : goal.invariant-loop-rest
invariant-loop-rest l = Looking l.self.tops.now l.lanes l.above l.k l.rest

abbrev pub decreases-loop-rest : goal.decreases-loop-rest
decreases-loop-rest l = l.rest
