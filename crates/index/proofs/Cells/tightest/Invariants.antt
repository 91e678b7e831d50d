-- `index::Cells::tightest` meets its contract. The loop's invariant: no cell of fewer than k states holds t.
use Rattle.index.proofs.Climbing.{Climbed}
use Rattle.index.proofs.Cells.tightest.Given as goal

abbrev pub invariant-loop-k : goal.invariant-loop-k
invariant-loop-k l = Climbed l.self.tops.now l.t l.k
