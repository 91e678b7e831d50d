-- `each_table` is safe and ends. The measure is how many words are left.
use lib.ListN.{length}
use Rattle.walk_vectors.proofs.each_table.Given as goal

abbrev pub invariant-loop-rest : goal.invariant-loop-rest
invariant-loop-rest g l = Unit {0}

abbrev pub decreases-loop-rest : goal.decreases-loop-rest
decreases-loop-rest g l = length l.rest
