-- `moves::double` meets its contract. The loop's invariant: the first x entries stand again behind the first `size`, united with w.
use Rattle.moves.proofs.Halving.{Doubling}
use Rattle.moves.proofs.double.Given as goal

abbrev pub invariant-loop-x : goal.invariant-loop-x
invariant-loop-x l = Doubling l.size l.w l.x l.initial.half l.half
