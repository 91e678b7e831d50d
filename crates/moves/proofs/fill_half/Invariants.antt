-- `moves::fill_half` meets its contract. The loop's invariant: the entries of the sets of the first i states are what these lead to.
use Prim.Native.Nat.{◌+◌}
use Rattle.games.specs.Words.{game}
use Rattle.moves.specs.Halves.{mark}
use Rattle.moves.proofs.Halving.{Halving}
use Rattle.moves.proofs.fill_half.Given as goal

abbrev pub invariant-loop-i : goal.invariant-loop-i
invariant-loop-i l = Halving (λ j. mark (game l.table.words.now) l.a.0 (l.first + j)) l.count l.i l.size l.half
