-- `moves::fill_side` meets its contract. The loop's invariant: the halves of the actions below a are filled.
use Rattle.games.specs.Words.{game}
use Rattle.moves.specs.Halves.{Sided}
use Rattle.moves.proofs.fill_side.Given as goal

abbrev pub invariant-loop-a : goal.invariant-loop-a
invariant-loop-a l = Sided (game l.table.words.now) l.first l.count l.a l.side
