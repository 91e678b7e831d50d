-- `search::Round::pass` meets its contract. The loop's invariant: the lanes from `lane` on have just their sets that meet the step.
use Rattle.games.specs.Words.{game}
use Rattle.search.proofs.Passes.{Passing}
use Rattle.search.proofs.Round.pass.Given as goal

abbrev pub invariant-loop-lane : goal.invariant-loop-lane
invariant-loop-lane l = Passing (game l.self.moves.accepted.table.words.now) l.self.family.now l.lane l.next
