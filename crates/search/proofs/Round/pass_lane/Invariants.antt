-- `search::Round::pass_lane` meets its contract. The loop's invariant: what is found meets the step, and what is neither found nor left does not.
use Rattle.games.specs.Words.{game}
use Rattle.search.proofs.Passes.{Trying}
use Rattle.search.proofs.Round.pass_lane.Given as goal

abbrev pub invariant-loop-left : goal.invariant-loop-left
invariant-loop-left l = Trying (game l.self.moves.accepted.table.words.now) l.self.family.now l.lane l.found l.left

abbrev pub decreases-loop-left : goal.decreases-loop-left
decreases-loop-left l = l.left
