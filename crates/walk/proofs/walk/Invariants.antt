-- `walk::walk` meets its contract: before each turn the walk along the members of `rest`, from what was gathered and counted so far, gives the answer. Its measure is how many members are left.
use lib.ListN.{length}
use Rattle.games.specs.Words.{game}
use Rattle.walk.specs.Walk.{members}
use Rattle.walk.proofs.Walks.{Walking}
use Rattle.walk.proofs.walk.Given as goal

abbrev pub invariant-loop-rest : goal.invariant-loop-rest
invariant-loop-rest l = Walking (game l.table.words.now) l.a.0 l.s l.rest l.u l.looked

abbrev pub decreases-loop-rest : goal.decreases-loop-rest
decreases-loop-rest l = length (members (game l.table.words.now).states l.rest)
