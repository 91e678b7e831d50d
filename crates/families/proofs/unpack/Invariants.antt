-- `families::unpack` meets its contract: before each turn what is left of the word is to be written from `at` on.
use Rattle.families.proofs.Words.{Writing}
use Rattle.families.proofs.unpack.Given as goal

abbrev pub invariant-loop-rest : goal.invariant-loop-rest
invariant-loop-rest l = Writing l.word l.base l.initial.out l.rest l.at l.out

abbrev pub decreases-loop-rest : goal.decreases-loop-rest
decreases-loop-rest l = l.rest
