-- `families::lower_all` meets its contract: before each turn the words so far are done.
use Rattle.families.proofs.Mapping.{Mapping}
use Rattle.families.proofs.Closing.{Low}
use Rattle.families.proofs.lower_all.Given as goal

abbrev pub invariant-loop-word : goal.invariant-loop-word
invariant-loop-word l = Mapping (Low l.initial.bits) l.initial.bits l.bits l.word-index
