-- `families::maximal_bits` meets its contract: before each turn the lanes below `lane` have their maximal sets, and the others all.
use Rattle.families.proofs.Mapping.{Mapping}
use Rattle.families.proofs.Maximal.{Tops}
use Rattle.families.proofs.maximal_bits.Given as goal

abbrev pub invariant-loop-lane : goal.invariant-loop-lane
invariant-loop-lane l = Mapping (Tops l.n l.bits) l.bits l.found l.lane
