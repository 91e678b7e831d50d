-- `lists::merge` meets its contract: before each turn the first i words are done.
use Rattle.families.proofs.Mapping.{Mapping}
use Rattle.lists.proofs.Merging.{Keeps}
use Rattle.lists.proofs.merge.Given as goal

abbrev pub invariant-loop-i : goal.invariant-loop-i
invariant-loop-i g l = Mapping (Keeps g.C.Combination.keeps l.initial.a l.b) l.initial.a l.a l.i
