-- `trimmer::write_row` meets its contract. The loop's invariant: the words for the observations below j are written.
use Rattle.games.specs.Kinds.{kind_number}
use lib.ListN.{length}
use Rattle.games.specs.Fields.{word}
use Rattle.cards.proofs.Parts.{Filled}
use Rattle.trimmer.specs.Marking.{named_from}
use Rattle.trimmer.specs.Numbering.{new_name}
use Rattle.trimmer.proofs.write_row.Given as goal

abbrev pub invariant-loop-j : goal.invariant-loop-j
invariant-loop-j l = Filled (length l.names) (λ i. word (kind_number l.kind) (new_name l.work (named_from l.names 0 i)) i 0) l.j l.out
