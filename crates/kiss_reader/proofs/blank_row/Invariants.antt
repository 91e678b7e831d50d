-- `kiss_reader::blank_row` meets its contract. The loop's invariant: the words for the observations below j are written.
use Rattle.games.specs.Kinds.{kind_number}
use Rattle.games.specs.Automaton.{no_cell}
use Rattle.games.specs.Fields.{word}
use Rattle.cards.proofs.Parts.{Filled}
use Rattle.kiss_reader.proofs.blank_row.Given as goal

abbrev pub invariant-loop-j : goal.invariant-loop-j
invariant-loop-j l = Filled l.o (λ i. word (kind_number l.kind) no_cell i 0) l.j l.row
