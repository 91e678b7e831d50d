use Rattle.games.specs.Automaton.{no_cell}
use Rattle.games.specs.Fields.{word}
use Rattle.games.specs.Kinds.{kind_number}
use Rattle.cards.proofs.Parts.{filled_none, filled_more}
use Rattle.kiss_reader.proofs.blank_row.Goals as goal

pub loop-j-init : goal.loop-j-init
loop-j-init c = filled_none _ _ c.args.row.now c.requires.1

pub loop-j-preserved : goal.loop-j-preserved
loop-j-preserved c = filled_more c.args.o (λ i. word (kind_number c.args.kind) no_cell i 0) c.loop-j.j c.loop-j.row _ c.loop-j-test.true c.kind_naming.ensures c.loop-j.invariant
