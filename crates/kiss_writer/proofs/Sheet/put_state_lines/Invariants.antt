-- Invariant: the lines of the observations below `observation` are written.
use Rattle.kiss_writer.specs.Lines.{most_bytes, slot_of}
use Rattle.kiss_writer.proofs.Rows.{Below}
use Rattle.kiss_writer.proofs.Sheet.put_state_lines.Given as goal

abbrev pub invariant-loop-observation : goal.invariant-loop-observation
invariant-loop-observation l = Below (slot_of l.self.card.words.now l.state) most_bytes l.observation l.initial.out l.out
