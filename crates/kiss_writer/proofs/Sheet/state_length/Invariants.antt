-- Invariant: the lines of the observations below `observation` have so many bytes.
use Rattle.kiss_writer.specs.Lines.{most_bytes, slot_of}
use Rattle.kiss_writer.proofs.Rows.{Counted}
use Rattle.kiss_writer.proofs.Sheet.state_length.Given as goal

abbrev pub invariant-loop-observation : goal.invariant-loop-observation
invariant-loop-observation l = Counted (slot_of l.self.card.words.now l.state) most_bytes l.observation l.bytes
