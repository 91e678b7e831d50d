-- Invariant: the lines of the states below `state` have so many bytes.
use Prim.Native.Nat.{◌*◌}
use Rattle.games.specs.Format.{max_observations}
use Rattle.kiss_writer.specs.Lines.{most_bytes, lines_of}
use Rattle.kiss_writer.proofs.Rows.{Counted}
use Rattle.kiss_writer.proofs.Sheet.lines_length.Given as goal

abbrev pub invariant-loop-state : goal.invariant-loop-state
invariant-loop-state l = Counted (lines_of l.self.card.words.now) (max_observations * most_bytes) l.state l.bytes
