-- Invariant: the lines of the states below `state` are written.
use Prim.Native.Nat.{◌*◌}
use Rattle.games.specs.Format.{max_observations}
use Rattle.kiss_writer.specs.Lines.{most_bytes, lines_of}
use Rattle.kiss_writer.proofs.Rows.{Below}
use Rattle.kiss_writer.proofs.Sheet.put_lines.Given as goal

abbrev pub invariant-loop-state : goal.invariant-loop-state
invariant-loop-state l = Below (lines_of l.self.card.words.now) (max_observations * most_bytes) l.state l.initial.out l.out
