-- `kiss_reader::read_lines` meets its contract. The loop's invariant: the lines so far are read, and the words are the card of the machine
-- that they say.
use Rattle.std.proofs.Common.{◌+◌, ◌*◌, ◌-◌}
use Rattle.games.specs.Automaton.{Automaton}
use Rattle.kiss_reader.specs.Reading.{InLines}
use Rattle.kiss_reader.proofs.read_lines.Given as goal

abbrev pub invariant-loop-line : goal.invariant-loop-line
invariant-loop-line l = (B : Automaton) × InLines l.z l.initial.r l.r ((l.z.cells + 1) * l.z.observations - l._line) l.free B l.words
