-- `kiss_reader::write_blank` meets its contract. The loop's invariant: the parts of the first c cells stand behind the front.
use Rattle.games.specs.Words.{cell_words}
use Rattle.cards.proofs.Parts.{Carded}
use Rattle.kiss.specs.Profile.{blank}
use Rattle.kiss_reader.proofs.write_blank.Given as goal

abbrev pub invariant-loop-c : goal.invariant-loop-c
invariant-loop-c l = Carded l.fn.z.observations l.fn.z.cells (cell_words (blank l.fn.z.cells) l.fn.z.observations) l.initial.words l.c l.words
