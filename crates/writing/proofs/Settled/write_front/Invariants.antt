-- `writing::Settled::write_front` meets its contract. The loop's invariant: the first words of the start sets below j are written.
use mathlib.Core.Path.{◌≡◌}
use lib.ListN.{length}
use Rattle.families.specs.Bits.{sets as sets_of}
use Rattle.games.specs.Words.{game}
use Rattle.index.specs.Index.{Noted}
use Rattle.cards.proofs.Parts.{Filled}
use Rattle.writing.proofs.Words.{first_word}
use Rattle.writing.proofs.Settled.write_front.Given as goal

abbrev pub invariant-loop-j : goal.invariant-loop-j
invariant-loop-j l = Filled l.j-end (first_word (game l.self.moves.accepted.table.words.now) (sets_of l.self.cells.tops.now)) l.j l.out × (length l.work ≡ length l.initial.work) × Noted l.self.cells.tops.now l.self.cells.base l.work
