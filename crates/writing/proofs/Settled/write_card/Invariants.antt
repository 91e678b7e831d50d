-- `writing::Settled::write_card` meets its contract. The loop's invariant: the parts of the cells below c stand behind the front.
use mathlib.Core.Path.{◌≡◌}
use lib.ListN.{length}
use Rattle.families.specs.Bits.{sets as sets_of}
use Rattle.index.specs.Index.{Noted}
use Rattle.games.specs.Words.{game}
use Rattle.cards.proofs.Parts.{Carded}
use Rattle.writing.proofs.Carding.{listed_words}
use Rattle.writing.proofs.Settled.write_card.Given as goal

abbrev pub invariant-loop-c : goal.invariant-loop-c
invariant-loop-c l = Carded (game l.self.moves.accepted.table.words.now).observations l.count (listed_words (game l.self.moves.accepted.table.words.now) (sets_of l.self.cells.tops.now)) l.initial.card l.c l.card × (length l.work ≡ length l.initial.work) × Noted l.self.cells.tops.now l.self.cells.base l.work
