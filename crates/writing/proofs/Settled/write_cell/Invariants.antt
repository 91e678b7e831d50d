-- `writing::Settled::write_cell` meets its contract. The loops' invariants: no action below a meets the step; for the observations below j, the
-- successors are settled and the words are written.
use mathlib.Core.Bool.{true}
use mathlib.Core.Path.{◌≡◌}
use lib.ListN.{length}
use Rattle.sets.specs.Mask.{common}
use Rattle.sets.specs.Bounded.{all}
use Rattle.families.specs.Bits.{sets}
use Rattle.games.specs.Words.{game}
use Rattle.games.specs.Verdict.{settled}
use Rattle.cards.proofs.Parts.{Filled}
use Rattle.index.specs.Index.{Noted}
use Rattle.writing.proofs.Choosing.{NoneMeets, next_word}
use Rattle.writing.proofs.Settled.write_cell.Given as goal

-- the loop that is left at once, with the holding cell
abbrev pub invariant-loop-holder : goal.invariant-loop-holder
invariant-loop-holder l = (l.a ≡ l.initial.a) × (length l.work ≡ length l.initial.work) × Noted l.self.cells.tops.now l.self.cells.base l.work

abbrev pub decreases-loop-holder : goal.decreases-loop-holder
decreases-loop-holder l = 0

abbrev pub invariant-loop-j : goal.invariant-loop-j
invariant-loop-j l = (l.a ≡ l.initial.a) × (all l.j (λ i. settled (game l.self.moves.accepted.table.words.now) (common l.u ((game l.self.moves.accepted.table.words.now).shown i))) ≡ true) × NoneMeets (game l.self.moves.accepted.table.words.now) l.s l.o l.a-end l.initial.a l.out × Filled l.o (next_word (game l.self.moves.accepted.table.words.now) (sets l.self.cells.tops.now) l.u) l.j l.out × (length l.work ≡ length l.initial.work) × Noted l.self.cells.tops.now l.self.cells.base l.work

abbrev pub invariant-actions : goal.invariant-actions
invariant-actions l = NoneMeets (game l.self.moves.accepted.table.words.now) l.s l.o l.a-end l.a l.out × (length l.work ≡ length l.initial.work) × Noted l.self.cells.tops.now l.self.cells.base l.work
