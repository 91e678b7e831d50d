-- Invariant: each state so far is named by a word.
use mathlib.Core.Path.{◌≡◌}
use Rattle.sets.specs.Bounded.{first, nothing}
use Rattle.tables.specs.Check.{unseen_in}
use Rattle.tables.proofs.check_sets.Given as goal

abbrev pub invariant-loop-i : goal.invariant-loop-i
invariant-loop-i l = first l.i (unseen_in l.shown) ≡ nothing
