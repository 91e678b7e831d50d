-- `Narrow::write` meets its contract: before each turn the first p places hold words, the rest is as it was.
use mathlib.Core.Path.{◌≡◌}
use lib.ListN.{length}
use Rattle.sets.specs.Bounded.{filled_by}
use Rattle.fields.specs.Write.{word_at}
use Rattle.fields.proofs.Narrow.write.Given as goal

abbrev pub invariant-loop-p : goal.invariant-loop-p
invariant-loop-p l = (length l.out ≡ length l.initial.out) × (l.out ≡ filled_by l.p (word_at l.self.bounded.fields) l.initial.out)
