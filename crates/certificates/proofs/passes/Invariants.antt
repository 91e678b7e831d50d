-- Invariant: each of the numbers below i passes.
use Rattle.std.proofs.Common.{ℕ, Bool}
use Rattle.sets.specs.Calls.{Answers}
use Rattle.cards.specs.Checking.{Pass}
use Rattle.certificates.proofs.passes.Given as goal

abbrev pub invariant-loop-i : goal.invariant-loop-i
invariant-loop-i g l = (said : ℕ → Bool) → Answers (goal.F-post g l.test) l.n said → Pass said l.n l.i
