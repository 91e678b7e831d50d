-- The judge's first refusal.
-- Assumes nothing.
use mathlib.Core.Path.{◌≡◌}
use mathlib.Core.List.{List}
use Prim.Native.Nat.{ℕ, ◌<◌}
use borrow.Author.Tests.{lt-ltb}
use Rattle.games.specs.Answers.{refused}
use Rattle.judge.specs.Judge.{most_rounds, answered}
use Rattle.games.specs.declared.Reason.TheVariants as reason

-- 17 comes first
pub too_many_rounds : (w : List ℕ) (s k : ℕ) → most_rounds < k → refused reason.RoundsBeyond k ≡ answered w s k
unfolding answered
too_many_rounds w s k l = rw (lt-ltb most_rounds k l)
