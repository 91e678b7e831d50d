-- The step on sets and the good sets (document 01, "The step on sets"; documents 000 and 002: CPre and its iterates from the top).
-- Assumes nothing.
use Rattle.std.specs.Prelude.{Bool, true, not, ◌&&◌, ◌||◌, List, ℕ, zero, suc, ◌^◌, eqb}
use Rattle.sets.specs.Mask.{member, common, union_over}
use Rattle.sets.specs.Bounded.{all, any, first, or_else}
use Rattle.sets.specs.Family.{Family, same, maximal}
use Rattle.games.specs.Game.{Game, enabled}

-- no member of s is bad
unfoldable pub safe : Game → ℕ → Bool
safe g s = eqb (common s g.bad) 0

-- the action is enabled at all members of s
unfoldable pub enabled_at : Game → ℕ → ℕ → Bool
enabled_at g s a = all g.states (λ i. not (member s i) || enabled g i a)

-- the successors of the whole set (000: Post)
unfoldable pub post : Game → ℕ → ℕ → ℕ
post g s a = union_over g.states s (g.successors a)

-- the successors of the whole set that show the observation
unfoldable pub after : Game → ℕ → ℕ → ℕ → ℕ
after g s a o = common (post g s a) (g.shown o)

-- the action meets the step: it is enabled at all members, and for every observation the successors showing it form a set of the family
unfoldable pub meets : Game → Family → ℕ → ℕ → Bool
meets g F s a = enabled_at g s a && all g.observations (λ o. F (after g s a o))

-- a set with no bad state for which one action meets the step
unfoldable pub step : Game → Family → Family
step g F s = safe g s && any g.actions (meets g F s)

-- the lowest action that meets the step (0 where there is none)
unfoldable pub lowest : Game → Family → ℕ → ℕ
lowest g F s = or_else (first g.actions (meets g F s)) 0

-- good for k rounds
unfoldable pub good : Game → ℕ → Family
good g zero s = true
good g (suc k) s = step g (good g k) s

-- the maximal sets that are good for k rounds, ascending
unfoldable pub antichain : Game → ℕ → List ℕ
antichain g k = maximal g.states (good g k)

-- good for t and good for t + 1 are the same family
unfoldable pub fixed : Game → ℕ → Bool
fixed g t = same g.states (good g t) (good g (suc t))

-- document 01's settling count: the least t where they are (it is below 2 ^ n)
unfoldable pub settling : Game → ℕ
settling g = or_else (first (2 ^ g.states) (fixed g)) (2 ^ g.states)
