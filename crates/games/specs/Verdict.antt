-- The verdict (document 01, "The step on sets").
-- Assumes nothing.
use Rattle.std.specs.Prelude.{Bool, not, cond, List, ℕ, ◌^◌, length}
use Rattle.sets.specs.Mask.{common}
use Rattle.sets.specs.Bounded.{all, first, or_else}
use Rattle.sets.specs.Family.{Family}
use Rattle.games.specs.Game.{Game}
use Rattle.games.specs.Step.{good, antichain, settling}

-- the sets before the first action, and their number: for each observation, the start states showing it
unfoldable pub start_sets : Game → ℕ
start_sets g = g.observations

unfoldable pub start_set : Game → ℕ → ℕ
start_set g o = common g.start (g.shown o)

-- all of them are in the family
unfoldable pub starts_in : Game → Family → Bool
starts_in g F = all (start_sets g) (λ o. F (start_set g o))

-- yes with the settling count and the number of cells; no with the round number
pub data Verdict : Type 0 where
  Yes : (settled cells : ℕ) → Verdict
  No : (round : ℕ) → Verdict

-- the settled sets
unfoldable pub settled : Game → Family
settled g = good g (settling g)

-- the solver's cells: the settled antichain in order
unfoldable pub cells : Game → List ℕ
cells g = antichain g (settling g)

-- the least k for which one of the start sets isn't good for k (it is below 2 ^ n)
unfoldable pub lost_round : Game → ℕ
lost_round g = or_else (first (2 ^ g.states) (λ k. not (starts_in g (good g k)))) (2 ^ g.states)

-- yes where the start sets are settled sets
unfoldable pub verdict : Game → Verdict
verdict g = cond (starts_in g (settled g)) (Yes (settling g) (length (cells g))) (No (lost_round g))
