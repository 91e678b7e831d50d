-- What one application of the step does to a family of sets that is kept as bits.
-- Assumes nothing.
use Rattle.std.specs.Prelude.{◌≡◌, Bool, true, not, ◌&&◌, List, ℕ, ◌+◌, ◌*◌, ◌^◌, ◌<◌, length}
use Rattle.sets.specs.Mask.{member}
use Rattle.sets.specs.Family.{Family, DownClosed}
use Rattle.families.specs.Bits.{lane_sets, lanes, has}
use Rattle.games.specs.Game.{Game, enabled}
use Rattle.games.specs.Step.{step}

-- the bits of a family of sets of n states that has the subsets of its sets, and that the step only takes sets from
pub record Stage (g : Game) (bits : List ℕ) : Type 0 where
  pub size : length bits ≡ lanes g.states
  pub within : (s : ℕ) → has bits s ≡ true → s < 2 ^ g.states
  pub down : DownClosed (has bits)
  pub falls : (s : ℕ) → s < 2 ^ g.states → step g (has bits) s ≡ true → has bits s ≡ true

-- a set of n states that meets the step
abbrev pub Meets : Game → Family → ℕ → Type 0
Meets g F s = (s < 2 ^ g.states) × (step g F s ≡ true)

-- the word's sets, as sets of the lane, meet the step
abbrev pub Sound : Game → Family → (lane word : ℕ) → Type 0
Sound g F lane word = (t : ℕ) → member word t ≡ true → Meets g F (lane * lane_sets + t)

-- the word has just the sets of the lane that meet the step
pub record Passed (g : Game) (F : Family) (lane word : ℕ) : Type 0 where
  pub sound : Sound g F lane word
  pub complete : (t : ℕ) → t < lane_sets → Meets g F (lane * lane_sets + t) → member word t ≡ true

-- the state is not bad, and the action is enabled in it
unfoldable pub safely_enabled : Game → (a i : ℕ) → Bool
safely_enabled g a i = enabled g i a && not (member g.bad i)

-- such states below the bound, as a mask
pub record EnabledStates (g : Game) (a bound mask : ℕ) : Type 0 where
  pub below : mask < 2 ^ bound
  pub at : (i : ℕ) → i < bound → member mask i ≡ safely_enabled g a i
