-- How the search ends, and what it leaves.
-- Assumes nothing.
use Rattle.std.specs.Prelude.{◌≡◌, true, false, List, ℕ, ◌+◌, ◌^◌, ◌<◌}
use Rattle.families.specs.Bits.{Bits}
use Rattle.games.specs.Game.{Game}
use Rattle.games.specs.Step.{good, fixed, settling}
use Rattle.games.specs.Verdict.{No, starts_in, settled, verdict}
use Rattle.search.specs.declared.Ended.{Ended}
use Rattle.search.specs.declared.Ended.TheVariants.{Settled, Lost}

-- after k rounds: the bits of the sets that are good for k, no start set lost, the families never the same so far
pub record Reached (g : Game) (k : ℕ) (bits : List ℕ) : Type 0 where
  pub family : Bits g.states (good g k) bits
  pub starts : (j : ℕ) → j < k + 1 → starts_in g (good g j) ≡ true
  pub unsettled : (j : ℕ) → j < k → fixed g j ≡ false

-- k is the settling count, the start sets are settled, and the bits are those of the settled family
pub record SettledAt (g : Game) (k : ℕ) (bits : List ℕ) : Type 0 where
  pub count_is : settling g ≡ k
  pub starts : starts_in g (settled g) ≡ true
  pub below : k < 2 ^ g.states
  pub family : Bits g.states (settled g) bits

-- a yes leaves the bits of the settled family, a no has the verdict's round number
abbrev pub Searched : Game → Ended → List ℕ → Type 0
Searched g (Settled k) bits = SettledAt g k bits
Searched g (Lost k) bits = (verdict g ≡ No k) × (k < 2 ^ g.states)
