-- The lists' families merged: their maximal sets are the list that is made.
-- Assumes nothing.
use mathlib.Core.Path.{◌≡◌, ◌∙◌}
use mathlib.Core.Bool.{Bool}
use mathlib.Core.List.{List}
use Prim.Native.Nat.{ℕ, ◌≤◌}
use native.Mathlib.Omega.{arith}
use lib.ListN.{length, get_or, take, replicate}
use lib.Seq.{length-take-le}
use Rattle.sets.specs.Mask.{member}
use Rattle.sets.specs.Family.{holds, maximal}
use Rattle.sets.proofs.Family.{holds_down, maximal_ext}
use Rattle.families.specs.Bits.{lanes, max_lanes, has, Bits, Closed}
use Rattle.families.proofs.Lanes.{lanes_few}
use Rattle.games.specs.Format.{max_states}
use Rattle.families.proofs.Closing.{bits_closed}
use Rattle.lists.specs.Merging.{Masks, held, Combines}

-- the word has the sets kept of those of the two families at the place
abbrev pub Keeps : (Bool → Bool → Bool) → List ℕ → List ℕ → ℕ → ℕ → Type 0
Keeps keeps a b i word = (t : ℕ) → member word t ≡ keeps (member (get_or a i 0) t) (member (get_or b i 0) t)

module _ (keeps : Bool → Bool → Bool) (made : ℕ → List ℕ → List ℕ → List ℕ) (laws : Combines keeps made) where
  module _ (n : ℕ) (k l r : List ℕ) (b : Bits n (held keeps k l) r) (w : Masks n k l) where
    -- the bits of what is held have all subsets
    pub held_closed : Closed n r
    held_closed =
        bits_closed n (held keeps k l) r w.width b
        (λ s t h f c. laws.grows (holds k s) (holds l s) (holds k t) (holds l t) (λ e. holds_down k s t e c) (λ e. holds_down l s t e c) f)

    -- and their maximal sets are the result
    pub held_result : maximal n (has r) ≡ made n k l
    held_result = maximal_ext n (has r) (held keeps k l) b.at ∙ laws.tops n k l w

-- the work room has a lane for each that the width asks for
pub enough : (n end : ℕ) → n ≤ max_states → end ≡ lanes n → end ≤ max_lanes
enough n end h e = omega (arith, e, lanes_few n h)

-- and its front has them
pub front : (n end : ℕ) → n ≤ max_states → end ≡ lanes n → length (take end (replicate {A = ℕ} max_lanes 0)) ≡ end
front n end h e = length-take-le end (replicate max_lanes 0) (enough n end h e)
