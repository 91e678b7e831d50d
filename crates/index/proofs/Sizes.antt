-- Laws of the number of states of a set: by binary digits, by lane and place, of a subset; and the range of a family's sets.
-- Assumes nothing.
use mathlib.Core.Path.{◌≡◌, sym, ap, ap₂, ◌∙◌}
use mathlib.Core.Bool.{true}
use mathlib.Core.List.{List, Memᴰ}
use Prim.Native.Nat.{ℕ, ◌+◌, ◌*◌, ◌/◌, ◌%◌, ◌^◌, ◌≤◌, ◌<◌}
use native.Mathlib.Nat.{lt_of_not-le}
use native.Mathlib.Omega.{arith}
use lib.Count.{ones, ones_cat}
use lib.ListN.{length, get_or, get_or-eq_default}
use Rattle.sets.specs.Mask.{member, subset}
use Rattle.sets.specs.Bounded.{count}
use Rattle.sets.proofs.Logic.{clash}
use Rattle.sets.proofs.Bounded.{count_mono, count_same, select_mem}
use Rattle.sets.proofs.Mask.{member_zero, subset_member, ext}
use Rattle.sets.proofs.Family.{select_in}
use Rattle.families.specs.Bits.{lane_states, lane_sets, max_lanes, has, sets}
use Rattle.families.proofs.Lanes.{by_lane}
use Rattle.families.proofs.Words.{ones_count}
use Rattle.games.specs.Format.{max_states}
use Rattle.games.specs.Automaton.{state_count}

-- ---- how many states

-- as many as binary digits are set
pub by_ones : (s : ℕ) → s < 2 ^ max_states → ones s ≡ state_count s
unfolding state_count
by_ones s h = ones_count max_states s h

pub low_ones : (t : ℕ) → t < lane_sets → ones t ≡ count lane_states (member t)
low_ones t h = ones_count lane_states t h

-- those of its lane and those of its place
pub lane_states_lem : (s : ℕ) → s < 2 ^ max_states → state_count s ≡ count lane_states (member (s / lane_sets)) + count lane_states (member (s % lane_sets))
lane_states_lem s h =
    sym (by_ones s h) ∙ ap ones (sym (by_lane s)) ∙ ones_cat lane_states (s / lane_sets) (s % lane_sets) (omega arith)
    ∙ ap₂ ◌+◌ (low_ones (s / lane_sets) (omega arith)) (low_ones (s % lane_sets) (omega arith))

-- a subset has no more
pub subset_states : (s t : ℕ) → subset s t ≡ true → state_count s ≤ state_count t
unfolding state_count
subset_states s t h = count_mono max_states (member s) (member t) (λ i l m. subset_member s t h i m)

-- and where it has as many it is the set
pub subset_whole : (s t : ℕ) → s < 2 ^ max_states → t < 2 ^ max_states → subset s t ≡ true → state_count s ≡ state_count t → s ≡ t
unfolding state_count
subset_whole s t h k b e = ext max_states s t h k (count_same max_states (member s) (member t) (λ i l m. subset_member s t b i m) e)

-- ---- the sets of a family

module _ (tops : List ℕ) where
  -- they have lanes
  pub has_lane : (s : ℕ) → has tops s ≡ true → s / lane_sets < length tops
  has_lane s h =
      lt_of_not-le (λ l. clash h (ap (λ (x : ℕ). member x (s % lane_sets)) (get_or-eq_default tops 0 l) ∙ member_zero (s % lane_sets)))

  pub has_below : (s : ℕ) → has tops s ≡ true → s < length tops * lane_sets
  has_below s h = omega (arith, has_lane s h)

  -- few lanes: sets of so many states
  pub has_small : length tops ≤ max_lanes → (s : ℕ) → has tops s ≡ true → s < 2 ^ max_states
  has_small few s h = omega (arith, has_lane s h)

  -- each set of the list is in it
  pub listed_has : (c : ℕ) → c < length (sets tops) → has tops (get_or (sets tops) c 0) ≡ true
  unfolding sets
  listed_has c l = (select_in (length tops * lane_sets) (has tops) c l).1

  -- and each set in it is listed
  pub has_listed : (s : ℕ) → has tops s ≡ true → Memᴰ s (sets tops)
  unfolding sets
  has_listed s h = select_mem (length tops * lane_sets) (has tops) s (has_below s h) h
