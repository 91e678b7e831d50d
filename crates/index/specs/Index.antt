-- What the search for a holding cell answers, and what it is helped by.
-- Assumes nothing.
use Rattle.std.specs.Prelude.{◌≡◌, Bool, true, cond, ◌&&◌, List, ℕ, ◌+◌, ◌-◌, ◌*◌, ◌/◌, ◌%◌, ◌≤◌, ◌<◌, eqb, ltb, length, get_or, take, Option, Some, None, unwrap_or}
use Rattle.sets.specs.Mask.{member, subset}
use Rattle.sets.specs.Bounded.{Found, nothing, found, first, any, count}
use Rattle.sets.specs.Family.{holds}
use Rattle.families.specs.Bits.{lane_states, lane_sets, max_lanes, has, sets}
use Rattle.games.specs.Format.{max_states, max_cells}
use Rattle.games.specs.Automaton.{no_cell, state_count, holding}
use Rattle.games.specs.declared.Cell.{Cell}

-- ---- the answer

-- the cell that is named for s, where some set of the list holds s
unfoldable pub held_by : List ℕ → ℕ → Option Cell
held_by l s = cond (holds l s) (Some (record { 0 = holding l s })) None

-- the cell that an answer names
abbrev pub named : Option Cell → ℕ
named cell = (unwrap_or cell (record { 0 = no_cell })).0

-- ---- what helps. `tops` are the cells' sets as bits

-- the set has k states and stands in the lane
abbrev pub stands_in : (k lane s : ℕ) → Bool
stands_in k lane s = eqb (state_count s) k && eqb (s / lane_sets) lane

-- for each number of states, the lanes of the cells that have so many
pub record Layers (list layers : List ℕ) : Type 0 where
  pub size : length layers ≡ 1 + max_states
  pub at : (k lane : ℕ) → member (get_or layers k 0) lane ≡ any (length list) (λ c. stands_in k lane (get_or list c 0))

-- a mask for each set of the states below 6, the sets that hold it; and behind these one for each number, the sets of so many states
abbrev pub mask_count : ℕ
mask_count = lane_sets + lane_states + 1

abbrev pub mask_has : (place t : ℕ) → Bool
mask_has i t = cond (ltb i lane_sets) (subset i t) (eqb (count lane_states (member t)) (i - lane_sets))

pub record Masks (masks : List ℕ) : Type 0 where
  pub size : length masks ≡ mask_count
  pub at : (i : ℕ) → i < mask_count → (t : ℕ) → t < lane_sets → member (get_or masks i 0) t ≡ mask_has i t

-- ---- one layer

-- each of the lanes is there and can have a set of k states
pub record Fits (tops : List ℕ) (lanes k : ℕ) : Type 0 where
  pub here : (x : ℕ) → member lanes x ≡ true → x < length tops
  pub least : (x : ℕ) → member lanes x ≡ true → count lane_states (member x) ≤ k
  pub most : (x : ℕ) → member lanes x ≡ true → k ≤ count lane_states (member x) + lane_states
  pub few : length tops ≤ max_lanes

-- the cell's set s has k states, one of the lanes, and its place there is in `above`
abbrev pub is_in : (tops : List ℕ) (lanes above k s : ℕ) → Bool
is_in tops lanes above k s = member lanes (s / lane_sets) && (has tops s && (member above (s % lane_sets) && eqb (state_count s) k))

-- the lowest such set
unfoldable pub lowest_in : (tops : List ℕ) (lanes above k : ℕ) → Found
lowest_in tops lanes above k = first (length tops * lane_sets) (is_in tops lanes above k)

abbrev pub told : Found → Option ℕ
told nothing = None
told (found s) = Some s

-- ---- the search

-- what it goes by
pub record Searched (tops layers masks : List ℕ) : Type 0 where
  pub few : length tops ≤ max_lanes
  pub layered : Layers (sets tops) layers
  pub masked : Masks masks

-- s is a cell's set that holds t; none that does has fewer states, and none with as few is lower
pub record TightestSet (tops : List ℕ) (t s : ℕ) : Type 0 where
  pub is_cell : has tops s ≡ true
  pub holds_it : subset t s ≡ true
  pub fewest : (v : ℕ) → has tops v ≡ true → subset t v ≡ true → state_count s ≤ state_count v
  pub lowest : (v : ℕ) → has tops v ≡ true → subset t v ≡ true → state_count v ≡ state_count s → s ≤ v

-- all of it, and the family of the sets that a cell's set holds, among them the empty set
pub record Index (family tops layers masks : List ℕ) : Type 0 where
  pub cells_few : length (sets tops) ≤ max_cells
  pub same_lanes : length family ≡ length tops
  pub same : (t : ℕ) → has family t ≡ holds (sets tops) t
  pub some : holds (sets tops) 0 ≡ true
  pub searched : Searched tops layers masks

-- ---- the notes, in the work words from `base` on

-- there are `base` words for the cells, and as many for the notes of the sets below it
pub record Room (tops : List ℕ) (base : ℕ) (work : List ℕ) : Type 0 where
  pub room : base + base ≤ length work
  pub few : length (sets tops) ≤ base
  pub small : base ≤ max_cells
  pub few_lanes : length tops ≤ max_lanes
  pub below : (s : ℕ) → has tops s ≡ true → s < base

-- the cells stand in front; at a cell's set one more than its number is noted, at another 0 or one more than the number of the cell that is named for it
pub record Noted (tops : List ℕ) (base : ℕ) (work : List ℕ) : Type 0 where
  pub room : base + base ≤ length work
  pub few : length (sets tops) ≤ base
  pub below : (s : ℕ) → has tops s ≡ true → s < base
  pub front : take (length (sets tops)) work ≡ sets tops
  pub cells : (s : ℕ) → has tops s ≡ true → get_or work (base + s) 0 ≡ 1 + count s (has tops)
  pub notes : (t : ℕ) → t < base → (t ≡ 0 → ⊥) → (get_or work (base + t) 0 ≡ 0 → ⊥) → (holds (sets tops) t ≡ true) × (get_or work (base + t) 0 ≡ 1 + holding (sets tops) t)
