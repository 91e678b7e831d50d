-- A family of sets of states as bits, 64 sets to a machine word.
-- Assumes nothing.
use Rattle.std.specs.Prelude.{◌≡◌, Bool, true, not, ◌&&◌, ◌||◌, ℕ, ◌+◌, ◌-◌, ◌*◌, ◌/◌, ◌%◌, ◌^◌, ◌≤◌, ◌<◌, length, get_or}
use mathlib.Core.List.{List, [], ◌∷◌, Memᴰ}
use Rattle.sets.specs.Mask.{member, subset}
use Rattle.games.specs.Format.{max_states}
use Rattle.sets.specs.Bounded.{any, select}
use Rattle.sets.specs.Family.{Family, DownClosed}

-- the states below 6 tell the sets of one machine word (lane) apart: lane k has a bit for each of the sets 64 k to 64 k + 63
abbrev pub lane_states : ℕ
lane_states = 6

abbrev pub lane_sets : ℕ
lane_sets = 2 ^ lane_states

-- the states from 6 up tell the lanes apart: document 01's limit leaves six
abbrev pub high_states : ℕ
high_states = max_states - lane_states

abbrev pub max_lanes : ℕ
max_lanes = 2 ^ high_states

-- how many lanes the sets of n states take: one for up to 6 states
unfoldable pub lanes : ℕ → ℕ
lanes n = 2 ^ (n - lane_states)

-- the bit of the set s is set
abbrev pub has : List ℕ → Family
has bits s = member (get_or bits (s / lane_sets) 0) (s % lane_sets)

-- the sets, ascending
unfoldable pub sets : List ℕ → List ℕ
sets bits = select (length bits * lane_sets) (has bits)

-- the bits are those of the family F of sets of n states
pub record Bits (n : ℕ) (F : Family) (bits : List ℕ) : Type 0 where
  pub size : length bits ≡ lanes n
  pub at : (s : ℕ) → s < 2 ^ n → has bits s ≡ F s
  pub within : (s : ℕ) → has bits s ≡ true → s < 2 ^ n

-- the bits are those of some family of sets of n states that has the subsets of its sets
pub record Closed (n : ℕ) (bits : List ℕ) : Type 0 where
  pub states : n ≤ max_states
  pub size : length bits ≡ lanes n
  pub within : (s : ℕ) → has bits s ≡ true → s < 2 ^ n
  pub down : DownClosed (has bits)

-- the list's masks are of n states, and there is a lane for each
pub record Holding (n : ℕ) (list bits : List ℕ) : Type 0 where
  pub states : n ≤ max_states
  pub masks : (s : ℕ) → Memᴰ s list → s < 2 ^ n
  pub size : length bits ≡ lanes n

-- each word that may be given for a number i below n has t where the test of i passes
abbrev pub Tells : (ℕ → ℕ → Type 0) → ℕ → ℕ → (ℕ → Bool) → Type 0
Tells gives n t test = (i word : ℕ) → i < n → gives i word → member word t ≡ test i

-- the lane lacks the state i (of the states from 6 up), and the lane with it has t
abbrev pub has_with : List ℕ → ℕ → ℕ → ℕ → Bool
has_with bits lane i t = not (member lane i) && member (get_or bits (lane + 2 ^ i) 0) t

-- a lane with one state more has t
abbrev pub larger_has : List ℕ → ℕ → ℕ → Bool
larger_has bits lane t = any high_states (λ i. has_with bits lane i t)

-- this lane has t, or a lane with one state more does
abbrev pub own_or_larger : List ℕ → ℕ → ℕ → Bool
own_or_larger bits lane t = member (get_or bits lane 0) t || larger_has bits lane t

-- t lacks the state i, and the word has t with it
abbrev pub word_with : ℕ → ℕ → ℕ → Bool
word_with word i t = not (member t i) && member word (t + 2 ^ i)

-- the word has t with one state more
abbrev pub covered_by : ℕ → ℕ → Bool
covered_by word t = any lane_states (λ i. word_with word i t)

-- the lane has just those of its sets that are in no lane with one state more, and not in the word with one state more; the others are as before
pub record Topped (old : List ℕ) (lane : ℕ) (new : List ℕ) : Type 0 where
  pub size : length new ≡ length old
  pub tops : (t : ℕ) → t < lane_sets → member (get_or new lane 0) t ≡ (member (get_or old lane 0) t && not (larger_has old lane t || covered_by (get_or old lane 0) t))
  pub kept : (m : ℕ) → (m ≡ lane → ⊥) → get_or new m 0 ≡ get_or old m 0

-- the word has a set that holds t
abbrev pub low_has : ℕ → ℕ → Bool
low_has word t = any lane_sets (λ u. subset t u && member word u)

-- a lane that holds this one has t
abbrev pub up_has : List ℕ → ℕ → ℕ → Bool
up_has bits lane t = any (length bits) (λ m. subset lane m && member (get_or bits m 0) t)

-- a lane that holds this one has a set that holds t
abbrev pub above_has : List ℕ → ℕ → ℕ → Bool
above_has bits lane t = any (length bits) (λ m. subset lane m && low_has (get_or bits m 0) t)

-- as many lanes as before, and a lane has the sets t that `gives` says
pub record ByLane (gives : ℕ → ℕ → Bool) (old new : List ℕ) : Type 0 where
  pub size : length new ≡ length old
  pub each : (lane t : ℕ) → t < lane_sets → member (get_or new lane 0) t ≡ gives lane t

-- the list's numbers with `base` added to each
unfoldable pub raised : ℕ → List ℕ → List ℕ
raised base [] = []
raised base (t ∷ l) = (base + t) ∷ raised base l
