-- Laws of lanes and their words.
-- Assumes nothing.
use mathlib.Core.Path.{◌≡◌, sym, ap, ap₂, ◌∙◌, subst}
use mathlib.Core.Logic.{⊎_elim}
use mathlib.Core.Bool.{Bool, true, false, not, ◌&&◌, ◌||◌, and_comm}
use mathlib.Core.List.{List}
use Prim.Native.Nat.{ℕ, ◌+◌, ◌-◌, ◌*◌, ◌/◌, ◌%◌, ◌^◌, ◌≤◌, ◌<◌}
use native.Mathlib.Nat.{one-mul, mod-eq_of_lt, add_comm, add_assoc}
use native.Mathlib.Omega.{arith}
use lib.ListN.{length, get_or, set}
use lib.Seq.{get_or-set_same, get_or-set_other}
use lib.Pow.{pow_pos, pow-lt, pow_mono, pow-add, high, low, split}
use borrow.Author.Tests.{not-true}
use Rattle.sets.specs.Mask.{member, common, union, subset}
use Rattle.sets.specs.Bounded.{any}
use Rattle.games.specs.Format.{max_states}
use Rattle.families.specs.Bits.{lane_states, lane_sets, high_states, lanes, has, has_with, larger_has, own_or_larger, word_with, covered_by}
use Rattle.sets.proofs.Logic.{decided, clash, same_truth, and_left, and_right, and_intro, or_left, false_not, and_false_left, and_false_right, true_not}
use Rattle.sets.proofs.Bounded.{any_zero, any_more, any_found, any_intro, any_none, any_refuted, any_ext}
use Rattle.sets.proofs.Mask.{member_zero, member_and, member_or, member_shift, member_low, member_sub_same, sub_add, union_add, union_least}
use Rattle.sets.proofs.Mask.{union_subset_left, union_subset_right, subset_refl, subset_antisym, subset_intro, subset_member, add_lt, subset_parts}

-- a 1 shifted by fewer places than the word has
pub shift_one : (w i : ℕ) → i < w → 1 * 2 ^ i % 2 ^ w ≡ 2 ^ i
shift_one w i h = rw one-mul (mod-eq_of_lt (pow-lt h))

-- ---- a union made in a loop

-- before the first turn
pub unite_none : (f : ℕ → Bool) (t : ℕ) → member 0 t ≡ any 0 f
unite_none f t = member_zero t ∙ sym (any_zero f)

-- one turn
pub unite_more : (f : ℕ → Bool) (i a b t : ℕ) → member a t ≡ any i f → member b t ≡ f i → member (union a b) t ≡ any (i + 1) f
unite_more f i a b t h k = member_or a b t ∙ ap₂ ◌||◌ h k ∙ sym (any_more i f)

-- ---- the subsets of a set

-- t has no state that h lacks
pub nothing_lacked : (h t : ℕ) → t < lane_sets → not (any lane_states (λ i. not (member h i) && member t i)) ≡ subset t h
nothing_lacked h t l =
    same_truth (not (any lane_states (λ i. not (member h i) && member t i))) (subset t h)
    (λ e. subset_intro lane_states t h l
    (λ i b m. ⊎_elim (λ (a : member h i ≡ true). a)
    (λ a. clash (and_intro (false_not a) m) (any_none lane_states (λ i. not (member h i) && member t i) (not-true (any lane_states (λ i. not (member h i) && member t i)) e) i b)) (decided (member h i))))
    (λ e. false_not (any_refuted lane_states (λ i. not (member h i) && member t i)
    (λ i b. ⊎_elim (λ m. and_false_left (member t i) (true_not (subset_member t h e i m))) (λ f. and_false_right (not (member h i)) f) (decided (member t i)))))

-- ---- this lane and those with a state more

-- a lane that has the state is itself the lane with it
union_has : (lane i : ℕ) → member lane i ≡ true → union lane (2 ^ i) ≡ lane
union_has lane i m =
    subset_antisym (union lane (2 ^ i)) lane
    (union_least lane (2 ^ i) lane (subset_refl lane)
    (subst (λ (x : ℕ). subset (2 ^ i) x ≡ true) (union_add (lane - 2 ^ i) i (member_sub_same lane i m) ∙ sub_add lane i m) (union_subset_right (lane - 2 ^ i) (2 ^ i))))
    (union_subset_left lane (2 ^ i))

module _ (bits : List ℕ) (lane t : ℕ) where
  -- a lane that lacks the state: the one with it has a state more
  pub other_lane : (i : ℕ) → member lane i ≡ false → member (get_or bits (union lane (2 ^ i)) 0) t ≡ has_with bits lane i t
  other_lane i m =
      ap (λ (x : ℕ). member (get_or bits x 0) t) (union_add lane i m)
      ∙ sym (ap (λ (x : Bool). x && member (get_or bits (lane + 2 ^ i) 0) t) (false_not m))

  -- one that has the state is itself the one with it
  own_lane : (i : ℕ) → member lane i ≡ true → member (get_or bits lane 0) t ≡ false → member (get_or bits (union lane (2 ^ i)) 0) t ≡ has_with bits lane i t
  own_lane i m e =
      ap (λ (x : ℕ). member (get_or bits x 0) t) (union_has lane i m) ∙ e
      ∙ sym (and_false_left (member (get_or bits (lane + 2 ^ i) 0) t) (true_not m))

  -- so with what this lane has no lane need be tested for a state
  pub with_own : (member (get_or bits lane 0) t || any high_states (λ i. member (get_or bits (union lane (2 ^ i)) 0) t)) ≡ own_or_larger bits lane t
  with_own =
      ⊎_elim
      (λ e. or_left (any high_states (λ i. member (get_or bits (union lane (2 ^ i)) 0) t)) e ∙ sym (or_left (larger_has bits lane t) e))
      (λ e. ap (λ (b : Bool). member (get_or bits lane 0) t || b)
      (any_ext high_states (λ i. member (get_or bits (union lane (2 ^ i)) 0) t) (λ i. has_with bits lane i t)
      (λ i l. ⊎_elim (λ m. own_lane i m e) (λ m. other_lane i m) (decided (member lane i)))))
      (decided (member (get_or bits lane 0) t))

-- what the lanes with a state more have goes by the lanes behind this one
pub larger_same : (a b : List ℕ) (lane t : ℕ) → ((m : ℕ) → lane < m → get_or a m 0 ≡ get_or b m 0) → larger_has a lane t ≡ larger_has b lane t
larger_same a b lane t h =
    any_ext high_states (λ i. has_with a lane i t) (λ i. has_with b lane i t)
    (λ i l. ap (λ (x : ℕ). not (member lane i) && member x t) (h (lane + 2 ^ i) (omega (arith, pow_pos i))))

-- an emptied lane adds nothing
pub emptied : (bits : List ℕ) (lane t : ℕ) → lane < length bits → own_or_larger (set bits lane 0) lane t ≡ larger_has bits lane t
emptied bits lane t l =
    ap (λ (b : Bool). b || larger_has (set bits lane 0) lane t) (ap (λ (x : ℕ). member x t) (get_or-set_same bits lane 0 0 l) ∙ member_zero t)
    ∙ larger_same (set bits lane 0) bits lane t (λ m k. get_or-set_other bits lane m 0 0 (λ e. omega arith))

-- ---- the word shifted by one state

-- `lacking` has the sets that lack i
pub shifted_word : (word i step lacking : ℕ) → step ≡ 2 ^ i → ((t : ℕ) → t < lane_sets → member lacking t ≡ not (member t i)) → (t : ℕ) → t < lane_sets → member (common (word / 2 ^ step) lacking) t ≡ word_with word i t
shifted_word word i step lacking e h t l =
    member_and (word / 2 ^ step) lacking t
    ∙ ap₂ ◌&&◌ (member_shift word step t ∙ ap (member word) (ap (λ (x : ℕ). x + t) e ∙ add_comm (2 ^ i) t)) (h t l)
    ∙ and_comm (member word (t + 2 ^ i)) (not (member t i))

-- ---- sets by lane and place

-- the set t of a lane
pub has_at : (bits : List ℕ) (lane t : ℕ) → t < lane_sets → has bits (lane * lane_sets + t) ≡ member (get_or bits lane 0) t
has_at bits lane t l = ap₂ (λ (x y : ℕ). member (get_or bits x 0) y) (high lane lane_states l) (low lane lane_states l)

-- its states below 6 are those of t
pub state_low : (lane t i : ℕ) → t < lane_sets → i < lane_states → member (lane * lane_sets + t) i ≡ member t i
state_low lane t i l h = sym (member_low (lane * lane_sets + t) lane_states i h) ∙ ap (λ (x : ℕ). member x i) (low lane lane_states l)

-- those from 6 up are the lane's
pub state_high : (lane t j : ℕ) → t < lane_sets → member (lane * lane_sets + t) (lane_states + j) ≡ member lane j
state_high lane t j l = sym (member_shift (lane * lane_sets + t) lane_states j) ∙ ap (λ (x : ℕ). member x j) (high lane lane_states l)

-- a state below 6 put in: the same lane
pub has_low : (bits : List ℕ) (lane t i : ℕ) → t < lane_sets → i < lane_states → member t i ≡ false → has bits (lane * lane_sets + t + 2 ^ i) ≡ member (get_or bits lane 0) (t + 2 ^ i)
has_low bits lane t i l h f =
    ap (has bits) (add_assoc (lane * lane_sets) t (2 ^ i)) ∙ has_at bits lane (t + 2 ^ i) (add_lt t i f lane_states l h)

-- a state from 6 up put in: the same place in the lane with it
pub has_high : (bits : List ℕ) (lane t j : ℕ) → t < lane_sets → has bits (lane * lane_sets + t + 2 ^ (lane_states + j)) ≡ member (get_or bits (lane + 2 ^ j) 0) t
has_high bits lane t j l =
    let e : lane * lane_sets + t + 2 ^ (lane_states + j) ≡ (lane + 2 ^ j) * lane_sets + t = omega (arith, pow-add 2 lane_states j) in
    ap (has bits) e ∙ has_at bits (lane + 2 ^ j) t l

-- ---- what `larger` finds

-- in a lane with one state more: that set is in the family
pub larger_found : (bits : List ℕ) (lane t : ℕ) → t < lane_sets → larger_has bits lane t ≡ true → (j : ℕ) × (j < high_states) × (member lane j ≡ false) × (has bits (lane * lane_sets + t + 2 ^ (lane_states + j)) ≡ true)
larger_found bits lane t l e =
    let w = any_found high_states (λ i. has_with bits lane i t) e in (
      w.0,
      w.1,
      not-true (member lane w.0) (and_left (not (member lane w.0)) (member (get_or bits (lane + 2 ^ w.0) 0) t) w.2),
      has_high bits lane t w.0 l ∙ and_right (not (member lane w.0)) (member (get_or bits (lane + 2 ^ w.0) 0) t) w.2,
    )

-- a set of the family with one state more is found
pub larger_intro : (bits : List ℕ) (lane t j : ℕ) → t < lane_sets → j < high_states → member lane j ≡ false → has bits (lane * lane_sets + t + 2 ^ (lane_states + j)) ≡ true → larger_has bits lane t ≡ true
larger_intro bits lane t j l h f e = any_intro high_states (λ i. has_with bits lane i t) j h (and_intro (false_not f) (sym (has_high bits lane t j l) ∙ e))

-- the same within a word
pub covered_found : (bits : List ℕ) (lane t : ℕ) → t < lane_sets → covered_by (get_or bits lane 0) t ≡ true → (i : ℕ) × (i < lane_states) × (member t i ≡ false) × (has bits (lane * lane_sets + t + 2 ^ i) ≡ true)
covered_found bits lane t l e =
    let w = any_found lane_states (λ i. word_with (get_or bits lane 0) i t) e in
    let f : member t w.0 ≡ false = not-true (member t w.0) (and_left (not (member t w.0)) (member (get_or bits lane 0) (t + 2 ^ w.0)) w.2) in
    (w.0, w.1, f, has_low bits lane t w.0 l w.1 f ∙ and_right (not (member t w.0)) (member (get_or bits lane 0) (t + 2 ^ w.0)) w.2)

pub covered_intro : (bits : List ℕ) (lane t i : ℕ) → t < lane_sets → i < lane_states → member t i ≡ false → has bits (lane * lane_sets + t + 2 ^ i) ≡ true → covered_by (get_or bits lane 0) t ≡ true
covered_intro bits lane t i l h f e = any_intro lane_states (λ i. word_with (get_or bits lane 0) i t) i h (and_intro (false_not f) (sym (has_low bits lane t i l h f) ∙ e))

-- ---- one word stored

-- the sets of its lane are the word's
pub has_stored : (bits : List ℕ) (lane word s : ℕ) → lane < length bits → lane ≡ s / lane_sets → has (set bits lane word) s ≡ member word (s % lane_sets)
has_stored bits lane word s h e =
    ap (λ (x : ℕ). member (get_or (set bits lane word) x 0) (s % lane_sets)) (sym e) ∙ ap (λ (x : ℕ). member x (s % lane_sets)) (get_or-set_same bits lane word 0 h)

-- the others are as they were
pub has_kept : (bits : List ℕ) (lane word s : ℕ) → (lane ≡ s / lane_sets → ⊥) → has (set bits lane word) s ≡ has bits s
has_kept bits lane word s e = ap (λ (x : ℕ). member x (s % lane_sets)) (get_or-set_other bits lane (s / lane_sets) word 0 (λ d. e (sym d)))

-- ---- lane and place

-- a set is its lane's number and its place there
pub by_lane : (s : ℕ) → s / lane_sets * lane_sets + s % lane_sets ≡ s
by_lane s = split s lane_states

-- a subset, by lane and place
pub subset_lane : (s t : ℕ) → subset s t ≡ (subset (s / lane_sets) (t / lane_sets) && subset (s % lane_sets) (t % lane_sets))
subset_lane s t = subset_parts lane_states s t

-- there are at most as many lanes as six states tell apart
pub lanes_few : (n : ℕ) → n ≤ max_states → lanes n ≤ 2 ^ high_states
unfolding lanes
lanes_few n h =
    let l : n - lane_states ≤ high_states = omega arith in
    pow_mono l

-- a family of so many states has no more
pub few_lanes : (n : ℕ) (bits : List ℕ) → n ≤ max_states → length bits ≡ lanes n → length bits ≤ 2 ^ high_states
few_lanes n bits h e = omega (arith, lanes_few n h)

-- they have room for all sets
pub lanes_room : (n : ℕ) → 2 ^ n ≤ lanes n * lane_sets
unfolding lanes
lanes_room n =
    let l : n ≤ n - lane_states + lane_states = omega arith in
    subst (λ (x : ℕ). 2 ^ n ≤ x) (pow-add 2 (n - lane_states) lane_states) (pow_mono l)

-- a set of n states has a lane
pub lane_there : (n s : ℕ) → s < 2 ^ n → s / lane_sets < lanes n
lane_there n s h = omega (arith, lanes_room n)
