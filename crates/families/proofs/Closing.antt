-- The subsets of a family's sets, lane by lane from the highest down.
-- Assumes nothing.
use mathlib.Core.Path.{◌≡◌, refl, sym, ap, ◌∙◌, subst}
use mathlib.Core.Logic.{⊎_elim}
use mathlib.Core.Bool.{true, false, not, ◌&&◌, ◌||◌}
use mathlib.Core.List.{List, Memᴰ}
use Prim.Native.Nat.{ℕ, ◌+◌, ◌*◌, ◌/◌, ◌%◌, ◌^◌, ◌≤◌, ◌<◌}
use native.Mathlib.Nat.{lt_of_lt_of_le}
use native.Mathlib.Omega.{arith}
use lib.Dec.{eqb, ltb}
use lib.ListN.{length, get_or, set, length-set, get_or-eq_default}
use lib.Seq.{get_or-set_same, get_or-set_other}
use lib.Pow.{pow_pos, high, low}
use borrow.Author.Tests.{eqb-true, eqb-false, ltb-true, ltb-false, not-true}
use Rattle.sets.specs.Mask.{member, subset}
use Rattle.sets.specs.Family.{Family, listed, holds}
use Rattle.sets.proofs.Logic.{decided, refuted, same_truth, and_left, and_right, and_intro, and_false_left, and_false_right, or_cases, or_left, or_right, false_not}
use Rattle.sets.proofs.Bounded.{any_found, any_intro, any_refuted}
use Rattle.sets.proofs.Mask.{member_zero, subset_refl, subset_trans, subset_le, subset_lt, subset_witness, subset_antisym, subset_add, add_subset}
use Rattle.sets.proofs.Family.{DownBelow, listed_mem, mem_listed, holds_found, holds_intro}
use Rattle.games.specs.Format.{max_states}
use Rattle.families.specs.Bits.{lane_sets, high_states, has, Bits, Closed, Holding, has_with, larger_has, own_or_larger, low_has, up_has, above_has, lane_states}
use Rattle.families.proofs.Lanes.{lane_there, has_at, subset_lane}

-- ---- the subsets within the words

-- the word has the subsets of the sets of the lane
abbrev pub Low : List ℕ → ℕ → ℕ → Type 0
Low bits lane word = (t : ℕ) → t < lane_sets → member word t ≡ low_has (get_or bits lane 0) t

-- where there is no lane, there is no set
no_low : (t : ℕ) → member 0 t ≡ low_has 0 t
no_low t = member_zero t ∙ sym (any_refuted lane_sets (λ u. subset t u && member 0 u) (λ u h. and_false_right (subset t u) (member_zero u)))

-- all lanes are done
pub low_end : (old bits : List ℕ) → length bits ≡ length old → ((m : ℕ) → m < length old → Low old m (get_or bits m 0)) → (lane : ℕ) → Low old lane (get_or bits lane 0)
low_end old bits e f lane t h =
    ⊎_elim (λ b. f lane (ltb-true lane (length old) b) t h)
    (λ b. let l : length old ≤ lane = ltb-false lane (length old) b in
    ap (λ (x : ℕ). member x t) (get_or-eq_default bits 0 (omega (arith, e))) ∙ no_low t ∙ ap (λ (x : ℕ). low_has x t) (sym (get_or-eq_default old 0 l)))
    (decided (ltb lane (length old)))

-- ---- the lanes above

-- past the end there is no lane, and none above
pub up_none : (bits : List ℕ) (lane t : ℕ) → length bits ≤ lane → member (get_or bits lane 0) t ≡ up_has bits lane t
up_none bits lane t l =
    ap (λ (x : ℕ). member x t) (get_or-eq_default bits 0 l) ∙ member_zero t
    ∙ sym (any_refuted (length bits) (λ m. subset lane m && member (get_or bits m 0) t)
    (λ m h. and_false_left (member (get_or bits m 0) t) (refuted (subset lane m) (λ k. let o : lane ≤ m = subset_le lane m k in omega arith))))

module _ (old bits : List ℕ) (lane word t : ℕ) (few : length old ≤ 2 ^ high_states) (here : lane < length old) (kept : get_or bits lane 0 ≡ get_or old lane 0)
    (done : (m : ℕ) → lane < m → member (get_or bits m 0) t ≡ up_has old m t) (above : member word t ≡ (member (get_or bits lane 0) t || larger_has bits lane t)) where
  own : member (get_or bits lane 0) t ≡ member (get_or old lane 0) t
  own = ap (λ (x : ℕ). member x t) kept

  from_larger : larger_has bits lane t ≡ true → up_has old lane t ≡ true
  from_larger m =
      let w = any_found high_states (λ i. has_with bits lane i t) m in
      let f : member lane w.0 ≡ false = not-true (member lane w.0) (and_left (not (member lane w.0)) (member (get_or bits (lane + 2 ^ w.0) 0) t) w.2) in
      let g : member (get_or bits (lane + 2 ^ w.0) 0) t ≡ true = and_right (not (member lane w.0)) (member (get_or bits (lane + 2 ^ w.0) 0) t) w.2 in
      let v = any_found (length old) (λ m. subset (lane + 2 ^ w.0) m && member (get_or old m 0) t) (sym (done (lane + 2 ^ w.0) (omega (arith, pow_pos w.0))) ∙ g) in
      any_intro (length old) (λ m. subset lane m && member (get_or old m 0) t) v.0 v.1
      (and_intro (subset_trans lane (lane + 2 ^ w.0) v.0 (subset_add lane w.0 f) (and_left (subset (lane + 2 ^ w.0) v.0) (member (get_or old v.0 0) t) v.2))
      (and_right (subset (lane + 2 ^ w.0) v.0) (member (get_or old v.0 0) t) v.2))

  -- a lane above this one lies above one with a state more
  to_larger : (m : ℕ) → m < length old → subset lane m ≡ true → member (get_or old m 0) t ≡ true → (m ≡ lane → ⊥) → larger_has bits lane t ≡ true
  to_larger m l k g d =
      ⊎_elim (λ a. absurd (d (subset_antisym m lane a k)))
      (λ a. let w = subset_witness high_states m lane (lt_of_lt_of_le l few) a in
      any_intro high_states (λ i. has_with bits lane i t) w.0 w.1
      (and_intro (false_not w.3)
      (done (lane + 2 ^ w.0) (omega (arith, pow_pos w.0))
      ∙ any_intro (length old) (λ m. subset (lane + 2 ^ w.0) m && member (get_or old m 0) t) m l (and_intro (add_subset lane w.0 w.3 m k w.2) g))))
      (decided (subset m lane))

  -- one lane more
  pub up_here : member word t ≡ up_has old lane t
  up_here =
      above
      ∙ same_truth (member (get_or bits lane 0) t || larger_has bits lane t) (up_has old lane t)
      (λ e. ⊎_elim
      (λ a. any_intro (length old) (λ m. subset lane m && member (get_or old m 0) t) lane here (and_intro (subset_refl lane) (sym own ∙ a)))
      from_larger
      (or_cases (member (get_or bits lane 0) t) (larger_has bits lane t) e))
      (λ e. let w = any_found (length old) (λ m. subset lane m && member (get_or old m 0) t) e in
      let k : subset lane w.0 ≡ true = and_left (subset lane w.0) (member (get_or old w.0 0) t) w.2 in
      let g : member (get_or old w.0 0) t ≡ true = and_right (subset lane w.0) (member (get_or old w.0 0) t) w.2 in
      ⊎_elim
      (λ a. or_left (larger_has bits lane t) (own ∙ subst (λ (x : ℕ). member (get_or old x 0) t ≡ true) (eqb-true w.0 lane a) g))
      (λ a. or_right (member (get_or bits lane 0) t) (to_larger w.0 w.1 k g (eqb-false w.0 lane a)))
      (decided (eqb w.0 lane)))

-- the lanes from `lane` up are done, those below are as they were
pub record Spreading (old bits : List ℕ) (lane : ℕ) : Type 0 where
  pub within : lane ≤ length old
  pub long : length bits ≡ length old
  pub kept : (m : ℕ) → m < lane → get_or bits m 0 ≡ get_or old m 0
  pub done : (m t : ℕ) → lane ≤ m → t < lane_sets → member (get_or bits m 0) t ≡ up_has old m t

-- the first turn
pub spreading_none : (bits : List ℕ) → Spreading bits bits (length bits)
spreading_none bits = record { within = omega arith; long = refl; kept = λ m l. refl; done = λ m t l b. up_none bits m t l }

-- one turn
pub spreading_more : (old bits : List ℕ) (next lane word : ℕ) → Spreading old bits next → next ≡ lane + 1 → length old ≤ 2 ^ high_states
    → ((t : ℕ) → member word t ≡ own_or_larger bits lane t) → Spreading old (set bits lane word) lane
spreading_more old bits next lane word c up few f =
    record {
      within = omega (arith, c.within);
      long = length-set bits lane word ∙ c.long;
      kept = λ m l. get_or-set_other bits lane m word 0 (λ e. omega arith) ∙ c.kept m (omega arith);
      done = λ m t l b. ⊎_elim
          (λ e. let d : m ≡ lane = eqb-true m lane e in
          subst (λ (x : ℕ). member (get_or (set bits lane word) x 0) t ≡ up_has old x t) (sym d)
          (ap (λ (x : ℕ). member x t) (get_or-set_same bits lane word 0 (omega (arith, c.within, c.long)))
          ∙ up_here old bits lane word t few (omega (arith, c.within)) (c.kept lane (omega arith)) (λ k a. c.done k t (omega arith) b) (f t)))
          (λ e. ap (λ (x : ℕ). member x t) (get_or-set_other bits lane m word 0 (eqb-false m lane e)) ∙ c.done m t (omega (arith, eqb-false m lane e)) b)
          (decided (eqb m lane));
    }

-- ---- what the list holds

-- a set by lane and place holds s where its lane and its place hold those of s
lane_holds : (s lane u : ℕ) → u < lane_sets → subset (s / lane_sets) lane ≡ true → subset (s % lane_sets) u ≡ true → subset s (lane * lane_sets + u) ≡ true
lane_holds s lane u l h k =
    subset_lane s (lane * lane_sets + u)
    ∙ and_intro (subst (λ (x : ℕ). subset (s / lane_sets) x ≡ true) (sym (high lane lane_states l)) h) (subst (λ (x : ℕ). subset (s % lane_sets) x ≡ true) (sym (low lane lane_states l)) k)

module _ (n : ℕ) (list entry first last : List ℕ) (h : Holding n list entry) (long : length first ≡ length entry)
    (own : (s : ℕ) → has first s ≡ listed list s) (all : (lane t : ℕ) → t < lane_sets → member (get_or last lane 0) t ≡ above_has first lane t) where
  -- a set of a lane above that of s, which holds the place of s
  found_at : (s lane u : ℕ) → subset (s / lane_sets) lane ≡ true → u < lane_sets → (subset (s % lane_sets) u && member (get_or first lane 0) u) ≡ true → holds list s ≡ true
  found_at s lane u k l e =
      holds_intro list s (lane * lane_sets + u)
      (listed_mem list (lane * lane_sets + u)
      (sym (own (lane * lane_sets + u)) ∙ has_at first lane u l ∙ and_right (subset (s % lane_sets) u) (member (get_or first lane 0) u) e))
      (lane_holds s lane u l k (and_left (subset (s % lane_sets) u) (member (get_or first lane 0) u) e))

  -- a set found lies in a mask of the list
  found_held : (s : ℕ) → has last s ≡ true → holds list s ≡ true
  found_held s e =
      let w = any_found (length first) (λ m. subset (s / lane_sets) m && low_has (get_or first m 0) (s % lane_sets)) (sym (all (s / lane_sets) (s % lane_sets) (omega arith)) ∙ e) in
      let v = any_found lane_sets (λ u. subset (s % lane_sets) u && member (get_or first w.0 0) u) (and_right (subset (s / lane_sets) w.0) (low_has (get_or first w.0 0) (s % lane_sets)) w.2) in
      found_at s w.0 v.0 (and_left (subset (s / lane_sets) w.0) (low_has (get_or first w.0 0) (s % lane_sets)) w.2) v.1 v.2

  -- a set that lies in a mask is found
  mask_found : (s mask : ℕ) → Memᴰ mask list → subset s mask ≡ true → has last s ≡ true
  mask_found s mask m e =
      let k : (subset (s / lane_sets) (mask / lane_sets) && subset (s % lane_sets) (mask % lane_sets)) ≡ true = sym (subset_lane s mask) ∙ e in
      all (s / lane_sets) (s % lane_sets) (omega arith)
      ∙ any_intro (length first) (λ m. subset (s / lane_sets) m && low_has (get_or first m 0) (s % lane_sets)) (mask / lane_sets) (omega (arith, lane_there n mask (h.masks mask m), h.size, long))
      (and_intro (and_left (subset (s / lane_sets) (mask / lane_sets)) (subset (s % lane_sets) (mask % lane_sets)) k)
      (any_intro lane_sets (λ u. subset (s % lane_sets) u && member (get_or first (mask / lane_sets) 0) u) (mask % lane_sets) (omega arith)
      (and_intro (and_right (subset (s / lane_sets) (mask / lane_sets)) (subset (s % lane_sets) (mask % lane_sets)) k) (own mask ∙ mem_listed list mask m))))

  held_found : (s : ℕ) → holds list s ≡ true → has last s ≡ true
  held_found s e = let w = holds_found list s e in mask_found s w.0 w.1 w.2

  -- the bits are those of what the list holds
  pub below_bits : length last ≡ length first → Bits n (holds list) last
  below_bits e = record {
    size = e ∙ long ∙ h.size;
    at = λ s l. same_truth (has last s) (holds list s) (found_held s) (held_found s);
    within = λ s f. let w = holds_found list s (found_held s f) in subset_lt n s w.0 w.2 (h.masks w.0 w.1);
  }

-- ---- families with all subsets

-- the bits of a family that has the subsets of its sets have them too
pub bits_closed : (n : ℕ) (F : Family) (bits : List ℕ) → n ≤ max_states → Bits n F bits → DownBelow n F → Closed n bits
bits_closed n F bits h b d = record {
  states = h;
  size = b.size;
  within = b.within;
  down = λ s t f k. let l : s < 2 ^ n = b.within s f in b.at t (subset_lt n t s k l) ∙ d s t l (sym (b.at s l) ∙ f) k;
}
