-- The maximal sets of a family, lane by lane.
-- Assumes nothing.
use mathlib.Core.Path.{◌≡◌, sym, ap, ap₂, ◌∙◌, subst}
use mathlib.Core.Logic.{⊎_elim}
use mathlib.Core.Bool.{Bool, true, false, not, ◌&&◌, ◌||◌}
use mathlib.Core.List.{List}
use Prim.Native.Nat.{ℕ, ◌+◌, ◌-◌, ◌*◌, ◌/◌, ◌%◌, ◌^◌, ◌≤◌, ◌<◌}
use native.Mathlib.Nat.{le_refl}
use native.Mathlib.Omega.{arith}
use lib.Dec.{ltb}
use lib.ListN.{length, get_or, set, length-set}
use lib.Seq.{get_or-set_same, get_or-set_other, set-set}
use lib.Pow.{pow_pos}
use lib.Bits.{or_lt}
use borrow.Author.Tests.{ltb-true, ltb-false, not-true}
use Rattle.sets.specs.Mask.{member, common, union}
use Rattle.sets.specs.Family.{is_maximal, maximal}
use Rattle.sets.proofs.Logic.{decided, clash, refuted, same_truth, and_left, and_right, and_intro, or_left, or_right, or_false_left, or_false_right, or_false_intro, false_not}
use Rattle.sets.proofs.Bounded.{all_intro, select_ext, select_gap}
use Rattle.sets.proofs.Mask.{member_and, member_or, member_rest, subset_add}
use Rattle.sets.proofs.Family.{is_maximal_in, is_maximal_only, maximal_by_states}
use Rattle.families.specs.Bits.{lane_states, lane_sets, high_states, has, sets, Closed, larger_has, own_or_larger, covered_by, Topped}
use Rattle.families.proofs.Lanes.{lanes_room, by_lane, has_at, state_low, state_high, larger_found, larger_intro, larger_same, emptied, covered_found, covered_intro}

-- the sets of the word that are in neither of two others
pub neither : (word a b : ℕ) → a < 2 ^ 64 → b < 2 ^ 64 → (t : ℕ) → t < lane_sets → member (common word ((2 ^ 64 - 1) - union a b)) t ≡ (member word t && not (member a t || member b t))
neither word a b h k t l =
    member_and word ((2 ^ 64 - 1) - union a b) t
    ∙ ap (λ (x : Bool). member word t && x) (member_rest 64 (union a b) t (or_lt 64 a b h k) l ∙ ap not (member_or a b t))

module _ (n : ℕ) (bits : List ℕ) (c : Closed n bits) (lane t : ℕ) (l : t < lane_sets) where
  -- the set, and the word that it stands in
  s : ℕ
  s = lane * lane_sets + t

  word : ℕ
  word = get_or bits lane 0

  -- with a state more there is no set: neither in this lane
  no_low : covered_by word t ≡ false → (i : ℕ) → i < lane_states → member s i ≡ false → has bits (s + 2 ^ i) ≡ false
  unfolding s word
  no_low e i h f = refuted (has bits (s + 2 ^ i)) (λ m. clash (covered_intro bits lane t i l h (sym (state_low lane t i l h) ∙ f) m) e)

  -- nor in another
  no_high : larger_has bits lane t ≡ false → (j : ℕ) → j < high_states → member s (lane_states + j) ≡ false → has bits (s + 2 ^ (lane_states + j)) ≡ false
  unfolding s word
  no_high e j h f = refuted (has bits (s + 2 ^ (lane_states + j))) (λ m. clash (larger_intro bits lane t j l h (sym (state_high lane t j l) ∙ f) m) e)

  no_more : covered_by word t ≡ false → larger_has bits lane t ≡ false → (i : ℕ) → i < n → (member s i || not (has bits (s + 2 ^ i))) ≡ true
  no_more e f i h =
      ⊎_elim (λ m. or_left (not (has bits (s + 2 ^ i))) m)
      (λ m. or_right (member s i) (false_not (⊎_elim (λ b. no_low e i (ltb-true i lane_states b) m)
      (λ b. let g : lane_states ≤ i = ltb-false i lane_states b in
      let d : lane_states + (i - lane_states) ≡ i = omega arith in
      let m' : member s (lane_states + (i - lane_states)) ≡ false = subst (λ (x : ℕ). member s x ≡ false) (sym d) m in
      subst (λ (x : ℕ). has bits (s + 2 ^ x) ≡ false) d (no_high f (i - lane_states) (omega (arith, c.states)) m'))
      (decided (ltb i lane_states)))))
      (decided (member s i))

  -- a maximal set has none with a state more
  only : is_maximal n (has bits) s ≡ true → (i : ℕ) → member s i ≡ false → has bits (s + 2 ^ i) ≡ false
  only m i f =
      refuted (has bits (s + 2 ^ i))
      (λ h. let e : s + 2 ^ i ≡ s = is_maximal_only n (has bits) s m (s + 2 ^ i) (c.within (s + 2 ^ i) h) h (subset_add s i f) in omega (arith, pow_pos i))

  not_covered : is_maximal n (has bits) s ≡ true → covered_by word t ≡ false
  unfolding s word
  not_covered m =
      refuted (covered_by word t) (λ e. let w = covered_found bits lane t l e in clash w.3 (only m w.0 (state_low lane t w.0 l w.1 ∙ w.2)))

  not_larger : is_maximal n (has bits) s ≡ true → larger_has bits lane t ≡ false
  unfolding s word
  not_larger m =
      refuted (larger_has bits lane t) (λ e. let w = larger_found bits lane t l e in clash w.3 (only m (lane_states + w.0) (state_high lane t w.0 l ∙ w.2)))

  -- what the code computes of a lane
  pub top_is : (member (get_or bits lane 0) t && not (larger_has bits lane t || covered_by (get_or bits lane 0) t)) ≡ is_maximal n (has bits) (lane * lane_sets + t)
  unfolding s word
  top_is =
      same_truth (member word t && not (larger_has bits lane t || covered_by word t)) (is_maximal n (has bits) s)
      (λ e. let h : has bits s ≡ true = has_at bits lane t l ∙ and_left (member word t) (not (larger_has bits lane t || covered_by word t)) e in
      let f : (larger_has bits lane t || covered_by word t) ≡ false = not-true (larger_has bits lane t || covered_by word t) (and_right (member word t) (not (larger_has bits lane t || covered_by word t)) e) in
      maximal_by_states n (has bits) (λ u v b. c.down u v) s (c.within s h)
      ∙ and_intro h (all_intro n (λ i. member s i || not (has bits (s + 2 ^ i))) (no_more (or_false_right (larger_has bits lane t) (covered_by word t) f) (or_false_left (larger_has bits lane t) (covered_by word t) f))))
      (λ m. and_intro (sym (has_at bits lane t l) ∙ is_maximal_in n (has bits) s m) (false_not (or_false_intro (not_larger m) (not_covered m))))

-- ---- all lanes

-- the word has the maximal sets of the lane
abbrev pub Tops : ℕ → List ℕ → ℕ → ℕ → Type 0
Tops n bits lane word = (t : ℕ) → t < lane_sets → member word t ≡ is_maximal n (has bits) (lane * lane_sets + t)

-- where the lanes from this one up are the family's
pub tops_of : (n : ℕ) (bits found new : List ℕ) (lane : ℕ) → Closed n bits → ((m : ℕ) → lane ≤ m → get_or found m 0 ≡ get_or bits m 0) → Topped found lane new → Tops n bits lane (get_or new lane 0)
tops_of n bits found new lane c same p t l =
    p.tops t l
    ∙ ap₂ (λ (word : ℕ) (larger : Bool). member word t && not (larger || covered_by word t)) (same lane (le_refl lane)) (larger_same found bits lane t (λ m k. same m (omega arith)))
    ∙ top_is n bits c lane t l

-- how a lane is topped: it was emptied, and then has those of its sets that neither word has
pub topped_some : (bits : List ℕ) (lane above covered : ℕ) → lane < length bits → above < 2 ^ 64 → covered < 2 ^ 64
    → ((t : ℕ) → member above t ≡ own_or_larger (set bits lane 0) lane t)
    → ((t : ℕ) → t < lane_sets → member covered t ≡ covered_by (get_or bits lane 0) t)
    → Topped bits lane (set (set bits lane 0) lane (common (get_or bits lane 0) ((2 ^ 64 - 1) - union above covered)))
topped_some bits lane above covered l a b up in_word =
    let word = get_or bits lane 0 in
    let r = common word ((2 ^ 64 - 1) - union above covered) in
    subst (Topped bits lane) (sym (set-set bits lane 0 r))
    (record {
      size = length-set bits lane r;
      tops = λ t k.
          ap (λ (x : ℕ). member x t) (get_or-set_same bits lane r 0 l)
          ∙ neither word above covered a b t k
          ∙ ap₂ (λ (x y : Bool). member word t && not (x || y)) (up t ∙ emptied bits lane t l) (in_word t k);
      kept = λ m d. get_or-set_other bits lane m r 0 d;
    })

module _ (n : ℕ) (bits : List ℕ) (c : Closed n bits) where
  -- a maximal set is one of n states
  beyond : (s : ℕ) → 2 ^ n ≤ s → is_maximal n (has bits) s ≡ false
  beyond s l = refuted (is_maximal n (has bits) s) (λ m. let h : s < 2 ^ n = c.within s (is_maximal_in n (has bits) s m) in omega arith)

  -- the words found, lane by lane, are those of the maximal sets
  pub found_maximal : (found : List ℕ) → length found ≡ length bits → ((m : ℕ) → m < length bits → Tops n bits m (get_or found m 0)) → sets found ≡ maximal n (has bits)
  unfolding sets maximal
  found_maximal found e f =
      let l : 2 ^ n ≤ length found * lane_sets = omega (arith, lanes_room n, c.size, e) in
      select_ext (length found * lane_sets) (has found) (is_maximal n (has bits))
      (λ s h. f (s / lane_sets) (omega (arith, e)) (s % lane_sets) (omega arith) ∙ ap (is_maximal n (has bits)) (by_lane s))
      ∙ select_gap (2 ^ n) (length found * lane_sets) (is_maximal n (has bits)) l (λ i a b. beyond i a)
