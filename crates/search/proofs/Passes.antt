-- Passes over the lanes of a family.
-- Assumes nothing.
use mathlib.Core.Path.{◌≡◌, sym, ap, ap₂, ◌∙◌, subst}
use mathlib.Core.Logic.{◌⊎◌, inl, inr, ⊎_elim}
use mathlib.Core.Bool.{Bool, true, false, not, ◌&&◌}
use mathlib.Core.List.{List, [], ◌∷◌}
use Prim.Native.Nat.{ℕ, zero, suc, suc-le-suc, ◌+◌, ◌-◌, ◌*◌, ◌/◌, ◌%◌, ◌^◌, ◌≤◌, ◌<◌}
use native.Mathlib.Nat.{eq-or-lt_of_le, le_antisymm, le-div_iff_mul-le, div-lt_iff_lt-mul, lt_of_le_of_lt, le_of_suc-le-suc, zero-lt-suc, pow-succ'}
use native.Mathlib.Omega.{arith}
use lib.Dec.{eqb}
use lib.Pow.{pow_pos}
use lib.Bits.{and_le_l}
use lib.Count.{count_leading_zeros, leading_top}
use lib.ListN.{length, get_or, set, length-set}
use lib.Seq.{get_or-set_same, get_or-set_other, ext_get_or}
use Rattle.std.specs.Cmp.Lexicographic.{pointwise}
use Rattle.std.proofs.lemmas.Slice.Eq.{slice_eq-Decides}
use Rattle.std.proofs.lemmas.Bool.Decides.{Decides-eqb}
use borrow.Author.Tests.{eqb-true, eqb-false, not-true}
use Rattle.sets.specs.Mask.{member, common, union, subset}
use Rattle.sets.proofs.Logic.{decided, clash, refuted, same_truth, and_left, and_right, and_intro, or_cases, or_false_left, or_false_right, false_not}
use Rattle.sets.proofs.Bounded.{any_found}
use Rattle.sets.proofs.Mask.{member_zero, member_and, member_or, member_below, member_rest, ext, subset_parts, subset_refl, subset_le, subset_add, common_lt, member_sub_other}
use Rattle.families.specs.Bits.{lane_sets, high_states, has, has_with, larger_has, Bits}
use Rattle.families.proofs.Lanes.{has_at, by_lane, lane_there}
use Rattle.games.specs.Game.{Game}
use Rattle.games.specs.Step.{step}
use Rattle.games.proofs.Steps.{step_mono}
use Rattle.search.specs.Stages.{Stage, Meets, Sound, Passed}

-- ---- a set by its lane and its place there

lane_of : (lane t : ℕ) → t < lane_sets → (lane * lane_sets + t) / lane_sets ≡ lane
lane_of lane t l = omega arith

place_of_lem : (lane t : ℕ) → t < lane_sets → (lane * lane_sets + t) % lane_sets ≡ t
place_of_lem lane t l = omega arith

lane_subset : (lane t h : ℕ) → t < lane_sets → h < lane_sets → subset t h ≡ true → subset (lane * lane_sets + t) (lane * lane_sets + h) ≡ true
lane_subset lane t h l m i =
    subset_parts 6 (lane * lane_sets + t) (lane * lane_sets + h)
    ∙ and_intro
    (ap₂ subset (lane_of lane t l) (lane_of lane h m) ∙ subset_refl lane)
    (ap₂ subset (place_of_lem lane t l) (place_of_lem lane h m) ∙ i)

-- ---- the highest set of a word

-- what `63 - leading_zeros` names
pub record Highest (word h : ℕ) : Type 0 where
  pub small : h < lane_sets
  pub here : member word h ≡ true

top_bit : (a j : ℕ) → 2 ^ j ≤ a → a < 2 ^ suc j → a / 2 ^ j ≡ 1
top_bit a j l h =
    le_antisymm
    (le_of_suc-le-suc ((div-lt_iff_lt-mul (pow_pos j)).1 (subst (λ (x : ℕ). a < x) (pow-succ' 2 j) h)))
    ((le-div_iff_mul-le (pow_pos j)).1 (omega arith))

pub highest : (word : ℕ) → word < 2 ^ 64 → (word ≡ 0 → ⊥) → Highest word (63 - count_leading_zeros 64 word)
highest word l some =
    let w = leading_top 64 word (omega (arith, some)) l in
    let j = w.0 in
    let e : 63 - count_leading_zeros 64 word ≡ j = omega (arith, w.1) in
    record {
      small = omega (arith, w.1);
      here = ap (member word) e ∙ ap (λ (x : ℕ). eqb (x % 2) 1) (top_bit word j w.2 w.3);
    }

-- ---- one lane

same_or : (a b : ℕ) → (a ≡ b) ⊎ (a ≡ b → ⊥)
same_or a b = ⊎_elim (λ e. inl (eqb-true a b e)) (λ e. inr (eqb-false a b e)) (decided (eqb a b))

-- the sets found so far, and those left to try
pub record Trying (g : Game) (bits : List ℕ) (lane found left : ℕ) : Type 0 where
  pub sound : Sound g (has bits) lane found
  pub narrow : left < 2 ^ 64
  pub of_family : (t : ℕ) → member left t ≡ true → member (get_or bits lane 0) t ≡ true
  pub fails : (t : ℕ) → t < lane_sets → member (get_or bits lane 0) t ≡ true → member found t ≡ false → member left t ≡ false → step g (has bits) (lane * lane_sets + t) ≡ false

-- a word without the sets of another
without : (x y t : ℕ) → y < 2 ^ 64 → t < lane_sets → member (common x ((2 ^ 64 - 1) - y)) t ≡ (member x t && not (member y t))
without x y t l m = member_and x ((2 ^ 64 - 1) - y) t ∙ ap (λ (b : Bool). member x t && b) (member_rest 64 y t l m)

module _ (g : Game) (bits : List ℕ) (S : Stage g bits) (lane : ℕ) where
  pub trying_none : (covered : ℕ) → covered < 2 ^ 64 → Sound g (has bits) lane covered → Trying g bits lane covered (common (get_or bits lane 0) ((2 ^ 64 - 1) - covered))
  trying_none covered l h =
      let word = get_or bits lane 0 in
      record {
        sound = h;
        narrow = common_lt 64 word ((2 ^ 64 - 1) - covered) (omega arith);
        of_family = λ t m. and_left (member word t) (member ((2 ^ 64 - 1) - covered) t) (sym (member_and word ((2 ^ 64 - 1) - covered) t) ∙ m);
        fails = λ t b m f e. clash (without word covered t l b ∙ and_intro m (false_not f)) e;
      }

  module _ (found left : ℕ) (w : Trying g bits lane found left) (h : ℕ) (top : Highest left h) where
    pub top_below : lane * lane_sets + h < 2 ^ g.states
    top_below = S.within (lane * lane_sets + h) (has_at bits lane h top.small ∙ w.of_family h top.here)

    -- a set that meets the step settles its subsets
    module _ (below : ℕ) (b : below < 2 ^ 64) (is : (t : ℕ) → t < lane_sets → member below t ≡ subset t h) where
      pub hit_less : common left ((2 ^ 64 - 1) - below) < left
      hit_less =
          let rest = common left ((2 ^ 64 - 1) - below) in
          let gone : member rest h ≡ false = without left below h b top.small ∙ ap (λ (x : Bool). member left h && not x) (is h top.small ∙ subset_refl h) ∙ ap (λ (x : Bool). x && false) top.here in
          ⊎_elim (λ e. absurd (clash top.here (ap (λ (x : ℕ). member x h) (sym e) ∙ gone))) (λ l. l) (eq-or-lt_of_le (and_le_l left ((2 ^ 64 - 1) - below)))

      pub trying_hit : true ≡ step g (has bits) (lane * lane_sets + h) → Trying g bits lane (union found below) (common left ((2 ^ 64 - 1) - below))
      trying_hit y =
          record {
            sound = λ t m. ⊎_elim (w.sound t) (λ n.
                let l : t < lane_sets = member_below 64 below t b n in
                let i = lane_subset lane t h l top.small (sym (is t l) ∙ n) in
                (lt_of_le_of_lt (subset_le (lane * lane_sets + t) (lane * lane_sets + h) i) top_below, step_mono g (has bits) (has bits) (λ s u j p. S.down s u p j) (lane * lane_sets + h) (lane * lane_sets + t) i (sym y)))
                (or_cases (member found t) (member below t) (sym (member_or found below t) ∙ m));
            narrow = lt_of_le_of_lt (and_le_l left ((2 ^ 64 - 1) - below)) w.narrow;
            of_family = λ t m. w.of_family t (and_left (member left t) (member ((2 ^ 64 - 1) - below) t) (sym (member_and left ((2 ^ 64 - 1) - below) t) ∙ m));
            fails = λ t l m f e.
                let out = sym (member_or found below t) ∙ f in
                let none : member below t ≡ false = or_false_right (member found t) (member below t) out in
                w.fails t l m (or_false_left (member found t) (member below t) out)
                (refuted (member left t) (λ n. clash (without left below t b l ∙ and_intro n (false_not none)) e));
          }

    pub trying_miss : false ≡ step g (has bits) (lane * lane_sets + h) → Trying g bits lane found (left - 2 ^ h)
    trying_miss f₀ =
        record {
          sound = w.sound;
          narrow = omega (arith, w.narrow);
          of_family = λ t m. w.of_family t (⊎_elim (λ e. ap (member left) e ∙ top.here) (λ n. sym (member_sub_other left h top.here t n) ∙ m) (same_or t h));
          fails = λ t l m f e. ⊎_elim (λ q. ap (λ (x : ℕ). step g (has bits) (lane * lane_sets + x)) q ∙ sym f₀) (λ n. w.fails t l m f (sym (member_sub_other left h top.here t n) ∙ e)) (same_or t h);
        }

-- ---- the lanes, from the highest down

-- the lanes from `lane` on are done
pub record Passing (g : Game) (bits : List ℕ) (lane : ℕ) (next : List ℕ) : Type 0 where
  pub size : length next ≡ length bits
  pub done : (m : ℕ) → lane ≤ m → m < length bits → Passed g (has bits) m (get_or next m 0)

-- a lane that has a set is there
lane_listed : (d : List ℕ) (m t : ℕ) → member (get_or d m 0) t ≡ true → m < length d
lane_listed [] m t h = clash h (member_zero t)
lane_listed (x ∷ d) zero t h = zero-lt-suc (length d)
lane_listed (x ∷ d) (suc m) t h = suc-le-suc (lane_listed d m t h)

grown_subset : (lane i t : ℕ) → member lane i ≡ false → t < lane_sets → subset (lane * lane_sets + t) ((lane + 2 ^ i) * lane_sets + t) ≡ true
grown_subset lane i t h l =
    subset_parts 6 (lane * lane_sets + t) ((lane + 2 ^ i) * lane_sets + t)
    ∙ and_intro
    (ap₂ subset (lane_of lane t l) (lane_of (lane + 2 ^ i) t l) ∙ subset_add lane i h)
    (ap₂ subset (place_of_lem lane t l) (place_of_lem (lane + 2 ^ i) t l) ∙ subset_refl t)

module _ (g : Game) (bits : List ℕ) (S : Stage g bits) (next : List ℕ) where
  -- what larger lanes have meets the step in this one
  pub covered_sound : (above lane : ℕ) → above ≡ lane + 1 → Passing g bits above next → (covered : ℕ) → covered < 2 ^ 64 → ((t : ℕ) → t < lane_sets → member covered t ≡ larger_has next lane t) → Sound g (has bits) lane covered
  covered_sound above lane is-next w covered b is t m =
      let l : t < lane_sets = member_below 64 covered t b m in
      let f = any_found high_states (λ i. has_with next lane i t) (sym (is t l) ∙ m) in
      let i = f.0 in
      let lacks : member lane i ≡ false = not-true (member lane i) (and_left (not (member lane i)) (member (get_or next (lane + 2 ^ i) 0) t) f.2) in
      let has-it = and_right (not (member lane i)) (member (get_or next (lane + 2 ^ i) 0) t) f.2 in
      let there : lane + 2 ^ i < length next = lane_listed next (lane + 2 ^ i) t has-it in
      let p = (w.done (lane + 2 ^ i) (omega (arith, pow_pos i)) (omega (arith, w.size))).sound t has-it in
      let sub = grown_subset lane i t lacks l in
      (lt_of_le_of_lt (subset_le (lane * lane_sets + t) ((lane + 2 ^ i) * lane_sets + t) sub) p.0, step_mono g (has bits) (has bits) (λ s u j q. S.down s u q j) ((lane + 2 ^ i) * lane_sets + t) (lane * lane_sets + t) sub p.1)

  pub passing_more : (above lane : ℕ) → above ≡ lane + 1 → Passing g bits above next → lane < length bits → (r : ℕ) → Passed g (has bits) lane r → Passing g bits lane (set next lane r)
  passing_more above lane is-next w l r p =
      record {
        size = length-set next lane r ∙ w.size;
        done = λ m a b.
            ⊎_elim
            (λ e. subst (λ (k : ℕ). Passed g (has bits) k (get_or (set next lane r) k 0)) e (subst (Passed g (has bits) lane) (sym (get_or-set_same next lane r 0 (omega (arith, w.size)))) p))
            (λ k. subst (Passed g (has bits) m) (sym (get_or-set_other next lane m r 0 (λ q. absurd (omega (arith, q))))) (w.done m (omega arith) b))
            (eq-or-lt_of_le a);
      }

  pub passing_end : Passing g bits 0 next → Bits g.states (step g (has bits)) next
  passing_end w =
      record {
        size = w.size ∙ S.size;
        at = λ s l.
            same_truth (has next s) (step g (has bits) s)
            (λ h. (inside s h).1)
            (λ h. (w.done (s / lane_sets) (omega arith) (subst (λ (k : ℕ). s / lane_sets < k) (sym S.size) (lane_there g.states s l))).complete (s % lane_sets) (omega arith) (subst (λ (x : ℕ). Meets g (has bits) x) (sym (by_lane s)) (l, h)));
        within = λ s h. (inside s h).0;
      }
    where
      inside : (s : ℕ) → has next s ≡ true → Meets g (has bits) s
      inside s h = subst (λ (x : ℕ). Meets g (has bits) x) (by_lane s) ((w.done (s / lane_sets) (omega arith) (subst (λ (k : ℕ). s / lane_sets < k) w.size (lane_listed next (s / lane_sets) (s % lane_sets) h))).sound (s % lane_sets) h)

-- ---- comparing

-- where two families have the same sets, their words are the same
words_same : (d e : List ℕ) (i : ℕ) → get_or d i 0 < 2 ^ 64 → get_or e i 0 < 2 ^ 64 → ((s : ℕ) → has d s ≡ has e s) → get_or d i 0 ≡ get_or e i 0
words_same d e i k l h = ext 64 (get_or d i 0) (get_or e i 0) k l (λ t m. sym (has_at d i t m) ∙ h (i * lane_sets + t) ∙ has_at e i t m)

-- so `==` of their words tells whether they are the same family
module _ (d e : List ℕ) (r : Bool) (is : r ≡ pointwise eqb d e) where
  pub same_true : r ≡ true → d ≡ e
  same_true = (slice_eq-Decides Decides-eqb d e r is).0

  pub same_false : length d ≡ length e → ((j : ℕ) → get_or d j 0 < 2 ^ 64) → ((j : ℕ) → get_or e j 0 < 2 ^ 64) → r ≡ false → ((s : ℕ) → has d s ≡ has e s) → ⊥
  same_false long u v f h = clash ((slice_eq-Decides Decides-eqb d e r is).1 (ext_get_or 0 d e long (λ j l. words_same d e j (u j) (v j) h))) f
