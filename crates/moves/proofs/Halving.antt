-- Laws of the half tables.
-- Assumes nothing.
use mathlib.Core.Path.{◌≡◌, refl, sym, ap, ap₂, ◌∙◌, subst}
use mathlib.Core.Logic.{◌⊎◌, inl, inr, ⊎_elim}
use mathlib.Core.Bool.{Bool, true, false, cond, ◌||◌}
use mathlib.Core.List.{List, ◌++◌}
use Prim.Native.Nat.{ℕ, zero, suc, ◌+◌, ◌-◌, ◌*◌, ◌/◌, ◌%◌, ◌^◌, ◌≤◌, ◌<◌, min}
use native.Mathlib.Nat.{mod-le, le_refl, le_step, le_trans, pow-suc, add-sub_cancel_left}
use native.Mathlib.Numerals.{add-one}
use native.Mathlib.Omega.{arith}
use lib.Dec.{eqb, ltb}
use lib.ListN.{length, get_or, take, set, length-set, get_or-append}
use lib.Pow.{pow_mono, shr-shr, field, mod-mod-pow, shr_lt}
use lib.Seq.{get_or-set_same, length-take-le, get_or-take, get_or-append-add}
use borrow.Rule.Slice.PartMut.{put_mid, post_of, same_len_mid, mid_len}
use borrow.Author.Count.{below_more}
use borrow.Author.Tests.{ltb-true, ltb-false, lt-ltb, le-ltb}
use Rattle.sets.specs.Mask.{member, union, union_over}
use Rattle.sets.proofs.Logic.{decided, same_truth, or_left, or_right, or_cases}
use Rattle.sets.proofs.Mask.{member_beyond, member_or, member_single, single_le, member_add_same, member_add_other, ext_all, union_over_zero, union_over_hit, union_over_skip, union_over_found, union_over_intro, union_over_ext, union_over_lt}
use Rattle.games.specs.Format.{max_states, max_actions}
use Rattle.games.specs.Game.{Game, Accepted, enabled}
use Rattle.games.specs.Step.{enabled_at, post}
use Rattle.games.proofs.Steps.{enabled_at_is, enabled_fails}
use Rattle.games.specs.Words.{game}
use Rattle.tables.specs.Check.{checked}
use Rattle.tables.proofs.Checks.{sized}
use Rattle.tables.proofs.Bounds.{few_states}
use Rattle.std.specs.Prelude.{Option, Some, None, unwrap_or}
use Rattle.std.specs.Bool.{then_some}
use Rattle.walk.proofs.Moves.{moved_enabled, moved_blocked}
use Rattle.moves.specs.Halves.{posted, half_states, half_sets, blocked_mark, mark, Doubled, Halved, Sided, Tabled}
use Rattle.std.specs.Prelude.{Ok}

-- the union sees only the members below the bound
members_same : (n s t : ℕ) (f : ℕ → ℕ) → ((i : ℕ) → i < n → member s i ≡ member t i) → union_over n s f ≡ union_over n t f
unfolding union_over
members_same zero s t f h = refl
members_same (suc n) s t f h =
    ap₂ union (members_same n s t f (λ i l. h i (le_step l))) (ap (λ (b : Bool). cond b (f n) 0) (h n (le_refl (suc n))))

-- ---- doubling

pub record Doubling (size w x : ℕ) (d e : List ℕ) : Type 0 where
  pub within : x ≤ size
  pub same : length e ≡ length d
  pub front : (y : ℕ) → y < size → get_or e y 0 ≡ get_or d y 0
  pub behind : (y : ℕ) → y < x → get_or e (size + y) 0 ≡ union (get_or d y 0) w

-- ---- one half: after i states their sets are known; state i leads to F i

pub record Halving (F : ℕ → ℕ) (count i size : ℕ) (half : List ℕ) : Type 0 where
  pub within : i ≤ count
  pub power : size ≡ 2 ^ i
  pub length_is : length half ≡ half_sets
  pub at : (h : ℕ) → h < size → get_or half h 0 ≡ union_over i h F

module _ (F : ℕ → ℕ) (count : ℕ) where
  pub halving_none : (d : List ℕ) → length d ≡ half_sets → Halving F count 0 1 (set d 0 0)
  halving_none d r =
      record {
        within = omega arith;
        power = refl;
        length_is = length-set d 0 0 ∙ r;
        at = λ h l. at_zero h (omega arith);
      }
    where
      at_zero : (h : ℕ) → h ≡ 0 → get_or (set d 0 0) h 0 ≡ union_over 0 h F
      at_zero h e = ap (λ (x : ℕ). get_or (set d 0 0) x 0) e ∙ get_or-set_same d 0 0 0 (omega arith) ∙ sym (union_over_zero h F)

  module _ (i : ℕ) where
    -- a set without state i, and the same set with it
    old_set : (h : ℕ) → h < 2 ^ i → union_over (i + 1) h F ≡ union_over i h F
    old_set h l = union_over_skip i h F (member_beyond i h i l (le_refl i))

    new_set : (x : ℕ) → x < 2 ^ i → union_over (i + 1) (x + 2 ^ i) F ≡ union (union_over i x F) (F i)
    new_set x l =
        let out = member_beyond i x i l (le_refl i) in
        union_over_hit i (x + 2 ^ i) F (member_add_same x i out)
        ∙ ap (λ (u : ℕ). union u (F i)) (members_same i (x + 2 ^ i) x F (λ j b. member_add_other x i out j (λ e. omega arith)))

    pub halving_more : (size w : ℕ) (d e : List ℕ) → i < count → w ≡ F i → Halving F count i size d → Doubled size w d e → Halving F count (i + 1) (size + size) e
    halving_more size w d e l is k b =
        record {
          within = omega arith;
          power = double_power;
          length_is = b.same ∙ k.length_is;
          at = λ h m. ⊎_elim (λ f. low h (ltb-true h size f)) (λ f. high h m (ltb-false h size f)) (decided (ltb h size));
        }
      where
        double_power : size + size ≡ 2 ^ (i + 1)
        double_power = omega (arith, k.power, ap (λ (n : ℕ). 2 ^ n) (add-one i) ∙ pow-suc 2 i)

        low : (h : ℕ) → h < size → get_or e h 0 ≡ union_over (i + 1) h F
        low h f = b.front h f ∙ k.at h f ∙ sym (old_set h (subst (λ (n : ℕ). h < n) k.power f))

        high : (h : ℕ) → h < size + size → size ≤ h → get_or e h 0 ≡ union_over (i + 1) h F
        high h m f =
            let x = h - size in
            let small : x < size = omega arith in
            ap (λ (y : ℕ). get_or e y 0) (sym_sum h f)
            ∙ b.behind x small
            ∙ ap₂ union (k.at x small) is
            ∙ sym (new_set x (subst (λ (n : ℕ). x < n) k.power small))
            ∙ ap (λ (y : ℕ). union_over (i + 1) y F) (sum_is h f)
          where
            sym_sum : (h : ℕ) → size ≤ h → h ≡ size + (h - size)
            sym_sum h f = omega arith

            sum_is : (h : ℕ) → size ≤ h → h - size + 2 ^ i ≡ h
            sum_is h f = omega (arith, k.power)

  module _ (i size : ℕ) (half : List ℕ) (k : Halving F count i size half) where
    -- the doubled part fits
    pub halving_room : i < count → count ≤ half_states → size + size ≤ length half
    halving_room l b =
        let m = pow_mono {i = suc i} {j = half_states} (le_trans l b) in
        omega (arith, k.length_is, k.power, pow-suc 2 i)

-- ---- a set by its two halves

low_member : (s i : ℕ) → i < half_states → member (s % half_sets) i ≡ member s i
low_member s i l =
    ap (λ (x : ℕ). eqb x 1)
    (ap (λ (m : ℕ). s % 2 ^ m / 2 ^ i % 2) rest
    ∙ ap (λ (x : ℕ). x % 2) (field s (half_states - i) i)
    ∙ ap (λ (m : ℕ). s / 2 ^ i % 2 ^ m % 2) one
    ∙ mod-mod-pow (s / 2 ^ i) (half_states - 1 - i) 1)
  where
    rest : half_states ≡ half_states - i + i
    rest = omega arith

    one : half_states - i ≡ half_states - 1 - i + 1
    one = omega arith

high_member : (s i : ℕ) → member (s / half_sets) i ≡ member s (half_states + i)
high_member s i = ap (λ (x : ℕ). eqb (x % 2) 1) (shr-shr s half_states i)

-- k states in the low half, the others in the high one
module _ (n k s : ℕ) (F : ℕ → ℕ) (within : k ≤ n) (few : k ≤ half_states) (split : (k ≡ n) ⊎ (k ≡ half_states)) where
  high_half : (i : ℕ) → i < n → k ≤ i → k ≡ half_states
  high_half i l b = ⊎_elim (λ e. absurd (omega arith)) (λ e. e) split

  to_halves : (j : ℕ) → member (union_over n s F) j ≡ true → (member (union_over k (s % half_sets) F) j || member (union_over (n - k) (s / half_sets) (λ i. F (k + i))) j) ≡ true
  to_halves j h =
      let w = union_over_found n s F j h in
      let i = w.0 in
      ⊎_elim
      (λ f.
      let b = ltb-true i k f in
      or_left (member (union_over (n - k) (s / half_sets) (λ i. F (k + i))) j)
      (union_over_intro k (s % half_sets) F j i b (low_member s i (omega arith) ∙ w.2) w.3))
      (λ f.
      let b = ltb-false i k f in
      let six = high_half i w.1 b in
      let back : half_states + (i - k) ≡ i = omega arith in
      let again : k + (i - k) ≡ i = omega arith in
      or_right (member (union_over k (s % half_sets) F) j)
      (union_over_intro (n - k) (s / half_sets) (λ i. F (k + i)) j (i - k) (omega (arith, w.1))
      (high_member s (i - k) ∙ ap (member s) back ∙ w.2) (ap (λ (x : ℕ). member (F x) j) again ∙ w.3)))
      (decided (ltb i k))

  from_halves : (j : ℕ) → (member (union_over k (s % half_sets) F) j || member (union_over (n - k) (s / half_sets) (λ i. F (k + i))) j) ≡ true → member (union_over n s F) j ≡ true
  from_halves j h =
      ⊎_elim
      (λ f.
      let w = union_over_found k (s % half_sets) F j f in
      union_over_intro n s F j w.0 (omega (arith, w.1)) (sym (low_member s w.0 (omega (arith, w.1))) ∙ w.2) w.3)
      (λ f.
      let w = union_over_found (n - k) (s / half_sets) (λ i. F (k + i)) j f in
      let b : k + w.0 < n = omega (arith, w.1) in
      let six = high_half (k + w.0) b (omega arith) in
      union_over_intro n s F j (k + w.0) b (ap (λ (x : ℕ). member s (x + w.0)) six ∙ sym (high_member s w.0) ∙ w.2) w.3)
      (or_cases (member (union_over k (s % half_sets) F) j) (member (union_over (n - k) (s / half_sets) (λ i. F (k + i))) j) h)

  pub halves : union (union_over k (s % half_sets) F) (union_over (n - k) (s / half_sets) (λ i. F (k + i))) ≡ union_over n s F
  halves =
      ext_all (union (union_over k (s % half_sets) F) (union_over (n - k) (s / half_sets) (λ i. F (k + i)))) (union_over n s F)
      (λ j.
      member_or (union_over k (s % half_sets) F) (union_over (n - k) (s / half_sets) (λ i. F (k + i))) j
      ∙ same_truth (member (union_over k (s % half_sets) F) j || member (union_over (n - k) (s / half_sets) (λ i. F (k + i))) j) (member (union_over n s F) j) (from_halves j) (to_halves j))

-- ---- what the marks tell

-- the successors where the action is enabled, else the mark
enabled_mark : (g : Game) (a i : ℕ) → enabled g i a ≡ true → mark g a i ≡ g.successors a i
unfolding mark
enabled_mark g a i h = ap (λ (o : Option ℕ). unwrap_or o blocked_mark) (moved_enabled g a i h)

blocked_mark_lem : (g : Game) (a i : ℕ) → enabled g i a ≡ false → mark g a i ≡ blocked_mark
unfolding mark
blocked_mark_lem g a i h = ap (λ (o : Option ℕ). unwrap_or o blocked_mark) (moved_blocked g a i h)

module _ (g : Game) (A : Accepted g) (few : g.states ≤ max_states) (s a : ℕ) (b : a < g.actions) where
  unmarked : enabled_at g s a ≡ true → union_over g.states s (mark g a) ≡ post g s a
  unfolding post
  unmarked h =
      union_over_ext g.states s (mark g a) (g.successors a) (λ i l m. enabled_mark g a i (enabled_at_is g s a h i l m))

  post_small : post g s a < blocked_mark
  unfolding post
  post_small =
      let p = union_over_lt g.states s (g.successors a) g.states (λ i l. A.successors_below a i b l) in
      let q = pow_mono {i = g.states} {j = 16} (omega arith) in
      omega arith

  mark_shows : enabled_at g s a ≡ false → blocked_mark ≤ union_over g.states s (mark g a)
  mark_shows h =
      let w = enabled_fails g s a h in
      single_le (union_over g.states s (mark g a)) 16
      (union_over_intro g.states s (mark g a) 16 w.0 w.1 w.2
      (ap (λ (x : ℕ). member x 16) (blocked_mark_lem g a w.0 w.3) ∙ member_single 16))

  pub posted_is : (u : ℕ) → u ≡ union_over g.states s (mark g a) → then_some (ltb u blocked_mark) u ≡ posted g s a
  unfolding posted
  posted_is u e =
      ⊎_elim (λ h. let m = unmarked h in let p = post_small in
      rw (lt-ltb u blocked_mark (omega arith)) (ap Some (e ∙ m) ∙ sym (ap (λ (c : Bool). cond c (Some (post g s a)) None) h)))
      (λ h. let m = mark_shows h in
      rw (le-ltb u blocked_mark (omega arith)) (sym (ap (λ (c : Bool). cond c (Some (post g s a)) None) h)))
      (decided (enabled_at g s a))

-- ---- filling a side, one action behind the other

-- a part that was written is read at its place, and what lies before it as it was
put_before : (a k p : ℕ) (xs ys : List ℕ) → p < a → a ≤ length xs → get_or (put_mid a k xs ys) p 0 ≡ get_or xs p 0
put_before a k p xs ys l b =
    get_or-append (take a xs) (ys ++ post_of a k xs) 0 p (omega (arith, length-take-le a xs b)) ∙ get_or-take a xs p 0 l

put_inside : (a k h : ℕ) (xs ys : List ℕ) → h < length ys → a ≤ length xs → get_or (put_mid a k xs ys) (a + h) 0 ≡ get_or ys h 0
put_inside a k h xs ys l b =
    ap (λ (n : ℕ). get_or (put_mid a k xs ys) (n + h) 0) (sym (length-take-le a xs b))
    ∙ get_or-append-add (take a xs) (ys ++ post_of a k xs) h 0
    ∙ get_or-append ys (post_of a k xs) 0 h l

module _ (g : Game) (first count : ℕ) where
  pub sided_more : (a : ℕ) (side e : List ℕ) → a < max_actions → count ≤ half_states → Sided g first count a side → Halved g a first count e → Sided g first count (a + 1) (put_mid (a * half_sets) (a * half_sets + half_sets - a * half_sets) side e)
  sided_more a side e l few w h =
      let at = a * half_sets in
      let inside : at + half_sets ≤ length side = omega (arith, w.size) in
      record {
        size = same_len_mid at (at + half_sets - at) side e (h.size ∙ sym (mid_len at (at + half_sets) side inside ∙ add-sub_cancel_left at half_sets)) ∙ w.size;
        at = λ c x d y. below_more (λ b. (x : ℕ) → x < 2 ^ count → get_or (put_mid at (at + half_sets - at) side e) (b * half_sets + x) 0 ≡ union_over count x (λ i. mark g b (first + i))) a
            (λ b c x y. put_before at (at + half_sets - at) (b * half_sets + x) side e (before b x c (small x y)) (omega (arith, w.size)) ∙ w.at b x c y)
            (λ x y. put_inside at (at + half_sets - at) x side e (omega (arith, h.size, small x y)) (omega (arith, w.size)) ∙ h.at x y)
            c d x y;
      }
    where
      small : (x : ℕ) → x < 2 ^ count → x < half_sets
      small x y = let p = pow_mono {i = count} {j = half_states} few in omega arith

      before : (b x : ℕ) → b < a → x < half_sets → b * half_sets + x < a * half_sets
      before b x c y = omega arith

pub high_small : (w : List ℕ) → checked w ≡ Ok tt → (s : ℕ) → s < 2 ^ (game w).states → s / half_sets < half_sets
high_small w h s l =
    let p = pow_mono {i = (game w).states} {j = max_states} (few_states w (sized w h)) in
    omega arith

-- both sides together
pub sides_tabled : (g : Game) (k : ℕ) (low high : List ℕ) → g.states ≤ max_states → k ≡ min g.states half_states → Sided g 0 k g.actions low → Sided g k (g.states - k) g.actions high → Tabled g low high
sides_tabled g k low high few is l h =
    record {
      low_size = l.size;
      high_size = h.size;
      at = λ a s b c.
          ap₂ union
          (l.at a (s % half_sets) b (low_below s c) ∙ union_over_ext k (s % half_sets) (λ i. mark g a (0 + i)) (mark g a) (λ i x m. ap (mark g a) (omega arith)))
          (h.at a (s / half_sets) b (high_below s c))
          ∙ halves g.states k s (mark g a) (omega arith) (omega arith) (which g.states k is);
    }
  where
    which : (n k : ℕ) → k ≡ min n half_states → (k ≡ n) ⊎ (k ≡ half_states)
    which n k e = ⊎_elim (λ f. inl (let b = ltb-true n half_states f in omega arith)) (λ f. inr (let b = ltb-false n half_states f in omega arith)) (decided (ltb n half_states))

    low_below : (s : ℕ) → s < 2 ^ g.states → s % half_sets < 2 ^ k
    low_below s c =
        ⊎_elim
        (λ e. let m = mod-le s half_sets in subst (λ (n : ℕ). s % half_sets < 2 ^ n) (sym e) (omega arith))
        (λ e. subst (λ (n : ℕ). s % half_sets < 2 ^ n) (sym e) (omega arith))
        (which g.states k is)

    high_below : (s : ℕ) → s < 2 ^ g.states → s / half_sets < 2 ^ (g.states - k)
    high_below s c =
        ⊎_elim
        (λ e.
        let z : g.states - k ≡ 0 = omega arith in
        let p = pow_mono {i = g.states} {j = half_states} (omega arith) in
        subst (λ (n : ℕ). s / half_sets < 2 ^ n) (sym z) (omega arith))
        (λ e.
        let z : g.states ≡ g.states - k + half_states = omega arith in
        shr_lt (g.states - k) half_states (subst (λ (n : ℕ). s < 2 ^ n) z c))
        (which g.states k is)
