-- Laws of the search in one layer: of its lanes those from the lowest are left, and what is in another is not in the layer.
-- Assumes nothing.
use mathlib.Core.Path.{◌≡◌, sym, ap, ap₂, ◌∙◌, subst}
use mathlib.Core.Logic.{⊎_elim}
use mathlib.Core.Bool.{Bool, true, ◌&&◌, and_assoc}
use mathlib.Core.List.{List}
use Prim.Native.Nat.{ℕ, ◌+◌, ◌-◌, ◌*◌, ◌/◌, ◌%◌, ◌^◌, ◌≤◌, ◌<◌}
use native.Mathlib.Omega.{arith}
use lib.Count.{ones, count_trailing_zeros}
use lib.Dec.{eqb, ltb}
use lib.ListN.{length, get_or}
use lib.Pow.{high, low}
use borrow.Author.Tests.{eqb-true, eqb-false, eq-eqb, ne_eqb, ltb-true, ltb-false}
use Rattle.sets.specs.Mask.{member, common}
use Rattle.sets.specs.Bounded.{nothing, found, count}
use Rattle.sets.proofs.Logic.{decided, clash, refuted, and_left}
use Rattle.sets.proofs.Bounded.{first_is, first_none, count_le}
use Rattle.sets.proofs.Mask.{common_lt, common_lt_left, member_zero, member_and, lowest, member_sub_other, sub_less}
use Rattle.families.specs.Bits.{lane_states, lane_sets, has}
use Rattle.families.proofs.Lanes.{has_at, by_lane, shift_one}
use Rattle.families.proofs.Words.{taken_lt, taken_le, taken_less}
use Rattle.index.specs.Index.{mask_count, Masks, Fits, is_in, lowest_in}
use Rattle.games.specs.Automaton.{state_count}
use Rattle.index.proofs.Sizes.{low_ones, lane_states_lem}
use Rattle.index.proofs.Marking.{mask_size}

pub record Looking (tops : List ℕ) (lanes above k rest : ℕ) : Type 0 where
  pub small : rest < 2 ^ lane_sets
  pub of : (x : ℕ) → member rest x ≡ true → member lanes x ≡ true
  pub left : (s : ℕ) → is_in tops lanes above k s ≡ true → member rest (s / lane_sets) ≡ true

-- a set by lane and place
place_of_sum : (x u : ℕ) → u < lane_sets → ((x * lane_sets + u) / lane_sets ≡ x) × ((x * lane_sets + u) % lane_sets ≡ u)
place_of_sum x u l = (high x lane_states l, low x lane_states l)

module _ (tops : List ℕ) (lanes above k : ℕ) where
  pub looking_all : lanes < 2 ^ lane_sets → Looking tops lanes above k lanes
  looking_all b =
      record {
        small = b;
        of = λ x m. m;
        left = λ s e. and_left (member lanes (s / lane_sets)) (has tops s && (member above (s % lane_sets) && eqb (state_count s) k)) e;
      }

  module _ (rest : ℕ) (w : Looking tops lanes above k rest) (z : rest ≡ 0 → ⊥) (f : Fits tops lanes k) where
    -- the lowest lane left
    abbrev x : ℕ
    x = count_trailing_zeros lane_sets rest

    pub lane_in : member lanes x ≡ true
    lane_in = w.of x (lowest lane_sets rest w.small z).1

    lane_lt : x < lane_sets
    lane_lt = taken_lt rest w.small z

    pub lane_here : x < length tops
    lane_here = f.here x lane_in

    -- the mask of its sets of k states
    pub lane_least : ones x ≤ k
    lane_least = omega (arith, low_ones x lane_lt, f.least x lane_in)

    pub mask_there : lane_sets + k - ones x < mask_count
    mask_there = omega (arith, low_ones x lane_lt, f.most x lane_in, lane_least)

    pub size_small : k < lane_sets
    size_small = omega (arith, f.most x lane_in, count_le lane_states (member x))

    module _ (masks : List ℕ) (m : Masks masks) where
      abbrev hit : ℕ
      hit = common (common (get_or tops x 0) above) (get_or masks (lane_sets + k - ones x) 0)

      sized_same : (u : ℕ) → u < lane_sets → eqb (count lane_states (member u)) (lane_sets + k - ones x - lane_sets) ≡ eqb (state_count (x * lane_sets + u)) k
      sized_same u l =
          let p = place_of_sum x u l in
          let e : state_count (x * lane_sets + u) ≡ ones x + count lane_states (member u) =
          lane_states_lem (x * lane_sets + u) (omega (arith, lane_here, f.few)) ∙ ap₂ (λ (a b : ℕ). count lane_states (member a) + count lane_states (member b)) p.0 p.1
          ∙ ap (λ (n : ℕ). n + count lane_states (member u)) (sym (low_ones x lane_lt)) in
          ⊎_elim (λ h. h ∙ sym (eq-eqb (state_count (x * lane_sets + u)) k (omega (arith, e, lane_least, eqb-true (count lane_states (member u)) (lane_sets + k - ones x - lane_sets) h))))
          (λ h. h ∙ sym (ne_eqb (state_count (x * lane_sets + u)) k (λ q. eqb-false (count lane_states (member u)) (lane_sets + k - ones x - lane_sets) h (omega (arith, e, q, lane_least)))))
          (decided (eqb (count lane_states (member u)) (lane_sets + k - ones x - lane_sets)))

      -- it has the sets of the lane that are in the layer
      pub hit_is : (u : ℕ) → u < lane_sets → member hit u ≡ is_in tops lanes above k (x * lane_sets + u)
      hit_is u l =
          let p = place_of_sum x u l in
          let s = x * lane_sets + u in
          member_and (common (get_or tops x 0) above) (get_or masks (lane_sets + k - ones x) 0) u
          ∙ ap₂ ◌&&◌ (member_and (get_or tops x 0) above u)
          (m.at (lane_sets + k - ones x) mask_there u l ∙ mask_size (lane_sets + k - ones x) u (omega (arith, lane_least)) ∙ sized_same u l)
          ∙ and_assoc (member (get_or tops x 0) u) (member above u) (eqb (state_count s) k)
          ∙ ap₂ (λ (a b : Bool). a && (b && eqb (state_count s) k)) (sym (has_at tops x u l)) (ap (member above) (sym p.1))
          ∙ sym (ap (λ (b : Bool). b && (has tops s && (member above (s % lane_sets) && eqb (state_count s) k))) (ap (member lanes) p.0 ∙ lane_in))

      -- a set of the layer in this lane
      hit_has : (s : ℕ) → is_in tops lanes above k s ≡ true → s / lane_sets ≡ x → member hit (s % lane_sets) ≡ true
      hit_has s e d =
          hit_is (s % lane_sets) (omega arith)
          ∙ ap (is_in tops lanes above k) (ap (λ (y : ℕ). y * lane_sets + s % lane_sets) (sym d) ∙ by_lane s) ∙ e

      -- it has none: the lane is done
      pub looking_more : hit ≡ 0 → (single : ℕ) → single ≡ 2 ^ x → Looking tops lanes above k (rest - single)
      looking_more none single is =
          rw is
          (let has = (lowest lane_sets rest w.small z).1 in
          record {
            small = omega (arith, sub_less rest x has, w.small);
            of = λ y e. ⊎_elim
                (λ b. subst (λ (v : ℕ). member lanes v ≡ true) (sym (eqb-true y x b)) lane_in)
                (λ b. w.of y (sym (member_sub_other rest x has y (eqb-false y x b)) ∙ e)) (decided (eqb y x));
            left = λ s e. ⊎_elim
                (λ b. clash (hit_has s e (eqb-true (s / lane_sets) x b)) (ap (λ (v : ℕ). member v (s % lane_sets)) none ∙ member_zero (s % lane_sets)))
                (λ b. member_sub_other rest x has (s / lane_sets) (eqb-false (s / lane_sets) x b) ∙ w.left s e) (decided (eqb (s / lane_sets) x));
          })

      -- it has one: its lowest is the lowest of the layer
      pub hit_lowest : above < 2 ^ lane_sets → (hit ≡ 0 → ⊥) → lowest_in tops lanes above k ≡ found (x * lane_sets + count_trailing_zeros lane_sets hit)
      unfolding lowest_in
      hit_lowest b some =
          let v = lowest lane_sets hit (common_lt_left lane_sets (common (get_or tops x 0) above) _ (common_lt lane_sets (get_or tops x 0) above b)) some in
          let u : ℕ = count_trailing_zeros lane_sets hit in
          let s : ℕ = x * lane_sets + u in
          first_is (length tops * lane_sets) (is_in tops lanes above k) s (omega (arith, lane_here, v.0)) (sym (hit_is u v.0) ∙ v.1)
          (λ j l. refuted (is_in tops lanes above k j)
          (λ e. ⊎_elim
          (λ q. clash (w.left j e) ((lowest lane_sets rest w.small z).2 (j / lane_sets) (ltb-true (j / lane_sets) x q)))
          (λ q.
          let d : j / lane_sets ≡ x = omega (arith, ltb-false (j / lane_sets) x q, v.0) in
          clash (hit_has j e d) (v.2 (j % lane_sets) (omega (arith, d))))
          (decided (ltb (j / lane_sets) x))))

  -- no lane is left
  pub looking_end : (rest : ℕ) → Looking tops lanes above k rest → rest ≡ 0 → lowest_in tops lanes above k ≡ nothing
  unfolding lowest_in
  looking_end rest w e =
      first_none (length tops * lane_sets) (is_in tops lanes above k)
      (λ j l. refuted (is_in tops lanes above k j) (λ h. clash (w.left j h) (ap (λ (v : ℕ). member v (j / lane_sets)) e ∙ member_zero (j / lane_sets))))

-- what the loop's steps go by
pub ruleset layer_steps = (looking_all, taken_lt, lane_here, lane_least, mask_there, size_small, taken_le, taken_less, shift_one)
