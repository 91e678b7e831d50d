-- Laws of the search through the layers: no cell of fewer than k states holds t.
-- Assumes nothing.
use mathlib.Core.Path.{◌≡◌, refl, sym, ap, ◌∙◌, subst}
use mathlib.Core.Logic.{⊎_elim}
use mathlib.Core.Bool.{Bool, true, false, false≢true, ◌&&◌}
use mathlib.Core.List.{List}
use Prim.Native.Nat.{ℕ, suc, ◌+◌, ◌*◌, ◌/◌, ◌%◌, ◌^◌, ◌≤◌, ◌<◌}
use native.Mathlib.Nat.{le_of_suc-le-suc, lt_of_not-le}
use native.Mathlib.Omega.{arith}
use lib.Count.{ones}
use lib.Dec.{eqb}
use lib.ListN.{length, get_or}
use borrow.Author.Tests.{eqb-true, eqb-false, eq-eqb}
use Rattle.sets.specs.Mask.{member, common, subset}
use Rattle.sets.specs.Bounded.{Found, nothing, found, count}
use Rattle.sets.specs.Family.{holds}
use Rattle.sets.proofs.Logic.{decided, clash, and_left, and_right, and_intro}
use Rattle.sets.proofs.Bounded.{any_found, any_intro, first_found, first_nothing, count_le}
use Rattle.sets.proofs.Mask.{member_and, subset_refl}
use Rattle.sets.proofs.Family.{holds_found, mem_at}
use Rattle.families.specs.Bits.{lane_states, lane_sets, max_lanes, has, sets}
use Rattle.families.proofs.Lanes.{subset_lane}
use Rattle.games.specs.Format.{max_states}
use Rattle.games.specs.Automaton.{state_count}
use Rattle.games.proofs.Holding.{count_few}
use Rattle.std.specs.Prelude.{Option, Some, None}
use Rattle.index.specs.Index.{stands_in, Fits, is_in, lowest_in, told, Searched, TightestSet}
use Rattle.index.proofs.Sizes.{by_ones, lane_states_lem, subset_states, subset_whole, has_lane, has_below, has_small, listed_has, has_listed}
use Rattle.index.proofs.Marking.{mask_set}

-- ---- what a layer's search told

is_set : Option ℕ → Bool
is_set (Some s) = true
is_set None = false

set_of : Option ℕ → ℕ
set_of (Some s) = s
set_of None = 0

pub told_set : (f : Found) (s : ℕ) → told f ≡ Some s → f ≡ found s
unfolding is_set set_of
told_set nothing s e = absurd (false≢true (ap is_set e))
told_set (found u) s e = ap found (ap set_of e)

pub told_nothing : (f : Found) → told f ≡ None → f ≡ nothing
unfolding is_set
told_nothing nothing e = refl
told_nothing (found u) e = absurd (false≢true (sym (ap is_set e)))

-- ---- no cell of fewer states

-- a listed set that holds t is one of the family
pub held_set : (tops : List ℕ) (t : ℕ) → holds (sets tops) t ≡ true → (v : ℕ) × (has tops v ≡ true) × (subset t v ≡ true)
held_set tops t h =
    let w = holds_found (sets tops) t h in
    let c = mem_at (sets tops) w.0 w.1 in
    (w.0, subst (λ (v : ℕ). has tops v ≡ true) c.2 (listed_has tops c.0 c.1), w.2)

-- a cell's set is the tightest that holds it
pub own_tightest : (tops : List ℕ) → length tops ≤ max_lanes → (t : ℕ) → has tops t ≡ true → TightestSet tops t t
own_tightest tops few t h =
    record {
      is_cell = h;
      holds_it = subset_refl t;
      fewest = λ v e b. subset_states t v b;
      lowest = λ v e b s. subst (λ (x : ℕ). t ≤ x) (subset_whole t v (has_small tops few t h) (has_small tops few v e) b (sym s)) (omega arith);
    }

module _ (tops : List ℕ) (t : ℕ) where
  pub record Climbed (k : ℕ) : Type 0 where
    pub none : (v : ℕ) → has tops v ≡ true → subset t v ≡ true → k ≤ state_count v

  module _ (layers masks : List ℕ) (w : Searched tops layers masks) (here : t / lane_sets < length tops) where
    small : t < 2 ^ max_states
    small = omega (arith, w.few)

    -- it is none: a cell that holds it has more states
    pub climbed_first : has tops t ≡ false → Climbed (ones t + 1)
    climbed_first f =
        record {
          none = λ v e b.
              let n = by_ones t small in
              ⊎_elim (λ s. clash e (subst (λ (x : ℕ). has tops x ≡ false) (subset_whole t v small (has_small tops w.few v e) b (eqb-true (state_count t) (state_count v) s)) f))
              (λ s. let d = eqb-false (state_count t) (state_count v) s in let l = subset_states t v b in omega (arith, n, l, d)) (decided (eqb (state_count t) (state_count v)));
        }

    -- ---- the layer k and t's masks

    module _ (k : ℕ) where
      abbrev lanes : ℕ
      lanes = common (get_or layers k 0) (get_or masks (t / lane_sets) 0)

      abbrev above : ℕ
      above = get_or masks (t % lane_sets) 0

      -- a lane of the layer has a cell of k states
      lane_has : (x : ℕ) → member lanes x ≡ true → (v : ℕ) × (has tops v ≡ true) × (state_count v ≡ k) × (v / lane_sets ≡ x)
      lane_has x m =
          let e = and_left (member (get_or layers k 0) x) (member (get_or masks (t / lane_sets) 0) x) (sym (member_and (get_or layers k 0) (get_or masks (t / lane_sets) 0) x) ∙ m) in
          let c = any_found (length (sets tops)) (λ i. stands_in k x (get_or (sets tops) i 0)) (sym (w.layered.at k x) ∙ e) in
          let v : ℕ = get_or (sets tops) c.0 0 in (
            v,
            listed_has tops c.0 c.1,
            eqb-true (state_count v) k (and_left (eqb (state_count v) k) (eqb (v / lane_sets) x) c.2),
            eqb-true (v / lane_sets) x (and_right (eqb (state_count v) k) (eqb (v / lane_sets) x) c.2),
          )

      lane_size : (x : ℕ) → member lanes x ≡ true → (x < length tops) × (count lane_states (member x) ≤ k) × (k ≤ count lane_states (member x) + lane_states)
      lane_size x m =
          let v = lane_has x m in
          let e : k ≡ count lane_states (member x) + count lane_states (member (v.0 % lane_sets)) =
          sym v.2 ∙ lane_states_lem v.0 (has_small tops w.few v.0 v.1) ∙ ap (λ (y : ℕ). count lane_states (member y) + count lane_states (member (v.0 % lane_sets))) v.3 in
          let l = count_le lane_states (member (v.0 % lane_sets)) in
          (subst (λ (y : ℕ). y < length tops) v.3 (has_lane tops v.0 v.1), omega (arith, e), omega (arith, e, l))

      pub fits : Fits tops lanes k
      fits =
          record {
            here = λ x m. (lane_size x m).0;
            least = λ x m. (lane_size x m).1;
            most = λ x m. (lane_size x m).2;
            few = w.few;
          }

      -- what is in the layer holds t
      in_holds : (s : ℕ) → is_in tops lanes above k s ≡ true → (has tops s ≡ true) × (subset t s ≡ true) × (state_count s ≡ k)
      in_holds s e =
          let lane = and_left (member lanes (s / lane_sets)) (has tops s && (member above (s % lane_sets) && eqb (state_count s) k)) e in
          let rest = and_right (member lanes (s / lane_sets)) (has tops s && (member above (s % lane_sets) && eqb (state_count s) k)) e in
          let is = and_left (has tops s) (member above (s % lane_sets) && eqb (state_count s) k) rest in
          let last = and_right (has tops s) (member above (s % lane_sets) && eqb (state_count s) k) rest in
          let there : s / lane_sets < lane_sets = omega (arith, has_lane tops s is, w.few) in (
            is,
            subset_lane t s
                ∙ and_intro
                (sym (mask_set (t / lane_sets) (s / lane_sets) (omega (arith, here, w.few))) ∙ sym (w.masked.at (t / lane_sets) (omega (arith, here, w.few)) (s / lane_sets) there)
                ∙ and_right (member (get_or layers k 0) (s / lane_sets)) (member (get_or masks (t / lane_sets) 0) (s / lane_sets)) (sym (member_and (get_or layers k 0) (get_or masks (t / lane_sets) 0) (s / lane_sets)) ∙ lane))
                (sym (mask_set (t % lane_sets) (s % lane_sets) (omega arith)) ∙ sym (w.masked.at (t % lane_sets) (omega arith) (s % lane_sets) (omega arith))
                ∙ and_left (member above (s % lane_sets)) (eqb (state_count s) k) last),
            eqb-true (state_count s) k (and_right (member above (s % lane_sets)) (eqb (state_count s) k) last),
          )

      -- and what holds t with k states is in it
      holds_in : (s : ℕ) → has tops s ≡ true → subset t s ≡ true → state_count s ≡ k → is_in tops lanes above k s ≡ true
      holds_in s h b e =
          let there : s / lane_sets < lane_sets = omega (arith, has_lane tops s h, w.few) in
          let parts = sym (subset_lane t s) ∙ b in
          let c = mem_at (sets tops) s (has_listed tops s h) in
          and_intro
          (member_and (get_or layers k 0) (get_or masks (t / lane_sets) 0) (s / lane_sets)
          ∙ and_intro
          (w.layered.at k (s / lane_sets)
          ∙ any_intro (length (sets tops)) (λ i. stands_in k (s / lane_sets) (get_or (sets tops) i 0)) c.0 c.1
          (ap (stands_in k (s / lane_sets)) c.2 ∙ and_intro (eq-eqb (state_count s) k e) (eq-eqb (s / lane_sets) (s / lane_sets) refl)))
          (w.masked.at (t / lane_sets) (omega (arith, here, w.few)) (s / lane_sets) there ∙ mask_set (t / lane_sets) (s / lane_sets) (omega (arith, here, w.few))
          ∙ and_left (subset (t / lane_sets) (s / lane_sets)) (subset (t % lane_sets) (s % lane_sets)) parts))
          (and_intro h
          (and_intro
          (w.masked.at (t % lane_sets) (omega arith) (s % lane_sets) (omega arith) ∙ mask_set (t % lane_sets) (s % lane_sets) (omega arith)
          ∙ and_right (subset (t / lane_sets) (s / lane_sets)) (subset (t % lane_sets) (s % lane_sets)) parts)
          (eq-eqb (state_count s) k e)))

      module _ (c : Climbed k) where
        -- the layer's lowest is the tightest
        pub found_tightest : (s : ℕ) → lowest_in tops lanes above k ≡ found s → TightestSet tops t s
        unfolding lowest_in
        found_tightest s e =
            let f = first_found (length tops * lane_sets) (is_in tops lanes above k) s e in
            let i = in_holds s f.1 in
            record {
              is_cell = i.0;
              holds_it = i.1;
              fewest = λ v h b. subst (λ (x : ℕ). x ≤ state_count v) (sym i.2) (c.none v h b);
              lowest = λ v h b q. le_of_suc-le-suc (lt_of_not-le (λ (less : suc v ≤ s). clash (holds_in v h b (q ∙ i.2)) (f.2 v less)));
            }

        -- it has none: a cell that holds t has more states
        pub climbed_more : lowest_in tops lanes above k ≡ nothing → Climbed (k + 1)
        unfolding lowest_in
        climbed_more e =
            record {
              none = λ v h b.
                  ⊎_elim (λ q. clash (holds_in v h b (eqb-true (state_count v) k q)) (first_nothing (length tops * lane_sets) (is_in tops lanes above k) e v (has_below tops v h)))
                  (λ q. let d = eqb-false (state_count v) k q in let l = c.none v h b in omega (arith, l, d)) (decided (eqb (state_count v) k));
            }

    -- some layer has one
    pub climbed_end : (k : ℕ) → Climbed k → max_states < k → holds (sets tops) t ≡ true → ⊥
    climbed_end k c l h =
        let v = held_set tops t h in
        let a = c.none v.0 v.1 v.2 in
        let b = count_few v.0 in
        omega (arith, a, b)

pub ruleset climbing = (told_set, told_nothing, own_tightest, climbed_first, fits, found_tightest, climbed_more, climbed_end)
