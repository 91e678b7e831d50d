-- The walk along the members of a set: one member more, and what holds before each turn of the loop.
-- Assumes nothing.
use mathlib.Core.Path.{◌≡◌, refl, sym, ap, ◌∙◌}
use mathlib.Core.List.{List, [], ◌∷◌}
use Prim.Native.Nat.{ℕ, ◌+◌, ◌-◌, ◌%◌, ◌^◌, ◌≤◌, ◌<◌}
use native.Mathlib.Nat.{lt_of_lt_of_le, mod-lt}
use native.Mathlib.Omega.{arith}
use lib.Count.{count_trailing_zeros}
use lib.ListN.{length}
use lib.Pow.{pow_pos, pow_mono}
use Rattle.sets.specs.Mask.{member, common, union}
use Rattle.sets.specs.Bounded.{count}
use Rattle.sets.proofs.Bounded.{Lowest, count_le, select_ext, select_length, select_lowest, select_none}
use Rattle.sets.proofs.Mask.{member_zero, member_below, member_low, lowest, common_lt_left, member_sub_same, member_sub_other, lowest_off}
use Rattle.games.specs.Format.{max_states}
use Rattle.games.specs.Game.{Game}
use Rattle.std.specs.Prelude.{Some, None}
use Rattle.walk.specs.Walk.{passed, stopped, moved, members, along, walked}

-- ---- members, from the lowest

pub members_count : (n s : ℕ) → length (members n s) ≡ count n (member s)
unfolding members
members_count n s = select_length n (member s)

members_none : (n : ℕ) → members n 0 ≡ []
unfolding members
members_none n = select_none n (member 0) (λ i l. member_zero i)

-- states from n up are no members
members_low : (n s : ℕ) → members n (s % 2 ^ n) ≡ members n s
unfolding members
members_low n s = select_ext n (member (s % 2 ^ n)) (member s) (λ i l. member_low s n i l)

-- the lowest member stands in front of the others
members_lowest : (n s i : ℕ) → Lowest n (member s) i → members n s ≡ i ∷ members n (common s (s - 1))
unfolding members
members_lowest n s i l =
    rw (lowest_off i s l.1 l.2)
    (select_lowest i n (member s) (member (s - 2 ^ i)) l.0 l.1 (member_sub_same s i l.1) l.2 (member_sub_other s i l.1))

-- ---- the walk along them

module _ (g : Game) (a : ℕ) where
  pub along_none : (u c : ℕ) → along g a [] u c ≡ passed u c
  unfolding along
  along_none u c = refl

  pub along_blocked : (i : ℕ) (l : List ℕ) (u c : ℕ) → moved g a i ≡ None → along g a (i ∷ l) u c ≡ stopped i (c + 1)
  unfolding along
  along_blocked i l u c e = rw e

  pub along_more : (i : ℕ) (l : List ℕ) (u c v : ℕ) → moved g a i ≡ Some v → along g a (i ∷ l) u c ≡ along g a l (union u v) (c + 1)
  unfolding along
  along_more i l u c v e = rw e

  -- ---- before each turn of the loop: the walk along the members of `rest` gives the answer

  module _ (s : ℕ) where
    pub record Walking (rest u looked : ℕ) : Type 0 where
      pub small : rest < 2 ^ g.states
      pub answer : along g a (members g.states rest) u looked ≡ walked g s a
      pub few : looked + length (members g.states rest) ≤ g.states
      pub wide : g.states ≤ max_states

    pub walking_none : g.states ≤ max_states → Walking (s % 2 ^ g.states) 0 0
    unfolding walked
    walking_none wide =
        let e = members_low g.states s in
        record {
          small = mod-lt s (pow_pos g.states);
          answer = ap (λ (l : List ℕ). along g a l 0 0) e;
          few = omega (arith, ap length e, members_count g.states s, count_le g.states (member s));
          wide = wide;
        }

    module _ (rest u looked : ℕ) (h : Walking rest u looked) where
      -- nothing is left
      pub walking_end : rest ≡ 0 → passed u looked ≡ walked g s a
      walking_end z =
          sym (along_none u looked) ∙ ap (λ (l : List ℕ). along g a l u looked) (sym (ap (members g.states) z ∙ members_none g.states)) ∙ h.answer

      -- the lowest member of what is left
      module _ (z : rest ≡ 0 → ⊥) where
        next_is : Lowest 32 (member rest) (count_trailing_zeros 32 rest)
        next_is = lowest 32 rest (lt_of_lt_of_le h.small (pow_mono {j = 32} (omega (arith, h.wide)))) z

        -- is a state
        pub next_below : count_trailing_zeros 32 rest < g.states
        next_below = member_below g.states rest (count_trailing_zeros 32 rest) h.small next_is.1

        next_members : members g.states rest ≡ count_trailing_zeros 32 rest ∷ members g.states (common rest (rest - 1))
        next_members = members_lowest g.states rest (count_trailing_zeros 32 rest) (next_below, next_is.1, next_is.2)

        next_answer : along g a (count_trailing_zeros 32 rest ∷ members g.states (common rest (rest - 1))) u looked ≡ walked g s a
        next_answer = ap (λ (l : List ℕ). along g a l u looked) (sym next_members) ∙ h.answer

        -- one member fewer is left
        pub next_less : length (members g.states (common rest (rest - 1))) < length (members g.states rest)
        next_less = omega (arith, ap length next_members)

        -- it can be counted
        pub next_counted : looked + 1 ≤ max_states
        next_counted = omega (arith, next_less, h.few, h.wide)

        -- where the action is blocked there, the walk ends
        pub walking_blocked : moved g a (count_trailing_zeros 32 rest) ≡ None → stopped (count_trailing_zeros 32 rest) (looked + 1) ≡ walked g s a
        walking_blocked e = sym (along_blocked (count_trailing_zeros 32 rest) (members g.states (common rest (rest - 1))) u looked e) ∙ next_answer

        -- where it is not, the others are left
        pub walking_more : (v : ℕ) → moved g a (count_trailing_zeros 32 rest) ≡ Some v → Walking (common rest (rest - 1)) (union u v) (looked + 1)
        walking_more v e =
            record {
              small = common_lt_left g.states rest (rest - 1) h.small;
              answer = sym (along_more (count_trailing_zeros 32 rest) (members g.states (common rest (rest - 1))) u looked v e) ∙ next_answer;
              few = omega (arith, next_less, h.few);
              wide = h.wide;
            }
