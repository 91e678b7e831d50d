-- The kept cells and their new numbers, which go back and forth.
-- Assumes nothing.
use mathlib.Core.Path.{◌≡◌, ap, ◌∙◌}
use mathlib.Core.Bool.{Bool, true, cond}
use Prim.Native.Nat.{ℕ, ◌≤◌, ◌<◌}
use native.Mathlib.Omega.{arith}
use lib.ListN.{length, get_or}
use borrow.Author.Tests.{eq-eqb, ne_eqb}
use Rattle.sets.specs.Bounded.{count}
use Rattle.sets.proofs.Bounded.{count_le, count_pos, count_past, select_length, select_at, select_count, select_ascending, mem_select, select_mem}
use Rattle.sets.proofs.Family.{select_in}
use Rattle.games.specs.Format.{max_cells}
use Rattle.games.specs.Automaton.{Automaton, no_cell}
use Rattle.trimming.specs.Reach.{Reached}
use Rattle.trimming.specs.Trim.{reached, kept, renumbered}
use Rattle.trimming.specs.Promise.{Keeping}
use Rattle.trimming.proofs.Reaching.{some_reached, reached_inside, all_found, just_found}

module _ (A : Automaton) (o : ℕ) where
  pub new_none : (c : ℕ) → c ≡ no_cell → renumbered A o c ≡ no_cell
  unfolding renumbered
  new_none c e = ap (λ (b : Bool). cond b no_cell (count c (reached A o))) (eq-eqb c no_cell e)

  new_number : (c : ℕ) → (c ≡ no_cell → ⊥) → renumbered A o c ≡ count c (reached A o)
  unfolding renumbered
  new_number c n = ap (λ (b : Bool). cond b no_cell (count c (reached A o))) (ne_eqb c no_cell n)

  pub kept_length : length (kept A o) ≡ count A.size (reached A o)
  unfolding kept
  kept_length = select_length A.size (reached A o)

  pub kept_few : length (kept A o) ≤ A.size
  kept_few = omega (arith, kept_length, count_le A.size (reached A o))

  pub kept_some : 0 < A.size → 0 < length (kept A o)
  kept_some s =
      let c = some_reached A o s in
      omega (arith, kept_length, count_pos A.size (reached A o) c.0 c.1 c.2)

  -- a kept cell is one of the cells, and reached
  pub old_in : (i : ℕ) → i < length (kept A o) → (get_or (kept A o) i 0 < A.size) × (reached A o (get_or (kept A o) i 0) ≡ true)
  unfolding kept
  old_in i l = select_in A.size (reached A o) i l

  module _ (few : A.size ≤ max_cells) where
    pub no_none : (c : ℕ) → c < A.size → c ≡ no_cell → ⊥
    no_none c l e = omega arith

    -- the new number of a reached cell
    module _ (c : ℕ) (l : c < A.size) where
      pub new_count : renumbered A o c ≡ count c (reached A o)
      new_count = new_number c (no_none c l)

      module _ (r : reached A o c ≡ true) where
        pub new_below : renumbered A o c < length (kept A o)
        new_below = omega (arith, new_count, kept_length, count_past c A.size (reached A o) l r)

        -- and back
        pub old_new : get_or (kept A o) (renumbered A o c) 0 ≡ c
        unfolding kept
        old_new = ap (λ (i : ℕ). get_or (kept A o) i 0) new_count ∙ select_at c A.size (reached A o) l r

    -- the new number of the cell at place i is i
    pub new_old : (i : ℕ) → i < length (kept A o) → renumbered A o (get_or (kept A o) i 0) ≡ i
    unfolding kept
    new_old i l = new_count (get_or (kept A o) i 0) (old_in i l).0 ∙ select_count A.size (reached A o) i (omega (arith, kept_length))

    pub keeping : 0 < A.size → Keeping A o
    unfolding kept
    keeping s =
        let inside : (c : ℕ) → Reached A o c → c < A.size = λ c r. reached_inside A o s r in
        record {
          some = kept_some s;
          just = λ c. (
            λ m. let p = mem_select A.size (reached A o) c m in just_found A o c p.0 p.1,
            λ r. select_mem A.size (reached A o) c (inside c r) (all_found A o s r),
          );
          ascending = select_ascending A.size (reached A o);
          inside = inside;
          number = λ c r. new_count c (inside c r);
          number_below = λ c r. new_below c (inside c r) (all_found A o s r);
          back = λ c r. old_new c (inside c r) (all_found A o s r);
          forth = new_old;
        }
