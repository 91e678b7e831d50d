-- Laws of `holding`, the cell that is named for a set of states: for the empty set, where a cell's set holds it, where none does, the
-- range of its numbers, and that it is the tightest.
-- Assumes nothing.
use mathlib.Core.Path.{◌≡◌, refl, sym, ap, ◌∙◌, subst}
use mathlib.Core.Logic.{◌⊎◌, inl, inr, ⊎_elim}
use mathlib.Core.Bool.{Bool, true, false, cond, not, ◌&&◌, ◌||◌}
use mathlib.Core.List.{List}
use Prim.Native.Nat.{ℕ, suc, ◌≤◌, ◌<◌}
use native.Mathlib.Nat.{le_antisymm, lt_of_not-le, le_of_suc-le-suc}
use native.Mathlib.Omega.{arith}
use lib.Dec.{eqb, leb}
use lib.ListN.{length, get_or}
use borrow.Author.Tests.{eq-eqb, ne_eqb, eqb-true, eqb-false, leb-true, le-leb}
use Rattle.sets.specs.Mask.{member, subset}
use Rattle.sets.specs.Bounded.{Found, nothing, found, first, or_else, all, any}
use Rattle.sets.specs.Family.{holds}
use Rattle.sets.proofs.Logic.{decided, clash, refuted, and_left, and_right, and_intro, implies_intro, implies_at}
use Rattle.sets.proofs.Bounded.{first_none, first_is, first_cases, first_found, first_some, all_at, all_intro, any_found, any_intro, count_le}
use Rattle.sets.proofs.Mask.{member_zero, subset_member}
use Rattle.sets.proofs.Family.{at_mem, mem_at, holds_found, holds_intro}
use Rattle.games.specs.Format.{max_states, low_values, max_cells}
use Rattle.games.specs.Automaton.{no_cell, state_count, holds_at, tightest_at, holding}
use Rattle.games.specs.Tightest.{Tightest, NamesTightest}

-- a set has no more states than there can be
pub count_few : (s : ℕ) → state_count s < suc max_states
unfolding state_count
count_few s = omega (arith, count_le max_states (member s))

module _ (l : List ℕ) (s : ℕ) where
  -- ---- by the definition

  pub holding_empty : s ≡ 0 → holding l s ≡ no_cell
  unfolding holding
  holding_empty e = ap (λ (b : Bool). cond b no_cell (or_else (first (length l) (tightest_at l s)) no_cell)) (eq-eqb s 0 e)

  holding_first : (s ≡ 0 → ⊥) → (f : Found) → first (length l) (tightest_at l s) ≡ f → holding l s ≡ or_else f no_cell
  unfolding holding
  holding_first some f h =
      ap (λ (b : Bool). cond b no_cell (or_else (first (length l) (tightest_at l s)) no_cell)) (ne_eqb s 0 some) ∙ ap (λ (x : Found). or_else x no_cell) h

  -- it is a cell of the list, or none
  pub holding_named : (holding l s < length l) ⊎ (holding l s ≡ no_cell)
  unfolding holding
  holding_named = named (eqb s 0)
    where
      named : (b : Bool) → (cond b no_cell (or_else (first (length l) (tightest_at l s)) no_cell) < length l) ⊎ (cond b no_cell (or_else (first (length l) (tightest_at l s)) no_cell) ≡ no_cell)
      named true = inr refl
      named false =
          ⊎_elim (λ w. inr (ap (λ (f : Found). or_else f no_cell) w.0))
          (λ w. inl (subst (λ (f : Found). or_else f no_cell < length l) (sym w.1) w.2.0))
          (first_cases (length l) (tightest_at l s))

  -- a cell number fits its field
  pub holding_small : length l ≤ max_cells → holding l s < low_values
  holding_small few = ⊎_elim (λ h. omega arith) (λ e. omega arith) holding_named

  -- ---- the cells that hold s

  holds_at_lem : (c : ℕ) → c < length l → holds_at l s c ≡ true → holds l s ≡ true
  holds_at_lem c b e = holds_intro l s (get_or l c 0) (at_mem l c b) e

  at_holds : holds l s ≡ true → (c : ℕ) × (c < length l) × (holds_at l s c ≡ true)
  at_holds h =
      let t = holds_found l s h in
      let c = mem_at l t.0 t.1 in
      (c.0, c.1, subst (λ (u : ℕ). subset s u ≡ true) (sym c.2) t.2)

  -- how many states the set of cell c has
  abbrev size_at : ℕ → ℕ
  size_at c = state_count (get_or l c 0)

  tightest_intro : (c : ℕ) → holds_at l s c ≡ true → ((d : ℕ) → d < length l → holds_at l s d ≡ true → size_at c ≤ size_at d) → tightest_at l s c ≡ true
  unfolding tightest_at
  tightest_intro c h f =
      and_intro h (all_intro (length l) (λ d. not (holds_at l s d) || leb (size_at c) (size_at d)) (λ d b. implies_intro (holds_at l s d) (leb (size_at c) (size_at d)) (λ e. le-leb (size_at c) (size_at d) (f d b e))))

  tightest_holds : (c : ℕ) → tightest_at l s c ≡ true → holds_at l s c ≡ true
  unfolding tightest_at
  tightest_holds c e = and_left (holds_at l s c) (all (length l) (λ d. not (holds_at l s d) || leb (size_at c) (size_at d))) e

  tightest_fewest : (c : ℕ) → tightest_at l s c ≡ true → (d : ℕ) → d < length l → holds_at l s d ≡ true → size_at c ≤ size_at d
  unfolding tightest_at
  tightest_fewest c e d b h =
      leb-true (size_at c) (size_at d)
      (implies_at (holds_at l s d) (leb (size_at c) (size_at d))
      (all_at (length l) (λ d. not (holds_at l s d) || leb (size_at c) (size_at d)) (and_right (holds_at l s c) (all (length l) (λ d. not (holds_at l s d) || leb (size_at c) (size_at d))) e) d b) h)

  -- ---- where no cell's set holds s

  pub holding_unheld : holds l s ≡ false → holding l s ≡ no_cell
  holding_unheld h =
      ⊎_elim (λ e. holding_empty (eqb-true s 0 e))
      (λ e. holding_first (eqb-false s 0 e) nothing
      (first_none (length l) (tightest_at l s) (λ c b. refuted (tightest_at l s c) (λ t. clash (holds_at_lem c b (tightest_holds c t)) h)))) (decided (eqb s 0))

  -- ---- where one does: there is a least number of states, and a cell that has it

  -- cell c holds s and has k states
  abbrev sized : ℕ → ℕ → Bool
  sized k c = holds_at l s c && eqb (size_at c) k

  abbrev some_sized : ℕ → Bool
  some_sized k = any (length l) (sized k)

  sized_some : (c : ℕ) → c < length l → holds_at l s c ≡ true → some_sized (size_at c) ≡ true
  sized_some c b h = any_intro (length l) (sized (size_at c)) c b (and_intro h (eq-eqb (size_at c) (size_at c) refl))

  some_tightest : (c : ℕ) → c < length l → holds_at l s c ≡ true → (d : ℕ) × (d < length l) × (tightest_at l s d ≡ true)
  some_tightest c b h =
      let f = first_some (suc max_states) some_sized (size_at c) (count_few (get_or l c 0)) (sized_some c b h) in
      let k : ℕ = f.0 in
      let w = first_found (suc max_states) some_sized k f.1 in
      let d = any_found (length l) (sized k) w.1 in
      let is : size_at d.0 ≡ k = eqb-true (size_at d.0) k (and_right (holds_at l s d.0) (eqb (size_at d.0) k) d.2) in (
        d.0,
        d.1,
        tightest_intro d.0 (and_left (holds_at l s d.0) (eqb (size_at d.0) k) d.2)
            (λ e bound g. subst (λ (x : ℕ). x ≤ size_at e) (sym is) (le_of_suc-le-suc (lt_of_not-le (λ (less : suc (size_at e) ≤ k). clash (sized_some e bound g) (w.2 (size_at e) less))))),
      )

  -- ---- the cell named is the tightest, and there is no other

  pub holding_tightest : (s ≡ 0 → ⊥) → holds l s ≡ true → Tightest l s (holding l s)
  holding_tightest some h =
      let c = at_holds h in
      let t = some_tightest c.0 c.1 c.2 in
      let f = first_some (length l) (tightest_at l s) t.0 t.1 t.2 in
      let w = first_found (length l) (tightest_at l s) f.0 f.1 in
      subst (Tightest l s) (sym (holding_first some (found f.0) f.1))
      (record {
        is_cell = w.0;
        holds_it = tightest_holds f.0 w.1;
        fewest = tightest_fewest f.0 w.1;
        lowest = λ d b g e. le_of_suc-le-suc (lt_of_not-le (λ (less : suc d ≤ f.0). clash
            (tightest_intro d g (λ i bound held. subst (λ (x : ℕ). x ≤ size_at i) (sym e) (tightest_fewest f.0 w.1 i bound held))) (w.2 d less)));
      })

  pub holding_only : (s ≡ 0 → ⊥) → (c : ℕ) → Tightest l s c → c ≡ holding l s
  holding_only some c t =
      sym (holding_first some (found c)
      (first_is (length l) (tightest_at l s) c t.is_cell (tightest_intro c t.holds_it t.fewest)
      (λ d less. refuted (tightest_at l s d)
      (λ e.
      let b : d < length l = omega (arith, t.is_cell) in
      let held = tightest_holds d e in
      absurd (omega (arith, t.lowest d b held (le_antisymm (tightest_fewest d e c t.is_cell t.holds_it) (t.fewest d b held))))))))

  pub names_tightest : NamesTightest l s
  names_tightest = record { empty = holding_empty; unheld = holding_unheld; tightest = holding_tightest; only = holding_only }

-- ---- a set with a member that some cell's set holds has a holding cell

pub record Held (l : List ℕ) (s i : ℕ) : Type 0 where
  pub below : holding l s < length l
  pub holds_it : subset s (get_or l (holding l s) 0) ≡ true
  pub has : member (get_or l (holding l s) 0) i ≡ true

-- a set with a member has a state
pub has_state : (s i : ℕ) → member s i ≡ true → s ≡ 0 → ⊥
has_state s i m e = clash m (subst (λ (u : ℕ). member u i ≡ false) (sym e) (member_zero i))

pub held_by : (l : List ℕ) (s i : ℕ) → holds l s ≡ true → member s i ≡ true → Held l s i
held_by l s i h m =
    let t = holding_tightest l s (has_state s i m) h in
    record {
      below = t.is_cell;
      holds_it = t.holds_it;
      has = subset_member s (get_or l (holding l s) 0) t.holds_it i m;
    }
