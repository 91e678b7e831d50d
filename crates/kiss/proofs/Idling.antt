-- The lowest idle cell: how it is found, and that it is the lowest that no sequence of observations leads to.
-- Assumes nothing.
use mathlib.Core.Path.{◌≡◌, refl, sym, ap, ◌∙◌}
use mathlib.Core.Bool.{Bool, true, false, not}
use mathlib.Core.List.{List}
use Prim.Native.Nat.{ℕ, ◌≤◌, ◌<◌}
use native.Mathlib.Omega.{arith, not-le}
use lib.Dec.{ltb}
use lib.ListN.{length, take}
use lib.Seq.{length-take-le}
use borrow.Author.Tests.{lt-ltb, ltb-true, le-ltb, not-true, not-false}
use Rattle.sets.specs.Bounded.{Found, found, nothing, first, any}
use Rattle.sets.proofs.Logic.{true_not, false_not, and_left, and_right, and_intro}
use Rattle.sets.proofs.Bounded.{first_ext, first_is, first_none, any_intro, any_found, any_refuted}
use Rattle.games.specs.Format.{max_cells}
use Rattle.games.specs.Automaton.{Automaton, no_cell}
use Rattle.cards.specs.Card.{automaton, card_cells, card_observations, checked}
use Rattle.cards.proofs.Checked.{fitting}
use Rattle.cards.proofs.Running.{size_of, named_cell}
use Rattle.trimming.specs.Reach.{Reached, by_first, by_next, alone}
use Rattle.trimming.specs.Trim.{no_first, reached}
use Rattle.trimming.proofs.Reaching.{all_found, just_found}
use Rattle.trimmer.specs.Halves.{lower_half, marked}
use Rattle.trimmer.specs.Marking.{Marked}
use Rattle.kiss.specs.Idle.{Led, at_first, later, led, idle, cell_found}
use Rattle.games.specs.declared.Cell.{Cell}
use Rattle.cards.specs.Run.{as_cell, led as cell_led}
use Rattle.std.specs.Prelude.{Ok, Option, None, Some, is_none, MatchOption, slice_index_or}
use Rattle.std.specs.Option.{option_map}
use Rattle.std.specs.Bool.{MatchBool}
use Rattle.std.specs.List.{range_with_len, AllWithin, HoldsAt}
use Rattle.std.proofs.lemmas.List.FromFn.{length-range_with_len, get_or-range_with_len}

-- ---- whether a first word names a cell

led_some : (c : ℕ) → is_none (cell_led c) ≡ false → c ≡ no_cell → ⊥
led_some c e z = grind arith

led_none : (c : ℕ) → is_none (cell_led c) ≡ true → c ≡ no_cell
led_none c e = grind arith

module _ (A : Automaton) (o : ℕ) where
  pub some_first : (j : ℕ) → j < o → A.begins j < A.size → no_first A o ≡ false
  unfolding no_first
  some_first j l n = true_not (any_intro o (λ i. ltb (A.begins i) A.size) j l (lt-ltb (A.begins j) A.size n))

  pub none_first : A.size ≤ no_cell → ((j : ℕ) → j < o → A.begins j ≡ no_cell) → no_first A o ≡ true
  unfolding no_first
  none_first few h =
      false_not (any_refuted o (λ i. ltb (A.begins i) A.size) (λ j l. le-ltb (A.begins j) A.size (omega (arith, h j l))))

  -- ---- the test

  led_reached : no_first A o ≡ false → (c : ℕ) → led A o c ≡ reached A o c
  unfolding led
  led_reached n c = rw (n)

  none_led : no_first A o ≡ true → (c : ℕ) → led A o c ≡ false
  unfolding led
  none_led n c = rw (n)

-- ---- as the code has it

-- the front of the marks that are lent
pub front_long : (n : ℕ) (marks : List ℕ) → n ≤ length marks → length (take n marks) ≡ n
front_long = length-take-le

module _ (w : List ℕ) (e : checked w ≡ Ok tt) where
  abbrev A : Automaton
  A = automaton w

  abbrev o : ℕ
  o = card_observations w

  pub few_cells : card_cells w ≤ max_cells
  few_cells = omega (arith, (fitting w e).cells, size_of w)

  pub idle_none_first : no_first A o ≡ true → Some (as_cell 0) ≡ cell_found (idle w)
  unfolding idle
  idle_none_first n =
      let f : idle w ≡ found 0 =
      first_is (card_cells w) (λ c. not (led A o c)) 0 (omega (arith, (fitting w e).some_cell, size_of w)) (ap not (none_led A o n 0)) (λ j l. absurd (omega arith)) in
      rw (f)

  pub idle_unmarked : (marks : List ℕ) (n : ℕ) (x : Option Cell) → no_first A o ≡ false → Marked A o marks n
      → x ≡ cell_found (first (length marks) (λ c. not (marked marks c))) → x ≡ cell_found (idle w)
  unfolding idle
  idle_unmarked marks n x s m h =
      let long : length marks ≡ card_cells w = m.size ∙ size_of w in
      let same : first (length marks) (λ c. not (marked marks c)) ≡ first (length marks) (λ c. not (led A o c)) =
      first_ext (length marks) (λ c. not (marked marks c)) (λ c. not (led A o c)) (λ c l. ap not (m.just c (omega (arith, m.size)) ∙ sym (led_reached A o s c))) in
      h ∙ rw (same, long)

-- what `all` answers over the first words, as the code asks of each whether it names no cell
pub no_first_is : (w : List ℕ) → checked w ≡ Ok tt → (o : ℕ) → o ≡ card_observations w → (b : Bool)
    → MatchBool b (AllWithin (λ j. is_none (cell_led ((automaton w).begins j)) ≡ true) (range_with_len 0 o) 0 (length (range_with_len 0 o)))
    ((k : ℕ) × (k < length (range_with_len 0 o)) × HoldsAt (λ j. is_none (cell_led ((automaton w).begins j)) ≡ false) (range_with_len 0 o) k)
    → b ≡ no_first (automaton w) o
no_first_is w e o is true h =
    sym (none_first (automaton w) o (omega (arith, (fitting w e).cells))
    (λ j l.
    let at : slice_index_or (range_with_len 0 o) j 0 ≡ j = omega (arith, get_or-range_with_len 0 o j 0 l) in
    led_none ((automaton w).begins j) (sym (ap (λ (i : ℕ). is_none (cell_led ((automaton w).begins i))) at) ∙ h j 0 (omega arith) (omega (arith, length-range_with_len 0 o)))))
no_first_is w e o is false h =
    let j = slice_index_or (range_with_len 0 o) h.0 0 in
    let l : j < o = omega (arith, get_or-range_with_len 0 o h.0 0 (omega (arith, h.1, length-range_with_len 0 o)), h.1, length-range_with_len 0 o) in
    sym (some_first (automaton w) o j l (named_cell (automaton w) _ ((fitting w e).begins_named j (omega (arith, is, l))) (led_some ((automaton w).begins j) (h.2 0))))

-- ---- which it is, by the cell that is told, if one is

-- what was found, by the cell
abbrev found_of : Option Cell → Found
found_of None = nothing
found_of (Some d) = found d.0

found_back : (f : Found) → found_of (cell_found f) ≡ f
found_back nothing = refl
found_back (found c) = refl

pub cell_some : (f : Found) (d : Cell) → Some d ≡ cell_found f → f ≡ found d.0
cell_some f d e = sym (found_back f) ∙ ap found_of (sym e)

pub cell_none : (f : Found) → None ≡ cell_found f → f ≡ nothing
cell_none f e = sym (found_back f) ∙ ap found_of (sym e)

-- ---- the search over the marks

module _ (w : List ℕ) where
  free : ℕ → Bool
  free c = not (marked w c)

  free_at : (c : ℕ) → lower_half w c ≡ 0 → free c ≡ true
  unfolding marked free
  free_at c z = false_not (le-ltb 0 (lower_half w c) (omega arith))

  taken_at : (c : ℕ) → (lower_half w c ≡ 0 → ⊥) → free c ≡ false
  unfolding marked free
  taken_at c n = true_not (lt-ltb 0 (lower_half w c) (not-le (lower_half w c) 0 (λ l. n (omega arith))))

  -- the first cell with no mark, as `find` gives it
  pub lowest_is : (r : Option ℕ)
      → MatchOption r ((k : ℕ) → 0 ≤ k → k < length w → lower_half w k ≡ 0 → ⊥) (λ i. (0 ≤ i) × (i < length w) × (lower_half w i ≡ 0) × ((k : ℕ) → 0 ≤ k → k < i → lower_half w k ≡ 0 → ⊥))
      → option_map as_cell r ≡ cell_found (first (length w) (λ c. not (marked w c)))
  unfolding free
  lowest_is None h = rw (first_none (length w) free (λ k l. taken_at k (h k (omega arith) l)))
  lowest_is (Some i) h = rw (first_is (length w) free i h.1 (free_at i h.2) (λ k l. taken_at k (h.3 k (omega arith) l)))

-- ---- what it means

module _ (A : Automaton) (o : ℕ) where
  -- a first word names a cell
  abbrev Begins : Type 0
  Begins = (j : ℕ) × (j < o) × (A.begins j < A.size)

  begins_some : no_first A o ≡ false → Begins
  unfolding no_first
  begins_some n =
      let f = any_found o (λ i. ltb (A.begins i) A.size) (not-false (any o (λ i. ltb (A.begins i) A.size)) n) in
      (f.0, f.1, ltb-true (A.begins f.0) A.size f.2)

  led_begins : {c : ℕ} → Led A o c → Begins
  led_begins (at_first j l e n) = (j, l, rw (e) n)
  led_begins (later d j r l e n) = led_begins r

  reached_led : {c : ℕ} → Begins → Reached A o c → Led A o c
  reached_led b (by_first j l e n) = at_first j l e n
  reached_led b (by_next d j r l e n) = later d j (reached_led b r) l e n
  reached_led b (alone e h) = absurd (h b.0 b.1 b.2)

  led_reached_by : {c : ℕ} → Led A o c → Reached A o c
  led_reached_by (at_first j l e n) = by_first j l e n
  led_reached_by (later d j r l e n) = by_next d j (led_reached_by r) l e n

  -- the test finds just the cells that a sequence leads to
  pub led_sound : (c : ℕ) → c < A.size → led A o c ≡ true → Led A o c
  unfolding led
  led_sound c l h =
      let n : no_first A o ≡ false = not-true (no_first A o) (and_left (not (no_first A o)) (reached A o c) h) in
      reached_led (begins_some n) (just_found A o c l (and_right (not (no_first A o)) (reached A o c) h))

  pub led_complete : (c : ℕ) → Led A o c → led A o c ≡ true
  unfolding led
  led_complete c r =
      let b = led_begins r in
      and_intro (false_not (some_first A o b.0 b.1 b.2)) (all_found A o (omega (arith, b.2)) (led_reached_by r))
