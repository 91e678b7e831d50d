-- The trimmed automaton can be held by a card; so the trimmed words are a card, which means that automaton.
-- Assumes nothing.
use mathlib.Core.Path.{◌≡◌, refl, sym, ap, ◌∙◌, subst}
use mathlib.Core.Logic.{inl, inr, ⊎_elim}
use mathlib.Core.Bool.{true}
use mathlib.Core.List.{List}
use Prim.Native.Nat.{ℕ, ◌≤◌, ◌<◌}
use native.Mathlib.Omega.{arith}
use lib.ListN.{length, get_or}
use Rattle.games.specs.Automaton.{Automaton}
use Rattle.games.specs.Words.{card_length}
use Rattle.cards.specs.Card.{card_actions, card_observations, automaton, checked, Named, Fitting}
use Rattle.cards.proofs.Checked.{fitting}
use Rattle.cards.proofs.Written.{Agree, card_long, written_cells, written_actions, written_observations, written_checked, written_agrees}
use Rattle.trimming.specs.Reach.{Reached}
use Rattle.trimming.specs.Trim.{reached, kept, renumbered, trim, trimmed}
use Rattle.trimming.specs.Promise.{Trimming}
use Rattle.trimming.proofs.Reaching.{reached_first, reached_next, reached_inside, all_found}
use Rattle.trimming.proofs.Numbers.{new_none, kept_few, kept_some, old_in, new_below, old_new}
use Rattle.std.specs.Prelude.{Ok}

-- ---- the trimmed automaton

module _ (A : Automaton) (o : ℕ) where
  pub trim_size : (trim A o).size ≡ length (kept A o)
  unfolding trim
  trim_size = refl

  pub trim_begins : (j : ℕ) → (trim A o).begins j ≡ renumbered A o (A.begins j)
  unfolding trim
  trim_begins j = refl

  -- cell i is the one kept at place i, which is one of the cells, and reached
  module _ (i : ℕ) where
    pub trim_old : i < (trim A o).size → (get_or (kept A o) i 0 < A.size) × (reached A o (get_or (kept A o) i 0) ≡ true)
    trim_old l = old_in A o i (subst (λ (k : ℕ). i < k) trim_size l)

    pub trim_set : (trim A o).set i ≡ A.set (get_or (kept A o) i 0)
    unfolding trim
    trim_set = refl

    pub trim_action : (trim A o).action i ≡ A.action (get_or (kept A o) i 0)
    unfolding trim
    trim_action = refl

    pub trim_next : (j : ℕ) → (trim A o).next i j ≡ renumbered A o (A.next (get_or (kept A o) i 0) j)
    unfolding trim
    trim_next j = refl

module _ (A : Automaton) (a o : ℕ) (F : Fitting A a o) where
  -- a first or next cell that is reached where it is one: renumbered, it is one of the trimmed automaton's, or none
  named_new : (c : ℕ) → Named A c → (c < A.size → reached A o c ≡ true) → Named (trim A o) (renumbered A o c)
  named_new c n r =
      ⊎_elim (λ l. inl (subst (λ (k : ℕ). renumbered A o c < k) (sym (trim_size A o)) (new_below A o F.cells c l (r l)))) (λ e. inr (new_none A o c e)) n

  pub trim_fits : Fitting (trim A o) a o
  trim_fits =
      record {
        some_cell = subst (λ (k : ℕ). 1 ≤ k) (sym (trim_size A o)) (kept_some A o F.some_cell);
        cells = omega (arith, trim_size A o, kept_few A o, F.cells);
        some_action = F.some_action;
        actions = F.actions;
        some_observation = F.some_observation;
        observations = F.observations;
        set_below = λ i l. rw (trim_set A o i) (F.set_below (get_or (kept A o) i 0) (trim_old A o i l).0);
        action_below = λ i l. rw (trim_action A o i) (F.action_below (get_or (kept A o) i 0) (trim_old A o i l).0);
        begins_named = λ j l. rw (trim_begins A o j) (named_new (A.begins j) (F.begins_named j l) (λ b. reached_first A o (A.begins j) j l refl));
        next_named = λ i j l k.
            let c = get_or (kept A o) i 0 in
            let old = trim_old A o i l in
            rw (trim_next A o i j) (named_new (A.next c j) (F.next_named c j old.0 k) (λ b. reached_next A o c (A.next c j) j old.0 old.1 k refl b));
      }

-- ---- the trimmed words

module _ (w : List ℕ) (e : checked w ≡ Ok tt) where
  abbrev A : Automaton
  A = automaton w

  abbrev a : ℕ
  a = card_actions w

  abbrev o : ℕ
  o = card_observations w

  pub fits : Fitting (trim A o) a o
  fits = trim_fits A a o (fitting w e)

  pub trimmed_checked : checked (trimmed w) ≡ Ok tt
  unfolding trimmed
  trimmed_checked = written_checked (trim A o) a o fits

  pub trimmed_actions : card_actions (trimmed w) ≡ a
  unfolding trimmed
  trimmed_actions = written_actions (trim A o) a o fits

  pub trimmed_observations : card_observations (trimmed w) ≡ o
  unfolding trimmed
  trimmed_observations = written_observations (trim A o) a o fits

  pub trimmed_agrees : Agree (automaton (trimmed w)) (trim A o) o
  unfolding trimmed
  trimmed_agrees = written_agrees (trim A o) a o fits

  -- the cell that a reached one became
  module _ (c : ℕ) (l : c < A.size) (r : reached A o c ≡ true) where
    pub new_inside : renumbered A o c < (automaton (trimmed w)).size
    new_inside = subst (λ (n : ℕ). renumbered A o c < n) (sym (trimmed_agrees.size_same ∙ trim_size A o)) (new_below A o (fitting w e).cells c l r)

    back : get_or (kept A o) (renumbered A o c) 0 ≡ c
    back = old_new A o (fitting w e).cells c l r

    pub new_set : (automaton (trimmed w)).set (renumbered A o c) ≡ A.set c
    new_set = trimmed_agrees.set_same (renumbered A o c) new_inside ∙ trim_set A o (renumbered A o c) ∙ ap A.set back

    pub new_action : (automaton (trimmed w)).action (renumbered A o c) ≡ A.action c
    new_action = trimmed_agrees.action_same (renumbered A o c) new_inside ∙ trim_action A o (renumbered A o c) ∙ ap A.action back

    pub new_next : (j : ℕ) → j < o → (automaton (trimmed w)).next (renumbered A o c) j ≡ renumbered A o (A.next c j)
    new_next j k =
        trimmed_agrees.next_same (renumbered A o c) j new_inside k ∙ trim_next A o (renumbered A o c) j
        ∙ ap (λ (d : ℕ). renumbered A o (A.next d j)) back

  pub new_begins : (j : ℕ) → j < o → (automaton (trimmed w)).begins j ≡ renumbered A o (A.begins j)
  new_begins j l = trimmed_agrees.begins_same j l ∙ trim_begins A o j

  pub trimming : Trimming w
  unfolding trimmed
  trimming =
      let s : 0 < A.size = (fitting w e).some_cell in
      let inside : (c : ℕ) → Reached A o c → c < A.size = λ c r. reached_inside A o s r in
      record {
        right = trimmed_checked;
        cells = written_cells (trim A o) a o fits ∙ trim_size A o;
        words = card_long (trim A o) a o ∙ ap (λ (m : ℕ). card_length m o) (trim_size A o);
        actions = trimmed_actions;
        observations = trimmed_observations;
        set_same = λ c r. new_set c (inside c r) (all_found A o s r);
        action_same = λ c r. new_action c (inside c r) (all_found A o s r);
        begins_same = new_begins;
        next_same = λ c j r l. new_next c (inside c r) (all_found A o s r) j l;
      }
