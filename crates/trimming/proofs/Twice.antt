-- Every cell of a trimmed card is reached, so trimming it again changes nothing.
-- Assumes nothing.
use mathlib.Core.Path.{◌≡◌, refl, sym, ap, ◌∙◌, subst}
use mathlib.Core.Logic.{⊎_elim}
use mathlib.Core.Bool.{true}
use mathlib.Core.List.{List}
use Prim.Native.Nat.{ℕ, ◌<◌}
use native.Mathlib.Omega.{arith}
use lib.ListN.{length, get_or}
use Rattle.sets.specs.Bounded.{count}
use Rattle.sets.proofs.Bounded.{count_zero, count_all, count_same}
use Rattle.games.specs.Automaton.{Automaton}
use Rattle.cards.specs.Card.{card_actions, card_observations, automaton, checked, Named, Fitting}
use Rattle.cards.proofs.Checked.{fitting}
use Rattle.cards.proofs.Written.{Agree, same_words, words_back}
use Rattle.trimming.specs.Reach.{Names, Reached, by_first, by_next, alone}
use Rattle.trimming.specs.Trim.{reached, kept, renumbered, trim, trimmed}
use Rattle.trimming.proofs.Reaching.{reached_inside, all_found, just_found}
use Rattle.trimming.proofs.Numbers.{new_none, new_count, kept_length, old_in, old_new, new_old}
use Rattle.trimming.proofs.Trimmed.{trim_size, trim_begins, trim_set, trim_action, trim_next, trimmed_checked, trimmed_actions, trimmed_observations, trimmed_agrees, new_inside, new_next, new_begins}
use Rattle.std.specs.Prelude.{Ok}

-- ---- an automaton whose cells are all reached

module _ (A : Automaton) (a o : ℕ) (F : Fitting A a o) (every : (c : ℕ) → c < A.size → reached A o c ≡ true) where
  same_number : (c : ℕ) → Named A c → renumbered A o c ≡ c
  same_number c n =
      ⊎_elim (λ l. new_count A o F.cells c l ∙ count_all c (reached A o) (λ i k. every i (omega arith))) (λ z. new_none A o c z ∙ sym z) n

  all_long : (trim A o).size ≡ A.size
  all_long = trim_size A o ∙ kept_length A o ∙ count_all A.size (reached A o) every

  module _ (i : ℕ) (l : i < (trim A o).size) where
    here : i < A.size
    here = subst (λ (n : ℕ). i < n) all_long l

    same_place : get_or (kept A o) i 0 ≡ i
    same_place =
        ap (λ (d : ℕ). get_or (kept A o) d 0) (sym (new_count A o F.cells i here ∙ count_all i (reached A o) (λ d k. every d (omega (arith, here)))))
        ∙ old_new A o F.cells i here (every i here)

  pub full_agrees : Agree (trim A o) A o
  full_agrees =
      record {
        size_same = all_long;
        set_same = λ i l. trim_set A o i ∙ ap A.set (same_place i l);
        action_same = λ i l. trim_action A o i ∙ ap A.action (same_place i l);
        begins_same = λ j l. trim_begins A o j ∙ same_number (A.begins j) (F.begins_named j l);
        next_same = λ i j l k.
            trim_next A o i j ∙ ap (λ (c : ℕ). renumbered A o (A.next c j)) (same_place i l) ∙ same_number (A.next i j) (F.next_named i j (here i l) k);
      }

-- a card whose cells are all kept stays as it is
pub full_trimmed : (w : List ℕ) → checked w ≡ Ok tt → length (kept (automaton w) (card_observations w)) ≡ (automaton w).size → trimmed w ≡ w
unfolding trimmed
full_trimmed w e all =
    let A = automaton w in
    let o = card_observations w in
    let full : count A.size (reached A o) ≡ count A.size (λ c. true) = sym (kept_length A o) ∙ all ∙ sym (count_all A.size (λ c. true) (λ c l. refl)) in
    same_words (trim A o) A o (full_agrees A (card_actions w) o (fitting w e) (count_same A.size (reached A o) (λ c. true) (λ c l h. refl) full)) (card_actions w)
    ∙ words_back w e

-- ---- the cells of a trimmed card

module _ (w : List ℕ) (e : checked w ≡ Ok tt) where
  abbrev A : Automaton
  A = automaton w

  abbrev B : Automaton
  B = automaton (trimmed w)

  abbrev o : ℕ
  o = card_observations w

  some : 0 < A.size
  some = (fitting w e).some_cell

  F : Fitting B (card_actions w) o
  F = subst (λ (n : ℕ). Fitting B n o) (trimmed_actions w e) (subst (Fitting B (card_actions (trimmed w))) (trimmed_observations w e) (fitting (trimmed w) (trimmed_checked w e)))

  inside_new : (c : ℕ) → Reached A o c → Names B (renumbered A o c)
  inside_new c r = new_inside w e c (reached_inside A o some r) (all_found A o some r)

  -- no first word names a cell: none does in the trimmed card
  none_named : ((j : ℕ) → j < o → Names A (A.begins j) → ⊥) → (j : ℕ) → j < o → Names B (B.begins j) → ⊥
  none_named h j l n =
      ⊎_elim (λ b. h j l b) (λ z. omega (arith, n, F.cells, new_begins w e j l ∙ new_none A o (A.begins j) z)) ((fitting w e).begins_named j l)

  -- what a reached cell became is reached
  pub new_reached : {c : ℕ} → Reached A o c → Reached B o (renumbered A o c)
  new_reached {c} (by_first j l f n) = by_first j l (new_begins w e j l ∙ ap (renumbered A o) f) (inside_new c (by_first j l f n))
  new_reached {c} (by_next d j r l f n) =
      by_next (renumbered A o d) j (new_reached r) l
      (new_next w e d (reached_inside A o some r) (all_found A o some r) j l ∙ ap (renumbered A o) f) (inside_new c (by_next d j r l f n))
  new_reached {c} (alone f h) =
      alone (new_count A o (fitting w e).cells c (omega (arith, some)) ∙ ap (λ (n : ℕ). count n (reached A o)) f ∙ count_zero (reached A o)) (none_named h)

  pub all_reached : (i : ℕ) → i < B.size → reached B o i ≡ true
  all_reached i l =
      let k : i < length (kept A o) = subst (λ (n : ℕ). i < n) ((trimmed_agrees w e).size_same ∙ trim_size A o) l in
      let c = old_in A o i k in
      subst (λ (n : ℕ). reached B o n ≡ true) (new_old A o (fitting w e).cells i k)
      (all_found B o F.some_cell (new_reached (just_found A o (get_or (kept A o) i 0) c.0 c.1)))

  pub twice : trimmed (trimmed w) ≡ trimmed w
  twice =
      full_trimmed (trimmed w) (trimmed_checked w e)
      (ap (λ (n : ℕ). length (kept B n)) (trimmed_observations w e) ∙ kept_length B o ∙ count_all B.size (reached B o) all_reached)
