-- A card and the card that its text reads as run alike, on every list of numbers; where each cell is led to, the latter has just the sets
-- of the former emptied.
-- Assumes nothing.
use mathlib.Core.Path.{◌≡◌, refl, sym, ap, subst, ◌∙◌}
use mathlib.Core.Logic.{⊎_elim}
use mathlib.Core.Bool.{Bool, true, false, cond, not}
use mathlib.Core.List.{List, [], ◌∷◌}
use Prim.Native.Nat.{ℕ, ◌<◌}
use native.Mathlib.Omega.{arith}
use borrow.Author.Tests.{not-false}
use Rattle.sets.specs.Bounded.{nothing, any}
use Rattle.sets.proofs.Logic.{lt_or_le, or_left, or_right, true_not}
use Rattle.sets.proofs.Bounded.{any_intro, first_nothing, first_none}
use Rattle.games.specs.Format.{max_sets}
use Rattle.games.specs.Automaton.{Automaton, no_cell}
use Rattle.cards.specs.Run.{Move}
use Rattle.cards.specs.Card.{automaton, card_cells, card_actions, card_observations, checked, Named, Fitting}
use Rattle.cards.specs.Run.{enters, begun, followed, opened, stepped, moved, ran_from, ran}
use Rattle.cards.proofs.Checked.{fitting}
use Rattle.cards.proofs.Written.{Agree, same_words, written_checked, written_agrees, written_observations}
use Rattle.cards.proofs.Running.{size_of, cannot_occur, enters_cell, begun_late, begun_enters, followed_outside, followed_late, followed_enters, opened_fine, stepped_fine}
use Rattle.trimming.specs.Trim.{first_names, next_names}
use Rattle.trimming.proofs.Reaching.{first_names_lem, next_names_lem}
use Rattle.kiss.specs.Idle.{Led, at_first, later, led, idle}
use Rattle.kiss.specs.Legible.{named, legible, legible_card, empty_sets, emptied}
use Rattle.kiss.proofs.Idling.{led_sound, led_complete}
use Rattle.std.specs.Prelude.{Ok, Err}

-- ---- the cells that lines enter

module _ (A : Automaton) (o : ℕ) where
  pub named_first : (c j : ℕ) → j < o → A.begins j ≡ c → named A o c ≡ true
  unfolding named
  named_first c j l e = or_left (any A.size (λ d. next_names A o d c)) (first_names_lem A o c j l e)

  pub named_next : (c d j : ℕ) → d < A.size → j < o → A.next d j ≡ c → named A o c ≡ true
  unfolding named
  named_next c d j b l e = or_right (first_names A o c) (any_intro A.size (λ i. next_names A o i c) d b (next_names_lem A o d c j l e))

  led_inside : {c : ℕ} → Led A o c → c < A.size
  led_inside (at_first j l e n) = n
  led_inside (later d j r l e n) = n

  led_named : {c : ℕ} → Led A o c → named A o c ≡ true
  led_named {c} (at_first j l e n) = named_first c j l e
  led_named {c} (later d j r l e n) = named_next c d j (led_inside r) l e

  legible_set : (c : ℕ) → named A o c ≡ true → (legible A o).set c ≡ 0
  unfolding legible
  legible_set c e = rw (e)

  legible_action : (c : ℕ) → named A o c ≡ true → (legible A o).action c ≡ A.action c
  unfolding legible
  legible_action c e = rw (e)

  module _ (a : ℕ) (F : Fitting A a o) where
    some_set : (b : Bool) → cond b 0 1 < max_sets
    some_set true = omega arith
    some_set false = omega arith

    some_action : (b : Bool) (x : ℕ) → x < a → cond b x 0 < a
    some_action true x l = l
    some_action false x l = omega (arith, F.some_action)

    pub legible_fits : Fitting (legible A o) a o
    unfolding legible
    legible_fits =
        record {
          some_cell = F.some_cell;
          cells = F.cells;
          some_action = F.some_action;
          actions = F.actions;
          some_observation = F.some_observation;
          observations = F.observations;
          set_below = λ c l. some_set (named A o c);
          action_below = λ c l. some_action (named A o c) (A.action c) (F.action_below c l);
          begins_named = F.begins_named;
          next_named = F.next_named;
        }

-- ---- they run alike

module _ (w : List ℕ) (e : checked w ≡ Ok tt) where
  abbrev A : Automaton
  A = automaton w

  abbrev o : ℕ
  o = card_observations w

  abbrev x : List ℕ
  x = legible_card w

  abbrev B : Automaton
  B = automaton (legible_card w)

  fits : Fitting (legible A o) (card_actions w) o
  fits = legible_fits A o (card_actions w) (fitting w e)

  pub legible_checked : checked (legible_card w) ≡ Ok tt
  unfolding legible_card
  legible_checked = written_checked (legible A o) (card_actions w) o fits

  seen : card_observations (legible_card w) ≡ o
  unfolding legible_card
  seen = written_observations (legible A o) (card_actions w) o fits

  agrees : Agree B (legible A o) o
  unfolding legible_card
  agrees = written_agrees (legible A o) (card_actions w) o fits

  size_same : B.size ≡ A.size
  unfolding legible
  size_same = agrees.size_same

  begins_same : (j : ℕ) → j < o → B.begins j ≡ A.begins j
  unfolding legible
  begins_same j l = agrees.begins_same j l

  next_same : (c j : ℕ) → c < A.size → j < o → B.next c j ≡ A.next c j
  unfolding legible
  next_same c j b l = agrees.next_same c j (omega (arith, size_same)) l

  action_same : (c : ℕ) → c < A.size → named A o c ≡ true → B.action c ≡ A.action c
  action_same c b n = agrees.action_same c (omega (arith, size_same)) ∙ legible_action A o c n

  enters_same : (c d j : ℕ) → Named A c → (c < A.size → named A o c ≡ true) → d ≡ c → enters B d j ≡ enters A c j
  enters_same c d j n h f =
      ⊎_elim
      (λ l.
      let some : c ≡ no_cell → ⊥ = λ z. omega (arith, (fitting w e).cells) in
      enters_cell B o d j (λ z. some (sym f ∙ z)) ∙ rw (f, action_same c l (h l)) (sym (enters_cell A o c j some)))
      (λ z. cannot_occur B o d j (f ∙ z) ∙ sym (cannot_occur A o c j z))
      n

  opened_same : (j : ℕ) → opened (legible_card w) j ≡ opened w j
  opened_same j =
      let one : opened (legible_card w) j ≡ begun B o j = opened_fine (legible_card w) j legible_checked ∙ ap (λ (n : ℕ). begun B n j) seen in
      let two = opened_fine w j e in
      one
      ∙ ⊎_elim
      (λ l. begun_enters B o j l ∙ enters_same (A.begins j) (B.begins j) j ((fitting w e).begins_named j l) (λ b. named_first A o (A.begins j) j l refl) (begins_same j l) ∙ sym (begun_enters A o j l))
      (λ l. begun_late B o j l ∙ sym (begun_late A o j l))
      (lt_or_le j o)
      ∙ sym two

  stepped_same : (c j : ℕ) → stepped (legible_card w) c j ≡ stepped w c j
  stepped_same c j =
      let one : stepped (legible_card w) c j ≡ followed B o c j = stepped_fine (legible_card w) c j legible_checked ∙ ap (λ (n : ℕ). followed B n c j) seen in
      let two = stepped_fine w c j e in
      one
      ∙ ⊎_elim
      (λ b.
      let b' : c < B.size = omega (arith, size_same) in
      ⊎_elim
      (λ l. followed_enters B o c j b' l
      ∙ enters_same (A.next c j) (B.next c j) j ((fitting w e).next_named c j b l) (λ k. named_next A o (A.next c j) c j b l refl) (next_same c j b l)
      ∙ sym (followed_enters A o c j b l))
      (λ l. followed_late B o c j b' l ∙ sym (followed_late A o c j b l))
      (lt_or_le j o))
      (λ b. followed_outside B o c j (omega (arith, size_same)) ∙ sym (followed_outside A o c j b))
      (lt_or_le c A.size)
      ∙ sym two

  moved_same : (r : Move) (j : ℕ) → moved (legible_card w) r j ≡ moved w r j
  unfolding moved
  moved_same (Ok m) j = stepped_same m.cell.0 j
  moved_same (Err stop) j = refl

  ran_from_same : (h : List ℕ) (r s : Move) → r ≡ s → ran_from (legible_card w) r h ≡ ran_from w s h
  unfolding ran_from
  ran_from_same [] r s p = p
  ran_from_same (j ∷ h) r s p = ran_from_same h (moved (legible_card w) r j) (moved w s j) (moved_same r j ∙ ap (λ (m : Move). moved w m j) p)

  -- the same move on every list: the cell entered and its action, or the refusal with its place
  pub ran_same : (h : List ℕ) → ran (legible_card w) h ≡ ran w h
  unfolding ran
  ran_same [] = stepped_same no_cell 0
  ran_same (j ∷ h) = ran_from_same h (opened (legible_card w) j) (opened w j) (opened_same j)

  -- ---- where each cell is led to

  pub every_led : idle w ≡ nothing → (c : ℕ) → c < A.size → Led A o c
  unfolding idle
  every_led i c l =
      led_sound A o c l (not-false (led A o c) (first_nothing (card_cells w) (λ d. not (led A o d)) i c (omega (arith, size_of w))))

  pub legible_emptied : idle w ≡ nothing → legible_card w ≡ emptied w
  unfolding legible_card emptied legible empty_sets
  legible_emptied i =
      same_words (legible A o) (empty_sets A) o
      (record {
        size_same = refl;
        set_same = λ c l. legible_set A o c (led_named A o (every_led i c l));
        action_same = λ c l. legible_action A o c (led_named A o (every_led i c l));
        begins_same = λ j l. refl;
        next_same = λ c j l k. refl;
      })
      (card_actions w)

  led_same : {c : ℕ} → Led A o c → Led B o c
  led_same (at_first j l f n) = at_first j l (begins_same j l ∙ f) (omega (arith, size_same))
  led_same (later d j r l f n) = later d j (led_same r) l (next_same d j (led_inside A o r) l ∙ f) (omega (arith, size_same))

  pub legible_idle : idle w ≡ nothing → idle (legible_card w) ≡ nothing
  unfolding idle
  legible_idle i =
      first_none (card_cells (legible_card w)) (λ c. not (led B (card_observations (legible_card w)) c))
      (λ c l.
      let b : c < A.size = omega (arith, size_same, size_of (legible_card w)) in
      true_not (subst (λ (n : ℕ). led B n c ≡ true) (sym seen) (led_complete B o c (led_same (every_led i c b)))))
