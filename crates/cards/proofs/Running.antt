-- Laws of the run: each move by its case, and what a card's automaton is.
-- Assumes nothing.
use Rattle.std.proofs.Common.{◌≡◌, ℕ, ◌<◌, ◌≤◌, List, get_or, sym, refl, ap, ◌∙◌, subst, ⊎_elim, eq-eqb, ne_eqb, le-leb, arith}
use borrow.Author.Tests.{lt-leb}
use Rattle.games.specs.Automaton.{Automaton, no_cell}
use Rattle.games.specs.Fields.{low_field, action_field}
use Rattle.games.specs.Answers.{refused}
use Rattle.cards.specs.Card.{first_place, cell_place, next_place, card_cells, card_observations, automaton, checked, Named}
use Rattle.cards.specs.Run.{as_cell, led, enters_if, entered, enters, begun, followed, opened, stepped}
use Rattle.cards.proofs.Checked.{fitting}
use Rattle.games.specs.declared.Reason.TheVariants as reason
use Rattle.games.specs.declared.Cell.{Cell}
use Rattle.std.specs.Option.{ForSome}
use Rattle.std.specs.Prelude.{Ok, Option, None, Some}

-- the fields of a card's automaton
module _ (w : List ℕ) where
  pub size_of : (automaton w).size ≡ card_cells w
  unfolding automaton
  size_of = refl

  pub set_of_lem : (c : ℕ) → (automaton w).set c ≡ low_field (get_or w (cell_place (card_observations w) c) 0)
  unfolding automaton
  set_of_lem c = refl

  pub action_of_lem : (c : ℕ) → (automaton w).action c ≡ action_field (get_or w (cell_place (card_observations w) c) 0)
  unfolding automaton
  action_of_lem c = refl

  pub begins_of : (j : ℕ) → (automaton w).begins j ≡ low_field (get_or w (first_place j) 0)
  unfolding automaton
  begins_of j = refl

  pub next_of : (c j : ℕ) → (automaton w).next c j ≡ low_field (get_or w (next_place (card_observations w) c j) 0)
  unfolding automaton
  next_of c j = refl

-- a cell that is named, and is not none, is one of the automaton's
pub named_cell : (A : Automaton) (c : ℕ) → Named A c → (c ≡ no_cell → ⊥) → c < A.size
named_cell A c h n = ⊎_elim (λ l. l) (λ e. absurd (n e)) h

-- a move, by its case
module _ (A : Automaton) (o : ℕ) where
  pub cannot_occur : (c j : ℕ) → c ≡ no_cell → enters A c j ≡ refused reason.CannotOccur j
  unfolding enters
  cannot_occur c j e = rw (enters, eq-eqb c no_cell e)

  pub enters_cell : (c j : ℕ) → (c ≡ no_cell → ⊥) → enters A c j ≡ entered c (A.action c)
  unfolding enters
  enters_cell c j n = rw (enters, ne_eqb c no_cell n)

  pub begun_late : (j : ℕ) → o ≤ j → begun A o j ≡ refused reason.NumberBeyond j
  unfolding begun
  begun_late j l = rw (begun, le-leb o j l)

  pub begun_enters : (j : ℕ) → j < o → begun A o j ≡ enters A (A.begins j) j
  unfolding begun
  begun_enters j l = rw (begun, lt-leb o j l)

  pub followed_outside : (c j : ℕ) → A.size ≤ c → followed A o c j ≡ refused reason.NumberBeyond c
  unfolding followed
  followed_outside c j l = rw (followed, le-leb A.size c l)

  pub followed_late : (c j : ℕ) → c < A.size → o ≤ j → followed A o c j ≡ refused reason.NumberBeyond j
  unfolding followed
  followed_late c j k l = rw (followed, lt-leb A.size c k, le-leb o j l)

  pub followed_enters : (c j : ℕ) → c < A.size → j < o → followed A o c j ≡ enters A (A.next c j) j
  unfolding followed
  followed_enters c j k l = rw (followed, lt-leb A.size c k, lt-leb o j l)

-- what a number names: the cell, where it is one
pub led_some : (c : ℕ) (d : Cell) → led c ≡ Some d → (c ≡ no_cell → ⊥) × (d ≡ as_cell c)
led_some c d e = grind arith

pub led_none : (c : ℕ) → led c ≡ None → c ≡ no_cell
led_none c e = grind arith

pub enters_led : (A : Automaton) (c j : ℕ) → enters_if A (led c) j ≡ enters A c j
unfolding enters
enters_led A c j = grind arith

-- opening and stepping on a checked card, by its automaton; and on words that are none
pub opened_fine : (w : List ℕ) (j : ℕ) → checked w ≡ Ok tt → opened w j ≡ begun (automaton w) (card_observations w) j
unfolding opened
opened_fine w j e = rw (opened, e)

pub stepped_fine : (w : List ℕ) (c j : ℕ) → checked w ≡ Ok tt → stepped w c j ≡ followed (automaton w) (card_observations w) c j
unfolding stepped
stepped_fine w c j e = rw (stepped, e)

-- what the functions over a checked card read; p is the place that the code has of a cell's own word
module _ (w : List ℕ) (e : checked w ≡ Ok tt) where
  -- a cell that is named, and is not none, by the number of the head
  pub cell_below : (c : ℕ) → Named (automaton w) c → (c ≡ no_cell → ⊥) → c < card_cells w
  cell_below c h n = subst (λ (i : ℕ). c < i) (size_of w) (named_cell (automaton w) c h n)

  -- the cell that a word of the card leads to is one of its cells
  led_below : (c : ℕ) (x : Option Cell) → Named (automaton w) c → x ≡ led c → ForSome x (λ d. d.0 < card_cells w)
  led_below c x h f d g =
      let some = led_some c d (sym f ∙ g) in
      subst (λ (y : Cell). y.0 < card_cells w) (sym some.1) (cell_below c h some.0)

  pub begins_led : (j : ℕ) (x : Option Cell) → j < card_observations w → x ≡ led ((automaton w).begins j) → ForSome x (λ d. d.0 < card_cells w)
  begins_led j x l f = led_below ((automaton w).begins j) x ((fitting w e).begins_named j l) f

  pub next_led : (c j : ℕ) (x : Option Cell) → c < card_cells w → j < card_observations w → x ≡ led ((automaton w).next c j)
      → ForSome x (λ d. d.0 < card_cells w)
  next_led c j x l k f = led_below ((automaton w).next c j) x ((fitting w e).next_named c j (subst (λ (n : ℕ). c < n) (sym (size_of w)) l) k) f

-- the moves of a checked card, by what the code read
module _ (w : List ℕ) where
  pub begun_led : (j : ℕ) (x : Option Cell) → j < card_observations w → x ≡ led ((automaton w).begins j)
      → enters_if (automaton w) x j ≡ begun (automaton w) (card_observations w) j
  begun_led j x l f =
      ap (λ (y : Option Cell). enters_if (automaton w) y j) f ∙ enters_led (automaton w) _ j ∙ sym (begun_enters (automaton w) (card_observations w) j l)

  pub outside_told : (c j : ℕ) → card_cells w ≤ c → refused reason.NumberBeyond c ≡ followed (automaton w) (card_observations w) c j
  outside_told c j l = sym (followed_outside (automaton w) (card_observations w) c j (subst (λ (n : ℕ). n ≤ c) (sym (size_of w)) l))

  module _ (c j : ℕ) (l : c < card_cells w) where
    pub late_told : card_observations w ≤ j → refused reason.NumberBeyond j ≡ followed (automaton w) (card_observations w) c j
    late_told k = sym (followed_late (automaton w) (card_observations w) c j (subst (λ (n : ℕ). c < n) (sym (size_of w)) l) k)

    pub followed_led : (x : Option Cell) → j < card_observations w → x ≡ led ((automaton w).next c j)
        → enters_if (automaton w) x j ≡ followed (automaton w) (card_observations w) c j
    followed_led x k f =
        ap (λ (y : Option Cell). enters_if (automaton w) y j) f
        ∙ enters_led (automaton w) _ j
        ∙ sym (followed_enters (automaton w) (card_observations w) c j (subst (λ (n : ℕ). c < n) (sym (size_of w)) l) k)
