-- The places of a table's words: what stands at a place stands there, and a set that the table has stands at a place of it.
-- Assumes nothing.
use mathlib.Core.Path.{◌≡◌, refl, sym, ap, ap₂, ◌∙◌, subst}
use mathlib.Core.Bool.{true, false}
use mathlib.Core.Logic.{⊎_elim}
use Prim.Native.Nat.{ℕ, suc, ◌+◌, ◌-◌, ◌*◌, ◌/◌, ◌%◌, ◌≤◌, ◌<◌}
use native.Mathlib.Nat.{div-add-mod', mod-lt, mod-eq_of_lt, div-eq_of_lt, div-lt_iff_lt-mul, mul-add-div_right, mul-add-mod_self_right, mul-le-mul_right, suc-mul}
use native.Mathlib.Omega.{arith}
use borrow.Author.Tests.{eq-eqb, ne_eqb, eqb-true, eqb-false, lt-ltb, le-ltb, ltb-true, ltb-false}
use lib.Dec.{eqb, ltb}
use Rattle.sets.proofs.Logic.{decided}
use Rattle.games.specs.Places.{shown, move, start_place, bad_place, parked_place, parked_words, shown_place, moves_place, table_length, place_of, place_at, Within}
use Rattle.games.proofs.Limits.{slot_below}
use Rattle.games.specs.declared.Shape.{Shape}
use Rattle.games.specs.declared.Place.{Place}
use Rattle.games.specs.declared.Place.TheVariants.{Start, Bad, Parked, Shown, Move}

-- a slot of the moves is that of an action and a state
pub slot_within : (s : Shape) (j : ℕ) → 1 ≤ s.states → j < s.actions * s.states → Within s (move (j / s.states) (j % s.states))
slot_within s j some h = ((div-lt_iff_lt-mul {k = s.states} {x = j} {y = s.actions} some).1 h, mod-lt j some)

module _ (s : Shape) where
  -- the parked set has a word where the table marks parked states, and only there
  pub marked_word : s.marked ≡ true → parked_words s ≡ 1
  unfolding parked_words
  marked_word e = rw e

  pub unmarked_word : s.marked ≡ false → parked_words s ≡ 0
  unfolding parked_words
  unmarked_word e = rw e

  pub parked_words_lem : parked_words s ≤ 1
  parked_words_lem = ⊎_elim (λ e. omega (arith, marked_word e)) (λ e. omega (arith, unmarked_word e)) (decided s.marked)

  word_marked : 1 ≤ parked_words s → s.marked ≡ true
  word_marked h = ⊎_elim (λ e. e) (λ e. absurd (omega (arith, unmarked_word e))) (decided s.marked)

module _ (s : Shape) (p : ℕ) where
  -- what stands at a place, one kind after the other
  pub at_start : p ≡ start_place → place_at s p ≡ Start
  unfolding place_at
  at_start e = rw (eq-eqb p 1 e)

  pub at_bad : (p ≡ start_place → ⊥) → p ≡ bad_place → place_at s p ≡ Bad
  unfolding place_at
  at_bad d e = rw (ne_eqb p 1 d, eq-eqb p 2 e)

  pub at_parked : (p ≡ start_place → ⊥) → (p ≡ bad_place → ⊥) → p < shown_place s → place_at s p ≡ Parked
  unfolding place_at
  at_parked d e l = rw (ne_eqb p 1 d, ne_eqb p 2 e, lt-ltb p (shown_place s) l)

  pub at_shown : shown_place s ≤ p → p < moves_place s → place_at s p ≡ shown (p - shown_place s)
  unfolding place_at
  at_shown h l =
      rw (ne_eqb p 1 (λ e. omega arith), ne_eqb p 2 (λ e. omega arith), le-ltb p (shown_place s) h, lt-ltb p (moves_place s) l)

  pub at_move : moves_place s ≤ p → place_at s p ≡ move ((p - moves_place s) / s.states) ((p - moves_place s) % s.states)
  unfolding place_at
  at_move l =
      rw (ne_eqb p 1 (λ e. omega arith), ne_eqb p 2 (λ e. omega arith), le-ltb p (shown_place s) (omega arith), le-ltb p (moves_place s) l)

  -- by its kind
  by_place : (P : Place → Type 0) → (p ≡ start_place → P Start) → (p ≡ bad_place → P Bad) → (p ≡ parked_place → s.marked ≡ true → P Parked) → (shown_place s ≤ p → p < moves_place s → P (shown (p - shown_place s))) → (moves_place s ≤ p → P (move ((p - moves_place s) / s.states) ((p - moves_place s) % s.states))) → 1 ≤ p → P (place_at s p)
  by_place P start bad parked seen moved l =
      let few = parked_words_lem s in
      ⊎_elim (λ b. let e = eqb-true p 1 b in subst P (sym (at_start e)) (start e))
      (λ b. let d = eqb-false p 1 b in
      ⊎_elim (λ b. let e = eqb-true p 2 b in subst P (sym (at_bad d e)) (bad e))
      (λ b. let e = eqb-false p 2 b in
      ⊎_elim (λ b. let h = ltb-true p (shown_place s) b in subst P (sym (at_parked d e h)) (parked (omega arith) (word_marked s (omega arith))))
      (λ b. let f = ltb-false p (shown_place s) b in
      ⊎_elim (λ b. let h = ltb-true p (moves_place s) b in subst P (sym (at_shown f h)) (seen f h))
      (λ b. let h = ltb-false p (moves_place s) b in subst P (sym (at_move h)) (moved h))
      (decided (ltb p (moves_place s))))
      (decided (ltb p (shown_place s))))
      (decided (eqb p 2)))
      (decided (eqb p 1))

  -- what stands at a place stands there
  pub place_back : 1 ≤ p → place_of s (place_at s p) ≡ p
  place_back = by_place (λ x. place_of s x ≡ p) sym sym (λ e m. sym e) (λ a b. omega arith) (λ a. omega (arith, div-add-mod' (p - moves_place s) s.states))

  -- and the table has it
  pub place_within : 1 ≤ s.states → p < table_length s → 1 ≤ p → Within s (place_at s p)
  place_within some inside =
      by_place (Within s) (λ e. tt) (λ e. tt) (λ e m. m) (λ a b. omega arith)
      (λ a. slot_within s (p - moves_place s) some (omega arith))

-- a set that the table has stands at a place from 1 up and below the table's length
pub place_from : (s : Shape) (x : Place) → 1 ≤ place_of s x
place_from s Start = omega arith
place_from s Bad = omega arith
place_from s Parked = omega arith
place_from s (Shown j) = omega arith
place_from s (Move a i) = omega arith

pub place_below : (s : Shape) (x : Place) → Within s x → place_of s x < table_length s
place_below s Start h = omega arith
place_below s Bad h = omega arith
place_below s Parked h = omega (arith, marked_word s h)
place_below s (Shown j) h = omega arith
place_below s (Move a i) h = omega (arith, slot_below a.0 s.actions s.states i.0 h.0 h.1)

-- what stands where a set of the table stands is this set
pub place_there : (s : Shape) (x : Place) → Within s x → place_at s (place_of s x) ≡ x
place_there s Start h = at_start s 1 refl
place_there s Bad h = at_bad s 2 (λ e. omega arith) refl
place_there s Parked h = at_parked s 3 (λ e. omega arith) (λ e. omega arith) (omega (arith, marked_word s h))
place_there s (Shown j) h = at_shown s (shown_place s + j.0) (omega arith) (omega arith) ∙ ap shown (omega arith)
place_there s (Move a i) h =
    let n = s.states in
    let slot : moves_place s + a.0 * n + i.0 - moves_place s ≡ a.0 * n + i.0 = omega arith in
    at_move s (moves_place s + a.0 * n + i.0) (omega arith)
    ∙ ap₂ move
    (ap (λ (k : ℕ). k / n) slot ∙ mul-add-div_right {m = n} (omega (arith, h.1)) a.0 i.0 ∙ omega (arith, div-eq_of_lt h.1))
    (ap (λ (k : ℕ). k % n) slot ∙ mul-add-mod_self_right a.0 n i.0 ∙ mod-eq_of_lt h.1)

-- the observations' sets stand one behind the other, and so do the moves
pub shown_from : (s : Shape) (j : ℕ) → place_of s (shown 0) + j ≡ place_of s (shown j)
shown_from s j = omega arith

pub move_from : (s : Shape) (j : ℕ) → place_of s (move 0 0) + j ≡ place_of s (move (j / s.states) (j % s.states))
move_from s j = omega (arith, div-add-mod' j s.states)

-- a move stands behind the first by its slot
pub move_at : (s : Shape) (a i : ℕ) → place_of s (move 0 0) + (a * s.states + i) ≡ place_of s (move a i)
move_at s a i = omega arith

-- a move's slot is its action's and its state's
pub move_slot : (s : Shape) (a i : ℕ) → place_of s (move ((a * s.states + i) / s.states) ((a * s.states + i) % s.states)) ≡ place_of s (move a i)
move_slot s a i = omega (arith, div-add-mod' (a * s.states + i) s.states)

-- all observations' sets, all moves and an action's moves lie in the table
pub shown_row : (s : Shape) → place_of s (shown 0) + s.observations ≤ table_length s
shown_row s = omega arith

pub moves_row : (s : Shape) → place_of s (move 0 0) + s.actions * s.states ≤ table_length s
moves_row s = omega arith

pub action_row : (s : Shape) (a : ℕ) → a < s.actions → place_of s (move a 0) + s.states ≤ table_length s
action_row s a h =
    let k : suc a * s.states ≤ s.actions * s.states = mul-le-mul_right s.states h in
    omega (arith, suc-mul a s.states)
