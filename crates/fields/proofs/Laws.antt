-- What read and write answer, as the code has it.
-- Assumes nothing.
use mathlib.Core.Path.{◌≡◌, refl, sym, ap, subst, ◌∙◌}
use mathlib.Core.Logic.{⊎_elim}
use mathlib.Core.Bool.{Bool, true, false, cond, not, ◌&&◌}
use mathlib.Core.List.{List}
use Prim.Native.Nat.{ℕ, ◌+◌, ◌-◌, ◌*◌, ◌^◌, ◌≤◌, ◌<◌, zero-le}
use native.Mathlib.Nat.{mod-eq_of_lt}
use native.Mathlib.Omega.{arith}
use borrow.Author.Tests.{leb-false, eq-eqb, ne_eqb, lt-ltb, le-ltb, le-leb, lt-leb, not-false}
use lib.Dec.{eqb, ltb}
use lib.ListN.{length, get_or, drop, length-drop}
use lib.Pow.{pow_mono}
use Rattle.sets.specs.Bounded.{first, nothing, filled_by}
use Rattle.std.specs.Bool.{MatchBool}
use Rattle.std.specs.List.{AllWithin, HoldsAt}
use Rattle.std.proofs.lemmas.List.{get_or-drop}
use Rattle.sets.proofs.Logic.{lt_or_le, and_intro, and_false_right, or_left, or_right, or_false_intro}
use Rattle.sets.proofs.Bounded.{all_intro, all_refuted, first_zero, first_skip, first_stop, first_nothing}
use Rattle.games.specs.Answers.{Checked, unless, leaves}
use Rattle.games.specs.Format.{max_states, max_observations, max_moves}
use Rattle.games.specs.Fields.{low_field}
use Rattle.games.specs.Places.{move, place_of, place_at, Within, Limited}
use Rattle.games.specs.declared.State.{State}
use Rattle.games.specs.declared.Action.{Action}
use Rattle.games.specs.declared.Observation.{Observation}
use Rattle.games.specs.declared.Shape.{Shape}
use Rattle.games.specs.declared.Place.{Place}
use Rattle.games.specs.declared.Place.TheVariants.{Shown, Move}
use Rattle.games.specs.Answers.{refused}
use Rattle.games.proofs.Answers.{never, cond_passed, found_none, then_fine}
use Rattle.games.proofs.Limits.{moves_below}
use Rattle.games.proofs.Places.{place_within, place_from, place_below, place_there}
use Rattle.tables.specs.Layout.{head_word, bare_word}
use Rattle.tables.specs.Check.{limits_hold, too_wide, sets_checked, parked_checked, parked_from, checked}
use Rattle.tables.specs.Fields.{fields_shape, fields_of, field_at, game_of}
use Rattle.tables.specs.declared.Fields.{Fields}
use Rattle.tables.proofs.Bounds.{slot_inside}
use Rattle.tables.proofs.Checks.{limits_hold_lem, by_words}
use Rattle.fields.specs.Read.{read_of}
use Rattle.fields.specs.Write.{mask_of, words_length, slot_clean, unused_zero, slots_clean, wide_at, slots_checked, masks_checked, fields_checked, word_at, written_to, write_of}
use Rattle.games.specs.declared.Refusal.{Refusal}
use Rattle.games.specs.declared.Reason.TheVariants as reason
use Rattle.std.specs.Prelude.{Result, Ok, Err}

-- what was read, and of which table
read_ok : (c : Checked) (r f : Fields) → ◌≡◌ {A = Result Fields Refusal} (unless c Err (Ok r)) (Ok f) → (c ≡ Ok tt) × (f ≡ r)
read_ok (Ok tt) r f e = (refl, cc)
read_ok (Err stop) r f e = absurd (cc)

pub read_passed : (w : List ℕ) (f : Fields) → read_of w ≡ Ok f → (checked w ≡ Ok tt) × (f ≡ fields_of w)
unfolding read_of
read_passed w f e = read_ok (checked w) (fields_of w) f e

pub read_fine : (w : List ℕ) (f : Fields) → checked w ≡ Ok tt → f ≡ fields_of w → Ok f ≡ read_of w
unfolding read_of
read_fine w f e g = rw (e, g)

-- ---- the slots of the sets that the table has

-- s is what the code has of the fields' numbers
module _ (f : Fields) (l : Limited (fields_shape f)) (p : ℕ) (first : 1 ≤ p) (last : p < words_length f) (s : Shape) (same : s ≡ fields_shape f) where
  there : (x : Place) → place_at s p ≡ x → Within (fields_shape f) x
  there x e = subst (Within (fields_shape f)) (ap (λ (t : Shape). place_at t p) (sym same) ∙ e) (place_within (fields_shape f) p l.some_state last first)

  pub shown_slot : (j : Observation) → place_at s p ≡ Shown j → j.0 < max_observations
  shown_slot j e = let k = there (Shown j) e in omega arith

  pub move_slot : (a : Action) (i : State) → place_at s p ≡ Move a i → a.0 * f.states + i.0 < max_moves
  move_slot a i e = let k = there (Move a i) e in slot_inside f a.0 i.0 l k.0 k.1

-- the moves of numbers within the limits
pub few_moves : (f : Fields) → limits_hold (fields_shape f) ≡ true → f.actions * f.states ≤ max_moves
few_moves f e = let l = limits_hold_lem (fields_shape f) e in moves_below f.actions f.states l.most_actions l.most_states

-- ---- 11

-- what a search from `used` up for a slot that is not 0 finds
pub unused_is : (used : ℕ) (l : List ℕ) (r : Bool)
    → MatchBool r (AllWithin (λ x. x ≡ 0) (drop used l) 0 (length (drop used l))) ((j : ℕ) × (j < length (drop used l)) × HoldsAt (λ x. x ≡ 0 → ⊥) (drop used l) j)
    → r ≡ unused_zero used l
unfolding unused_zero
unused_is used l true f =
    sym (all_intro (length l) (slot_clean used l)
    (λ j k.
    ⊎_elim (λ m. or_left (eqb (get_or l j 0) 0) (lt-ltb j used m))
    (λ m. let e : used + (j - used) ≡ j = omega arith in
    or_right (ltb j used) (eq-eqb (get_or l j 0) 0 (ap (λ (i : ℕ). get_or l i 0) (sym e) ∙ sym (get_or-drop used l (j - used) 0) ∙ f (j - used) 0 zero-le (omega (arith, length-drop used l)))))
    (lt_or_le j used)))
unused_is used l false w =
    sym (all_refuted (length l) (slot_clean used l) (used + w.0) (omega (arith, length-drop used l, w.1))
    (or_false_intro (le-ltb (used + w.0) used (omega arith)) (ne_eqb (get_or l (used + w.0) 0) 0 (λ e. w.2 0 (get_or-drop used l w.0 0 ∙ e)))))

module _ (f : Fields) where
  -- ---- 5

  pub masks_none : first 1 (wide_at f) ≡ nothing
  unfolding wide_at
  masks_none = first_skip 0 (wide_at f) (first_zero (wide_at f)) refl

  pub wide_at_lem : (p : ℕ) → 1 ≤ p → 2 ^ f.states ≤ mask_of f p → wide_at f p ≡ true
  unfolding wide_at
  wide_at_lem p l e = and_intro (lt-ltb 0 p l) (le-leb (2 ^ f.states) (mask_of f p) e)

  pub narrow_at : (p : ℕ) → mask_of f p < 2 ^ f.states → wide_at f p ≡ false
  unfolding wide_at
  narrow_at p e = and_false_right (ltb 0 p) (lt-leb (2 ^ f.states) (mask_of f p) e)

  pub masks_wide : (p : ℕ) → p < words_length f → first p (wide_at f) ≡ nothing → wide_at f p ≡ true → masks_checked f ≡ refused reason.StateBeyond p
  unfolding masks_checked
  masks_wide p l e t = rw (first_stop (words_length f) (wide_at f) p l e t)

  pub masks_fine : first (words_length f) (wide_at f) ≡ nothing → masks_checked f ≡ Ok tt
  unfolding masks_checked
  masks_fine e = rw e

  pub mask_low : masks_checked f ≡ Ok tt → (p : ℕ) → 1 ≤ p → p < words_length f → mask_of f p < 2 ^ f.states
  unfolding masks_checked wide_at
  mask_low e p l k =
      let none = found_none (first (words_length f) (wide_at f)) (λ p. refused reason.StateBeyond p) (λ p h. never reason.StateBeyond p h) e in
      let wide : (ltb 0 p && too_wide f.states (mask_of f p)) ≡ false = first_nothing (words_length f) (wide_at f) none p k in
      leb-false (2 ^ f.states) (mask_of f p) (rw (lt-ltb 0 p l) at wide)

  -- a move's mask is as it stands, without a kind
  pub move_low : Limited (fields_shape f) → masks_checked f ≡ Ok tt → (a i : ℕ) → a < f.actions → i < f.states → low_field (get_or f.moves (0 + (a * f.states + i)) 0) ≡ get_or f.moves (a * f.states + i) 0
  move_low l e a i p q =
      let s = fields_shape f in
      let x = move a i in
      let at = place_there s x (p, q) in
      let low : field_at f (place_at s (place_of s x)) < 2 ^ f.states = mask_low e (place_of s x) (place_from s x) (place_below s x (p, q)) in
      let mask : get_or f.moves (a * f.states + i) 0 < 2 ^ f.states = rw at at low in
      let slot : 0 + (a * f.states + i) ≡ a * f.states + i = omega arith in
      ap (λ (j : ℕ). low_field (get_or f.moves j 0)) slot ∙ mod-eq_of_lt (omega (arith, mask, pow_mono {j = max_states} l.most_states))

  -- the moves as the code has them
  pub moves_parked : Limited (fields_shape f) → masks_checked f ≡ Ok tt → (s : Shape) → s ≡ fields_shape f → parked_from f.moves 0 s f.parked ≡ parked_checked (game_of f)
  unfolding game_of
  moves_parked l e s same =
      ap (λ (t : Shape). parked_from f.moves 0 t f.parked) same
      ∙ by_words (game_of f) f.moves 0 (fields_shape f) refl refl (move_low l e)

  -- ---- 2 and 11

  module _ (within : limits_hold (fields_shape f) ≡ true) where
    pub slots_fine : slots_clean f ≡ true → slots_checked f ≡ Ok tt
    unfolding slots_checked
    slots_fine e = rw (within, e)

  pub slots_passed : slots_checked f ≡ Ok tt → (limits_hold (fields_shape f) ≡ true) × (slots_clean f ≡ true)
  unfolding slots_checked
  slots_passed e =
      let within = limits_hold (fields_shape f) in
      let a = cond_passed (not within) reason.BadHead 0 (cond (not (slots_clean f)) (refused reason.SlotUsed 0) (Ok tt)) e in
      let b = cond_passed (not (slots_clean f)) reason.SlotUsed 0 (Ok tt) a.1 in
      (not-false within a.0, not-false (slots_clean f) b.0)

  pub slots_limited : slots_checked f ≡ Ok tt → Limited (fields_shape f)
  slots_limited e = limits_hold_lem (fields_shape f) (slots_passed e).0

  -- ---- one after the other

  module _ (slots : slots_checked f ≡ Ok tt) (masks : masks_checked f ≡ Ok tt) where
    pub parked_end : sets_checked (game_of f) ≡ Ok tt → fields_checked f ≡ parked_checked (game_of f)
    unfolding fields_checked
    parked_end e = rw (slots, masks, e)

  pub fields_passed : fields_checked f ≡ Ok tt → (slots_checked f ≡ Ok tt) × (masks_checked f ≡ Ok tt) × (sets_checked (game_of f) ≡ Ok tt) × (parked_checked (game_of f) ≡ Ok tt)
  unfolding fields_checked
  fields_passed e =
      let sets = unless (sets_checked (game_of f)) Err (parked_checked (game_of f)) in
      let a = then_fine (slots_checked f) (unless (masks_checked f) Err sets) e in
      let d = then_fine (masks_checked f) sets a.1 in
      let h = then_fine (sets_checked (game_of f)) (parked_checked (game_of f)) d.1 in
      (a.0, d.0, h.0, h.1)

  pub write_refused : (e : Refusal) (d : List ℕ) → fields_checked f ≡ Err e → leaves (Err e) d ≡ write_of f d
  unfolding write_of
  write_refused e d stop = rw stop

  pub write_fine : (d : List ℕ) → fields_checked f ≡ Ok tt → write_of f d ≡ written_to f d
  unfolding write_of
  write_fine d e = rw e

  -- ---- the words

  pub word_head : (p : ℕ) → p ≡ 0 → word_at f p ≡ head_word (fields_shape f)
  unfolding word_at
  word_head p e = rw (eq-eqb p 0 e)

  pub word_place : (p : ℕ) → (p ≡ 0 → ⊥) → word_at f p ≡ bare_word (place_at (fields_shape f) p) + mask_of f p
  unfolding word_at
  word_place p e = rw (ne_eqb p 0 e)

  pub written_full : (d : List ℕ) → words_length f ≤ length d → written_to f d ≡ leaves (Ok (words_length f)) (filled_by (words_length f) (word_at f) d)
  unfolding written_to
  written_full d l = rw (le-ltb (length d) (words_length f) l)

  pub written_short : (d : List ℕ) → length d < words_length f → written_to f d ≡ leaves (refused reason.ShortTable (words_length f)) d
  unfolding written_to
  written_short d l = rw (lt-ltb (length d) (words_length f) l)

  -- as the code has it
  pub written_none : (d : List ℕ) (words : ℕ) → words ≡ words_length f → length d < words → leaves (refused reason.ShortTable words) d ≡ written_to f d
  written_none d words e l = rw e (sym (written_short d (rw e at l)))

  pub written_done : (d out : List ℕ) (words : ℕ) → words ≡ words_length f → words ≤ length d → out ≡ filled_by words (word_at f) d → leaves (Ok words) out ≡ written_to f d
  written_done d out words e l h =
      let k : out ≡ filled_by (words_length f) (word_at f) d = h ∙ ap (λ (n : ℕ). filled_by n (word_at f) d) e in
      rw (e, k) (sym (written_full d (rw e at l)))
