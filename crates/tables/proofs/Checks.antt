-- The table checks, one answer after the other, and what `Ok` tells of a table.
-- Assumes nothing.
use mathlib.Core.Path.{◌≡◌, refl, sym, ap, ◌∙◌}
use mathlib.Core.Bool.{Bool, true, false, cond, not, ◌&&◌, ◌||◌}
use mathlib.Core.Logic.{⊎_elim}
use mathlib.Core.List.{List}
use Prim.Native.Nat.{ℕ, zero, suc, ◌+◌, ◌*◌, ◌/◌, ◌^◌, ◌≤◌, ◌<◌}
use native.Mathlib.Omega.{arith}
use borrow.Author.Tests.{eq-eqb, ne_eqb, eqb-true, eqb-false, leb-false, lt-ltb, not-false}
use lib.Dec.{eqb}
use lib.Pow.{pow_pos}
use lib.ListN.{length, get_or}
use Rattle.sets.specs.Bounded.{first, any, Found, nothing, at_found}
use Rattle.sets.proofs.Logic.{decided, and_left, and_right, or_false_left, or_false_right, false_not, true_not}
use Rattle.sets.proofs.Bounded.{first_zero, first_skip, first_stop, first_nothing, first_ext, any_intro, any_found, any_none, any_refuted, any_ext}
use Rattle.sets.specs.Mask.{member}
use Rattle.games.specs.Format.{within, max_states, max_actions, max_observations, head_spare_at}
use Rattle.games.specs.Game.{Game, Shows, Accepted, has_successor}
use Rattle.games.specs.Answers.{unless}
use Rattle.games.specs.Fields.{low_field}
use Rattle.games.specs.Places.{shape_of, shown, move, place_of, place_at, table_length, start_place, Within, Limited}
use Rattle.games.specs.Words.{mask_at, parked_in, game}
use Rattle.games.specs.declared.Shape.{Shape}
use Rattle.games.specs.declared.Place.{Place}
use Rattle.games.specs.declared.Place.TheVariants.{Start, Bad, Parked}
use Rattle.games.specs.Answers.{refused}
use Rattle.games.proofs.Answers.{never, then_fine, cond_fine, cond_passed, found_none}
use Rattle.games.proofs.Limits.{within_low, within_high}
use Rattle.games.proofs.Places.{place_from}
use Rattle.tables.specs.Layout.{shape_in, head_top, bare_word, Sized}
use Rattle.tables.specs.Check.{too_wide, limits_hold, head_right, size_checked, placed, faulty, word_checked, words_checked, unseen, sets_checked, unseen_in, sets_from, departs, parked_checked, goes_on, departs_from, parked_from, checked}
use Rattle.tables.proofs.Bounds.{place_inside}
use Rattle.games.specs.declared.Reason.{Reason}
use Rattle.games.specs.declared.Reason.TheVariants as reason
use Rattle.games.specs.declared.Refusal.{Refusal}
use Rattle.std.specs.Prelude.{Ok, Err}
use Rattle.std.specs.Bool.{MatchBool}

-- ---- 1, 2 and 3

module _ (w : List ℕ) where
  pub size_none : length w ≡ 0 → size_checked w ≡ refused reason.NoWords 0
  unfolding size_checked
  size_none e = rw (eq-eqb (length w) 0 e)

  module _ (some : length w ≡ 0 → ⊥) where
    pub size_head : head_right (get_or w 0 0) ≡ false → size_checked w ≡ refused reason.BadHead 0
    unfolding size_checked
    size_head h = rw (ne_eqb (length w) 0 some, h)

    pub size_long : head_right (get_or w 0 0) ≡ true → (length w ≡ table_length (shape_in w) → ⊥) → size_checked w ≡ refused reason.BadLength (length w)
    unfolding size_checked
    size_long h l = rw (ne_eqb (length w) 0 some, h, ne_eqb (length w) (table_length (shape_in w)) l)

    pub size_fine : head_right (get_or w 0 0) ≡ true → length w ≡ table_length (shape_in w) → size_checked w ≡ Ok tt
    unfolding size_checked
    size_fine h l = rw (ne_eqb (length w) 0 some, h, eq-eqb (length w) (table_length (shape_in w)) l)

-- ---- 4 and 5

-- no word from 1 up was faulty so far
pub words_none : (w : List ℕ) → first 1 (faulty w) ≡ nothing
unfolding faulty
words_none w = first_skip 0 (faulty w) (first_zero (faulty w)) refl

module _ (w : List ℕ) (p : ℕ) (inside : p < length w) (before : first p (faulty w) ≡ nothing) (here : faulty w p ≡ true) where
  pub words_misplaced : placed w p ≡ false → words_checked w ≡ refused reason.Misplaced p
  unfolding words_checked
  words_misplaced e = rw (first_stop (length w) (faulty w) p inside before here, e)

  pub words_wide : placed w p ≡ true → words_checked w ≡ refused reason.StateBeyond p
  unfolding words_checked
  words_wide e = rw (first_stop (length w) (faulty w) p inside before here, e)

-- one word: what it is refused by, and how that decides
module _ (w : List ℕ) (p : ℕ) where
  module _ (from_one : 1 ≤ p) where
    pub word_misplaced : placed w p ≡ false → word_checked w p ≡ refused reason.Misplaced p
    unfolding faulty
    word_misplaced e = rw (lt-ltb 0 p from_one, e)

    module _ (here : placed w p ≡ true) where
      pub word_wide : too_wide (shape_in w).states (low_field (get_or w p 0)) ≡ true → word_checked w p ≡ refused reason.StateBeyond p
      unfolding faulty
      word_wide e = rw (lt-ltb 0 p from_one, here, e)

      pub word_fine : too_wide (shape_in w).states (low_field (get_or w p 0)) ≡ false → word_checked w p ≡ Ok tt
      unfolding faulty
      word_fine e = rw (lt-ltb 0 p from_one, here, e)

  pub word_passes : word_checked w p ≡ Ok tt → faulty w p ≡ false
  word_passes e =
      ⊎_elim (λ (t : faulty w p ≡ true). let f = rw t at e in absurd (never reason.StateBeyond p (cond_fine (placed w p) (refused reason.StateBeyond p) reason.Misplaced p f).1))
      (λ (t : faulty w p ≡ false). t) (decided (faulty w p))

  pub word_stops : p < length w → first p (faulty w) ≡ nothing → (e : Refusal) → word_checked w p ≡ Err e → words_checked w ≡ Err e
  word_stops inside before e f =
      ⊎_elim
      (λ (t : faulty w p ≡ true). ⊎_elim (λ (a : placed w p ≡ true). words_wide w p inside before t a ∙ rw (t, a) at f)
      (λ (a : placed w p ≡ false). words_misplaced w p inside before t a ∙ rw (t, a) at f) (decided (placed w p)))
      (λ (t : faulty w p ≡ false). let g = rw t at f in cc) (decided (faulty w p))

pub words_fine : (w : List ℕ) → first (length w) (faulty w) ≡ nothing → words_checked w ≡ Ok tt
unfolding words_checked
words_fine w e = rw e

-- the test of one word
pub faulty_is : (w : List ℕ) (p : ℕ) (a b : Bool) → 1 ≤ p → a ≡ placed w p → b ≡ too_wide (shape_in w).states (low_field (get_or w p 0)) → (not a || b) ≡ faulty w p
unfolding faulty
faulty_is w p a b l e f = rw (e, f, lt-ltb 0 p l)

-- ---- 6 and 7

-- what a search for a word that names i finds
pub unseen_is : (l : List ℕ) (i : ℕ) (r : Bool) → MatchBool r ((k : ℕ) × (k < length l) × (member (get_or l k 0) i ≡ true)) ((k : ℕ) → k < length l → member (get_or l k 0) i ≡ false) → not r ≡ unseen_in l i
unfolding unseen_in
unseen_is l i true w = sym (true_not (any_intro (length l) (λ j. member (get_or l j 0) i) w.0 w.1 w.2))
unseen_is l i false w = sym (false_not (any_refuted (length l) (λ j. member (get_or l j 0) i) w))

-- as the code asks it
module _ (l : List ℕ) (n s : ℕ) where
  pub sets_empty : s ≡ 0 → sets_from l n s ≡ refused reason.NoStart start_place
  unfolding sets_from
  sets_empty e = rw (eq-eqb s 0 e)

  module _ (some : s ≡ 0 → ⊥) where
    pub sets_unseen : (i : ℕ) → i < n → first i (unseen_in l) ≡ nothing → unseen_in l i ≡ true → sets_from l n s ≡ refused reason.Unseen i
    unfolding sets_from
    sets_unseen i h e t = rw (ne_eqb s 0 some, first_stop n (unseen_in l) i h e t)

    pub sets_fine : first n (unseen_in l) ≡ nothing → sets_from l n s ≡ Ok tt
    unfolding sets_from
    sets_fine e = rw (ne_eqb s 0 some, e)

-- and of a game whose observations have the states that the words name
module _ (g : Game) (l : List ℕ) (long : length l ≡ g.observations) (same : (i j : ℕ) → i < g.states → j < g.observations → member (get_or l j 0) i ≡ member (g.shown j) i) where
  unseen_same : (i : ℕ) → i < g.states → unseen_in l i ≡ unseen g i
  unfolding unseen_in unseen
  unseen_same i m =
      ap not
      (ap (λ (k : ℕ). any k (λ j. member (get_or l j 0) i)) long
      ∙ any_ext g.observations (λ j. member (get_or l j 0) i) (λ j. member (g.shown j) i) (λ j h. same i j m h))

  pub by_shown : sets_from l g.states g.start ≡ sets_checked g
  unfolding sets_from sets_checked
  by_shown =
      ap (λ (x : Found). cond (eqb g.start 0) (refused reason.NoStart start_place) (at_found x (λ i. refused reason.Unseen i) (Ok tt)))
      (first_ext g.states (unseen_in l) (unseen g) unseen_same)

-- ---- 19

-- the moves stand at the front of the words that are lent
pub from_front : (p : ℕ) → 0 + p ≡ p
from_front p = omega arith

-- as the code asks it
module _ (w : List ℕ) (base : ℕ) (s : Shape) (parked : ℕ) where
  -- i isn't parked; it is, so its successors decide
  module _ (i : ℕ) where
    pub not_parked : member parked i ≡ false → departs_from w base s parked i ≡ false
    unfolding departs_from
    not_parked e = rw e

    pub departs_by : member parked i ≡ true → departs_from w base s parked i ≡ any s.actions (goes_on w base s i)
    unfolding departs_from
    departs_by e = rw e

  pub parked_departs : (i : ℕ) → i < s.states → first i (departs_from w base s parked) ≡ nothing → departs_from w base s parked i ≡ true → parked_from w base s parked ≡ refused reason.ParkedMoves i
  unfolding parked_from
  parked_departs i l e t = rw (first_stop s.states (departs_from w base s parked) i l e t)

  pub parked_fine : first s.states (departs_from w base s parked) ≡ nothing → parked_from w base s parked ≡ Ok tt
  unfolding parked_from
  parked_fine e = rw e

-- and of a game that has this parked set and these moves
module _ (g : Game) (w : List ℕ) (base : ℕ) (s : Shape) (states : s.states ≡ g.states) (actions : s.actions ≡ g.actions) (moves : (a i : ℕ) → a < s.actions → i < s.states → low_field (get_or w (base + (a * s.states + i)) 0) ≡ g.successors a i) where
  departs_same : (i : ℕ) → i < s.states → departs_from w base s g.parked i ≡ departs g i
  unfolding departs_from departs has_successor
  departs_same i l =
      ap (λ (b : Bool). member g.parked i && b)
      (any_ext s.actions (goes_on w base s i) (has_successor g i) (λ a m. ap (λ (t : ℕ). not (eqb t 0)) (moves a i m l))
      ∙ ap (λ (k : ℕ). any k (has_successor g i)) actions)

  pub by_words : parked_from w base s g.parked ≡ parked_checked g
  unfolding parked_from parked_checked
  by_words =
      ap (λ (x : Found). at_found x (λ i. refused reason.ParkedMoves i) (Ok tt))
      (first_ext s.states (departs_from w base s g.parked) (departs g) departs_same ∙ ap (λ (k : ℕ). first k (departs g)) states)

-- ---- one after the other

module _ (w : List ℕ) where
  pub size_stops : (k : Reason) (p : ℕ) → size_checked w ≡ refused k p → checked w ≡ refused k p
  unfolding checked
  size_stops k p e = rw e

  pub words_stop : (k : Reason) (p : ℕ) → size_checked w ≡ Ok tt → words_checked w ≡ refused k p → checked w ≡ refused k p
  unfolding checked
  words_stop k p e f = rw (e, f)

  module _ (size : size_checked w ≡ Ok tt) (words : words_checked w ≡ Ok tt) where
    pub sets_stop : (k : Reason) (p : ℕ) → sets_checked (game w) ≡ refused k p → checked w ≡ refused k p
    unfolding checked
    sets_stop k p e = rw (size, words, e)

    pub parked_decides : sets_checked (game w) ≡ Ok tt → checked w ≡ parked_checked (game w)
    unfolding checked
    parked_decides e = rw (size, words, e)

-- ---- what `Ok` tells

pub limits_hold_lem : (s : Shape) → limits_hold s ≡ true → Limited s
unfolding limits_hold
limits_hold_lem s e =
    let n = within s.states max_states in
    let a = within s.actions max_actions in
    let o = within s.observations max_observations in
    let m = and_left n (a && o) e in
    let p = and_left a o (and_right n (a && o) e) in
    let q = and_right a o (and_right n (a && o) e) in
    record {
      some_state = within_low s.states max_states m;
      most_states = within_high s.states max_states m;
      some_action = within_low s.actions max_actions p;
      most_actions = within_high s.actions max_actions p;
      some_observation = within_low s.observations max_observations q;
      most_observations = within_high s.observations max_observations q;
    }

-- the head that is right
module _ (w : ℕ) (right : head_right w ≡ true) where
  pub head_top_lem : w / head_spare_at ≡ head_top
  unfolding head_right
  head_top_lem = eqb-true (w / head_spare_at) head_top (and_left (eqb (w / head_spare_at) head_top) (limits_hold (shape_of w)) right)

  pub head_limits : limits_hold (shape_of w) ≡ true
  unfolding head_right
  head_limits = and_right (eqb (w / head_spare_at) head_top) (limits_hold (shape_of w)) right

module _ (w : List ℕ) (fine : size_checked w ≡ Ok tt) where
  size_passed : (head_right (get_or w 0 0) ≡ true) × (length w ≡ table_length (shape_in w))
  unfolding size_checked
  size_passed =
      let right = head_right (get_or w 0 0) in
      let long = eqb (length w) (table_length (shape_in w)) in
      let a = cond_passed (eqb (length w) 0) reason.NoWords 0 (cond (not right) (refused reason.BadHead 0) (cond (not long) (refused reason.BadLength (length w)) (Ok tt))) fine in
      let b = cond_passed (not right) reason.BadHead 0 (cond (not long) (refused reason.BadLength (length w)) (Ok tt)) a.1 in
      let c = cond_passed (not long) reason.BadLength (length w) (Ok tt) b.1 in
      (not-false right b.0, eqb-true (length w) (table_length (shape_in w)) (not-false long c.0))

  pub size_sized : Sized w
  size_sized = record { limits = limits_hold_lem (shape_in w) (head_limits (get_or w 0 0) size_passed.0); long = size_passed.1 }

module _ (w : List ℕ) where
  words_passed : words_checked w ≡ Ok tt → first (length w) (faulty w) ≡ nothing
  unfolding words_checked
  words_passed e =
      found_none (first (length w) (faulty w)) (λ p. cond (placed w p) (refused reason.StateBeyond p) (refused reason.Misplaced p)) (λ p f. never reason.StateBeyond p (cond_fine (placed w p) (refused reason.StateBeyond p) reason.Misplaced p f).1) e

  not_faulty : (p : ℕ) → 1 ≤ p → faulty w p ≡ false → (placed w p ≡ true) × (too_wide (shape_in w).states (low_field (get_or w p 0)) ≡ false)
  unfolding faulty
  not_faulty p l e =
      let wide = too_wide (shape_in w).states (low_field (get_or w p 0)) in
      let f : (not (placed w p) || wide) ≡ false = rw (lt-ltb 0 p l) at e in
      (not-false (placed w p) (or_false_left (not (placed w p)) wide f), or_false_right (not (placed w p)) wide f)

  module _ (fine : words_checked w ≡ Ok tt) (p : ℕ) (from_one : 1 ≤ p) (inside : p < length w) where
    word_sound : (placed w p ≡ true) × (too_wide (shape_in w).states (low_field (get_or w p 0)) ≡ false)
    word_sound = not_faulty p from_one (first_nothing (length w) (faulty w) (words_passed fine) p inside)

    pub word_placed : get_or w p 0 ≡ bare_word (place_at (shape_in w) p) + low_field (get_or w p 0)
    unfolding placed
    word_placed = eqb-true (get_or w p 0) (bare_word (place_at (shape_in w) p) + low_field (get_or w p 0)) word_sound.0

    pub word_below : low_field (get_or w p 0) < 2 ^ (shape_in w).states
    word_below = leb-false (2 ^ (shape_in w).states) (low_field (get_or w p 0)) word_sound.1

module _ (g : Game) (fine : sets_checked g ≡ Ok tt) where
  sets_passed : (eqb g.start 0 ≡ false) × (first g.states (unseen g) ≡ nothing)
  unfolding sets_checked
  sets_passed =
      let h = cond_passed (eqb g.start 0) reason.NoStart start_place (at_found (first g.states (unseen g)) (λ i. refused reason.Unseen i) (Ok tt)) fine in
      (h.0, found_none (first g.states (unseen g)) (λ i. refused reason.Unseen i) (λ i f. never reason.Unseen i f) h.1)

  pub start_some : g.start ≡ 0 → ⊥
  start_some = eqb-false g.start 0 sets_passed.0

  pub all_show : (i : ℕ) → i < g.states → (o : ℕ) × Shows g i o
  unfolding unseen
  all_show i l =
      let h = any_found g.observations (λ o. member (g.shown o) i) (not-false (any g.observations (λ o. member (g.shown o) i)) (first_nothing g.states (unseen g) sets_passed.1 i l)) in
      (h.0, (h.1, h.2))

-- a parked state has no successor
pub parked_end : (g : Game) → parked_checked g ≡ Ok tt → (a i : ℕ) → a < g.actions → i < g.states → member g.parked i ≡ true → g.successors a i ≡ 0
unfolding parked_checked departs has_successor
parked_end g fine a i l m e =
    let none = first_nothing g.states (departs g) (found_none (first g.states (departs g)) (λ i. refused reason.ParkedMoves i) (λ i f. never reason.ParkedMoves i f) fine) i m in
    let still : any g.actions (has_successor g i) ≡ false = rw e at none in
    eqb-true (g.successors a i) 0 (not-false (eqb (g.successors a i) 0) (any_none g.actions (has_successor g i) still a l))

-- ---- an accepted table

positive : (x : ℕ) → (x ≡ 0 → ⊥) → 1 ≤ x
positive zero h = absurd (h refl)
positive (suc x) h = omega arith

module _ (w : List ℕ) (fine : checked w ≡ Ok tt) where
  fine_parts : (size_checked w ≡ Ok tt) × (words_checked w ≡ Ok tt) × (sets_checked (game w) ≡ Ok tt) × (parked_checked (game w) ≡ Ok tt)
  unfolding checked
  fine_parts =
      let sets = unless (sets_checked (game w)) Err (parked_checked (game w)) in
      let a = then_fine (size_checked w) (unless (words_checked w) Err sets) fine in
      let b = then_fine (words_checked w) sets a.1 in
      let c = then_fine (sets_checked (game w)) (parked_checked (game w)) b.1 in
      (a.0, b.0, c.0, c.1)

  pub sized : Sized w
  sized = size_sized w fine_parts.0

  pub fine_words : words_checked w ≡ Ok tt
  fine_words = fine_parts.1

  pub fine_sets : sets_checked (game w) ≡ Ok tt
  fine_sets = fine_parts.2

  pub fine_parked : parked_checked (game w) ≡ Ok tt
  fine_parked = fine_parts.3

  pub fine_head : head_right (get_or w 0 0) ≡ true
  fine_head = (size_passed w fine_parts.0).0

  -- each set names states below n only
  mask_below : (x : Place) → Within (shape_in w) x → mask_at w x < 2 ^ (shape_in w).states
  mask_below x h =
      word_below w fine_words (place_of (shape_in w) x) (place_from (shape_in w) x) (place_inside w sized x h)

  parked_below : parked_in w < 2 ^ (shape_in w).states
  parked_below =
      ⊎_elim (λ (e : (shape_in w).marked ≡ true). let h = mask_below Parked e in rw e h)
      (λ (e : (shape_in w).marked ≡ false). rw e (pow_pos (shape_in w).states))
      (decided (shape_in w).marked)

  pub accepted : Accepted (game w)
  unfolding game
  accepted =
      let limits = sized.limits in
      record {
        some_state = limits.some_state;
        some_action = limits.some_action;
        some_observation = limits.some_observation;
        start_below = mask_below Start tt;
        bad_below = mask_below Bad tt;
        parked_below = parked_below;
        shown_below = λ o l. mask_below (shown o) l;
        successors_below = λ a i l m. mask_below (move a i) (l, m);
        start_some = positive (mask_at w Start) (start_some (game w) fine_sets);
        all_show = all_show (game w) fine_sets;
        parked_end = parked_end (game w) fine_parked;
      }
