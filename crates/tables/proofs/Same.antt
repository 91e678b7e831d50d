-- The fields of a table mean its game: what the checks on fields say of it.
-- Assumes nothing.
use mathlib.Core.Path.{◌≡◌, refl, sym, ap, ap₂, ◌∙◌}
use mathlib.Core.Bool.{Bool, cond, not, ◌&&◌}
use mathlib.Core.List.{List}
use Prim.Native.Nat.{ℕ, zero, suc, ◌+◌, ◌*◌, ◌/◌, ◌%◌, ◌^◌, ◌<◌, ◌≤◌}
use native.Mathlib.Omega.{arith}
use lib.Dec.{eqb}
use lib.ListN.{length, take, drop, get_or, replicate}
use lib.Pow.{pow_pos}
use native.Mathlib.Nat.{pow-succ', mul_comm, min-eq_left}
use Rattle.std.proofs.Math.Arith.{mod-mul}
use Rattle.std.proofs.lemmas.List.{length-take, length-drop, get_or-take, get_or-drop}
use Rattle.sets.proofs.Mask.{member_first, member_half}
use Rattle.sets.specs.Mask.{member}
use Rattle.sets.specs.Bounded.{any, first, Found, at_found}
use Rattle.sets.proofs.Bounded.{any_ext, first_ext}
use Rattle.sets.proofs.Fills.{get_d_filled}
use Rattle.games.specs.Format.{max_observations, max_moves}
use Rattle.games.specs.Fields.{low_field}
use Rattle.games.specs.Game.{Game, has_successor}
use Rattle.games.specs.Places.{shown, move, start_place, place_of, Within}
use Rattle.games.specs.Words.{mask_at, game}
use Rattle.games.specs.declared.Shape.{Shape}
use Rattle.games.specs.Answers.{refused}
use Rattle.games.specs.declared.Place.{Place}
use Rattle.games.specs.declared.Place.TheVariants.{Start, Bad, Parked, Shown, Move}
use Rattle.games.proofs.Limits.{slot_below}
use Rattle.games.proofs.Places.{move_slot, move_at, shown_from, shown_row}
use Rattle.tables.specs.Layout.{shape_in, shown_words, move_words, Sized}
use Rattle.tables.specs.Check.{unseen, sets_checked, sets_from, departs, parked_checked, parked_from}
use Rattle.tables.specs.Fields.{fields_shape, fields_of, field_at, game_of}
use Rattle.tables.specs.declared.Fields.{Fields}
use Rattle.tables.proofs.Checks.{from_front, by_words, by_shown}
use Rattle.games.specs.declared.Reason.TheVariants as reason
use Rattle.std.specs.Prelude.{Ok}

-- the fields of a table have its masks
pub field_is : (w : List ℕ) (x : Place) → Within (shape_in w) x → field_at (fields_of w) x ≡ mask_at w x
unfolding fields_of
field_is w Start h = refl
field_is w Bad h = refl
field_is w Parked h = rw h
field_is w (Shown j) h = get_d_filled (λ j. mask_at w (shown j)) (shape_in w).observations (replicate max_observations 0) j.0 h
field_is w (Move a i) h =
    let s = shape_in w in
    let slot = a.0 * s.states + i.0 in
    get_d_filled (λ j. mask_at w (move (j / s.states) (j % s.states))) (s.actions * s.states) (replicate max_moves 0) slot (slot_below a.0 s.actions s.states i.0 h.0 h.1)
    ∙ ap (λ (p : ℕ). low_field (get_or w p 0)) (move_slot s a.0 i.0)

-- 6 and 7 look at the start set and at the states that the observations have
module _ (g h : Game) (counted : g.states ≡ h.states) (seen : g.observations ≡ h.observations) (begun : g.start ≡ h.start) (same : (j : ℕ) → j < g.observations → g.shown j ≡ h.shown j) where
  unseen_ext : (i : ℕ) → unseen g i ≡ unseen h i
  unfolding unseen
  unseen_ext i =
      ap not
      (any_ext g.observations (λ j. member (g.shown j) i) (λ j. member (h.shown j) i) (λ j l. ap (λ (m : ℕ). member m i) (same j l))
      ∙ ap (λ (k : ℕ). any k (λ j. member (h.shown j) i)) seen)

  pub sets_ext : sets_checked g ≡ sets_checked h
  unfolding sets_checked
  sets_ext =
      ap₂ (λ (s : ℕ) (x : Found). cond (eqb s 0) (refused reason.NoStart start_place) (at_found x (λ i. refused reason.Unseen i) (Ok tt))) begun
      (first_ext g.states (unseen g) (unseen h) (λ i l. unseen_ext i) ∙ ap (λ (k : ℕ). first k (unseen h)) counted)

pub sets_same : (w : List ℕ) → sets_checked (game_of (fields_of w)) ≡ sets_checked (game w)
unfolding game_of fields_of game
sets_same w = sets_ext (game_of (fields_of w)) (game w) refl refl refl (λ j l. field_is w (shown j) l)

-- 19 looks at the parked set and at the moves
module _ (g h : Game) (counted : g.states ≡ h.states) (acted : g.actions ≡ h.actions) (ended : g.parked ≡ h.parked) (same : (a i : ℕ) → a < g.actions → i < g.states → g.successors a i ≡ h.successors a i) where
  departs_ext : (i : ℕ) → i < g.states → departs g i ≡ departs h i
  unfolding departs has_successor
  departs_ext i l =
      ap₂ (λ (s : ℕ) (b : Bool). member s i && b) ended
      (any_ext g.actions (has_successor g i) (has_successor h i) (λ a m. ap (λ (s : ℕ). not (eqb s 0)) (same a i m l))
      ∙ ap (λ (k : ℕ). any k (has_successor h i)) acted)

  pub parked_ext : parked_checked g ≡ parked_checked h
  unfolding parked_checked
  parked_ext =
      ap (λ (x : Found). at_found x (λ i. refused reason.ParkedMoves i) (Ok tt))
      (first_ext g.states (departs g) (departs h) departs_ext ∙ ap (λ (k : ℕ). first k (departs h)) counted)

pub parked_same : (w : List ℕ) → parked_checked (game_of (fields_of w)) ≡ parked_checked (game w)
unfolding game_of fields_of game
parked_same w = parked_ext (game_of (fields_of w)) (game w) refl refl refl (λ a i l m. field_is w (move a i) (l, m))

-- a mask and a word name the same states
low_digit : (k s : ℕ) → s % 2 ^ suc k ≡ (s / 2 % 2 ^ k) * 2 + s % 2
low_digit k s = ap (λ (x : ℕ). s % x) (pow-succ' 2 k ∙ mul_comm 2 (2 ^ k)) ∙ mod-mul s {m = 2 ^ k} {c = 2} (pow_pos k) (omega arith)

member_low : (k s i : ℕ) → i < k → member (s % 2 ^ k) i ≡ member s i
member_low zero s i l = absurd (omega arith)
member_low (suc k) s zero l = member_first (s % 2 ^ suc k) ∙ ap (λ (x : ℕ). eqb x 1) (omega (arith, low_digit k s)) ∙ sym (member_first s)
member_low (suc k) s (suc i) l =
    member_half (s % 2 ^ suc k) i
    ∙ ap (λ (x : ℕ). member x i) (omega (arith, low_digit k s))
    ∙ member_low k (s / 2) i (omega arith)
    ∙ sym (member_half s i)

-- the words for the observations and for the moves, as the table lends them
module _ (w : List ℕ) (h : Sized w) where
  abbrev s : Shape
  s = shape_in w

  pub shown_long : length (shown_words w) ≡ s.observations
  shown_long = simp (length-take, length-drop) (omega (arith, shown_row s, h.long))

  pub moves_long : length (move_words w) ≡ s.actions * s.states
  moves_long = length-drop (place_of s (move 0 0)) w ∙ omega (arith, h.long)

  pub shown_lent : (j : ℕ) → j < s.observations → get_or (shown_words w) j 0 ≡ get_or w (place_of s (shown 0) + j) 0
  shown_lent j l = get_or-take s.observations (drop (place_of s (shown 0)) w) j 0 l ∙ get_or-drop (place_of s (shown 0)) w j 0

  pub move_lent : (p : ℕ) → get_or (move_words w) p 0 ≡ get_or w (place_of s (move 0 0) + p) 0
  move_lent p = get_or-drop (place_of s (move 0 0)) w p 0

  -- 6 and 7 on them
  pub table_sets : (n start : ℕ) → n ≡ s.states → start ≡ mask_at w Start → sets_from (shown_words w) n start ≡ sets_checked (game w)
  unfolding game
  table_sets n start counted begun =
      ap₂ (sets_from (shown_words w)) counted begun
      ∙ by_shown (game w) (shown_words w) shown_long
      (λ i j m l. ap (λ (x : ℕ). member x i) (shown_lent j l ∙ ap (λ (p : ℕ). get_or w p 0) (shown_from s j)) ∙ sym (member_low 16 (get_or w (place_of s (shown j)) 0) i (omega (arith, h.limits.most_states))))

  -- and 19
  pub table_parked : (s' : Shape) (parked : ℕ) → s' ≡ s → parked ≡ (game w).parked → parked_from (move_words w) 0 s' parked ≡ parked_checked (game w)
  unfolding game
  table_parked s' parked same ended =
      ap₂ (parked_from (move_words w) 0) same ended
      ∙ by_words (game w) (move_words w) 0 s refl refl
      (λ a i l m. ap low_field (ap (λ (p : ℕ). get_or (move_words w) p 0) (from_front (a * s.states + i)) ∙ move_lent (a * s.states + i) ∙ ap (λ (p : ℕ). get_or w p 0) (move_at s a i)))

-- 6 and 7 on the slots of the fields
pub fields_sets : (f : Fields) (s : Shape) → s ≡ fields_shape f → f.observations ≤ length f.shown → sets_from (take f.observations f.shown) s.states f.start ≡ sets_checked (game_of f)
unfolding game_of
fields_sets f s same inside =
    ap (λ (t : Shape). sets_from (take f.observations f.shown) t.states f.start) same
    ∙ by_shown (game_of f) (take f.observations f.shown) (length-take f.observations f.shown ∙ min-eq_left inside)
    (λ i j m l. ap (λ (x : ℕ). member x i) (get_or-take f.observations f.shown j 0 l))
