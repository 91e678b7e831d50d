-- The fields that the code collects are the table's.
-- Assumes nothing.
use mathlib.Core.Path.{◌≡◌, ap, ap₂, ◌∙◌}
use mathlib.Core.List.{List}
use Prim.Native.Nat.{ℕ, ◌*◌, ◌/◌, ◌%◌}
use lib.ListN.{get_or, length, replicate}
use Rattle.sets.specs.Bounded.{filled_by}
use Rattle.sets.proofs.Fills.{filled_ext}
use Rattle.games.specs.Format.{max_observations, max_moves}
use Rattle.games.specs.Fields.{low_field}
use Rattle.games.specs.Places.{shown, move, place_of}
use Rattle.games.specs.Words.{mask_at, parked_in}
use Rattle.games.specs.declared.Shape.{Shape}
use Rattle.games.specs.declared.Place.TheVariants.{Start, Bad}
use Rattle.games.proofs.Places.{shown_from, move_from}
use Rattle.tables.specs.Layout.{shape_in, shown_words, move_words, Sized}
use Rattle.tables.specs.Fields.{fields_shape, masks_from, fields_of}
use Rattle.tables.specs.declared.Fields.{Fields}
use Rattle.tables.proofs.Checks.{from_front}
use Rattle.tables.proofs.Same.{shown_long, moves_long, shown_lent, move_lent}

module _ (w : List ℕ) (k : ℕ) (d : List ℕ) where
  -- from the first observation's place on the masks are the observations'
  shown_are : filled_by k (masks_from w (place_of (shape_in w) (shown 0))) d ≡ filled_by k (λ j. mask_at w (shown j)) d
  shown_are =
      filled_ext (masks_from w (place_of (shape_in w) (shown 0))) (λ j. mask_at w (shown j)) k d
      (λ j l. ap (λ (p : ℕ). low_field (get_or w p 0)) (shown_from (shape_in w) j))

  -- from the first move's on they are the moves': slot j is action j / n, state j % n
  moves_are : filled_by k (masks_from w (place_of (shape_in w) (move 0 0))) d ≡ filled_by k (λ j. mask_at w (move (j / (shape_in w).states) (j % (shape_in w).states))) d
  moves_are =
      filled_ext (masks_from w (place_of (shape_in w) (move 0 0))) (λ j. mask_at w (move (j / (shape_in w).states) (j % (shape_in w).states))) k d
      (λ j l. ap (λ (p : ℕ). low_field (get_or w p 0)) (move_from (shape_in w) j))

-- so are those of the words that the table lends
module _ (w : List ℕ) (h : Sized w) (d : List ℕ) where
  pub shown_masks : filled_by (length (shown_words w)) (masks_from (shown_words w) 0) d ≡ filled_by (shape_in w).observations (masks_from w (place_of (shape_in w) (shown 0))) d
  shown_masks =
      ap (λ (k : ℕ). filled_by k (masks_from (shown_words w) 0) d) (shown_long w h)
      ∙ filled_ext (masks_from (shown_words w) 0) (masks_from w (place_of (shape_in w) (shown 0))) (shape_in w).observations d
      (λ j l. ap low_field (ap (λ (p : ℕ). get_or (shown_words w) p 0) (from_front j) ∙ shown_lent w h j l))

  pub moves_masks : filled_by (length (move_words w)) (masks_from (move_words w) 0) d ≡ filled_by ((shape_in w).actions * (shape_in w).states) (masks_from w (place_of (shape_in w) (move 0 0))) d
  moves_masks =
      ap (λ (k : ℕ). filled_by k (masks_from (move_words w) 0) d) (moves_long w h)
      ∙ filled_ext (masks_from (move_words w) 0) (masks_from w (place_of (shape_in w) (move 0 0))) ((shape_in w).actions * (shape_in w).states) d
      (λ j l. ap low_field (ap (λ (p : ℕ). get_or (move_words w) p 0) (from_front j) ∙ move_lent w h j))

-- what the code has: the numbers, the three sets, and the masks from the two places on
module _ (w : List ℕ) (f : Fields) (s : Shape) (same : s ≡ shape_in w) (numbers : fields_shape f ≡ s) where
  pub fields_are : (first-shown first_move : ℕ) → f.start ≡ mask_at w Start → f.bad ≡ mask_at w Bad → f.parked ≡ parked_in w → first-shown ≡ place_of (shape_in w) (shown 0) → f.shown ≡ filled_by s.observations (masks_from w first-shown) (replicate max_observations 0) → first_move ≡ place_of (shape_in w) (move 0 0) → f.moves ≡ filled_by (s.actions * s.states) (masks_from w first_move) (replicate max_moves 0) → f ≡ fields_of w
  unfolding fields_of
  fields_are first-shown first_move start bad parked at_shown sh at_move mv =
      let e = numbers ∙ same in
      let zeros : List ℕ = replicate max_observations 0 in
      let zeros' : List ℕ = replicate max_moves 0 in
      let shown' =
      sh ∙ ap₂ (λ (t : Shape) (p : ℕ). filled_by t.observations (masks_from w p) zeros) same at_shown ∙ shown_are w (shape_in w).observations zeros in
      let moves' =
      mv ∙ ap₂ (λ (t : Shape) (p : ℕ). filled_by (t.actions * t.states) (masks_from w p) zeros') same at_move ∙ moves_are w ((shape_in w).actions * (shape_in w).states) zeros' in
      λ i.
      record {
        states = (e i).states;
        actions = (e i).actions;
        observations = (e i).observations;
        start = start i;
        bad = bad i;
        marked = (e i).marked;
        parked = parked i;
        shown = shown' i;
        moves = moves' i;
      }
