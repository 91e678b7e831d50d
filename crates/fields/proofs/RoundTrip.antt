-- Reading and writing undo each other: the words that write gives for an accepted table's fields are the table's, and the words of fields
-- that write accepts are an accepted table with these fields.
-- Assumes nothing.
use mathlib.Core.Path.{◌≡◌, refl, sym, ap, ap₂, ◌∙◌, subst}
use mathlib.Core.Logic.{⊎_elim}
use mathlib.Core.Bool.{Bool, true, false, cond, ◌&&◌}
use mathlib.Core.List.{List, [], ◌∷◌, ◌++◌}
use Prim.Native.Nat.{ℕ, zero, suc, ◌+◌, ◌*◌, ◌/◌, ◌%◌, ◌^◌, ◌≤◌, ◌<◌}
use native.Mathlib.Nat.{div-add-mod'}
use native.Mathlib.Omega.{arith}
use borrow.Author.Tests.{eq-eqb, eqb-true, ltb-true, ltb-false, lt-leb, lt-ltb}
use lib.Dec.{eqb, ltb}
use lib.Pow.{pow_mono}
use lib.ListN.{length, get_or, take, drop, replicate, length-replicate}
use lib.Seq.{ext_get_or, take_at}
use Rattle.sets.specs.Bounded.{gather, filled_by}
use Rattle.sets.proofs.Logic.{decided, lt_or_le, and_intro, and_left, and_right, or_left, or_right, or_cases}
use Rattle.sets.proofs.Bounded.{all_intro, all_at, first_none}
use Rattle.sets.proofs.Fills.{length_values, get_d_values, get_d_filled, get_d_rest, length_filled}
use Rattle.games.specs.Answers.{Leaves, leaves}
use Rattle.games.specs.Format.{max_states, max_observations, max_moves, head_spare_at}
use Rattle.games.specs.Fields.{low_field}
use Rattle.games.specs.Places.{shape_of, shown, move, place_of, place_at, table_length, Within, Limited}
use Rattle.games.specs.Words.{mask_at, parked_in, game}
use Rattle.games.specs.declared.Shape.{Shape}
use Rattle.games.specs.declared.Place.{Place}
use Rattle.games.specs.declared.Place.TheVariants.{Start, Bad, Parked}
use Rattle.games.specs.Answers.{Checked}
use Rattle.games.specs.Answers.{Written}
use Rattle.games.proofs.Limits.{moves_below}
use Rattle.games.proofs.Places.{place_back, place_within, place_from, place_below, place_there, slot_within}
use Rattle.tables.specs.Layout.{shape_in, head_word, head_top, bare_word}
use Rattle.tables.specs.Check.{limits_hold, head_right, placed, faulty, sets_checked, parked_checked, checked}
use Rattle.tables.specs.Fields.{fields_shape, fields_of, field_at, game_of}
use Rattle.tables.specs.declared.Fields.{Fields}
use Rattle.tables.proofs.Layouts.{head_back, shape_back, head_above, mask_back}
use Rattle.tables.proofs.Checks.{size_fine, parked_decides, words_fine, faulty_is, sized, fine_words, fine_head, fine_sets, fine_parked, head_top_lem, head_limits, word_placed, word_below}
use Rattle.tables.proofs.Same.{field_is, sets_ext, parked_ext, sets_same, parked_same}
use Rattle.fields.specs.Read.{read_of}
use Rattle.fields.specs.Write.{mask_of, word_at, words_length, slot_clean, unused_zero, parked_clean, slots_clean, wide_at, fields_checked, written_to, write_of}
use Rattle.fields.specs.RoundTrip.{WritesBack, ReadsBack}
use Rattle.games.specs.declared.Refusal.{Refusal}
use Rattle.fields.proofs.Laws.{slots_passed, slots_limited, fields_passed, mask_low, read_passed, masks_fine, narrow_at, slots_fine, parked_end, write_fine, write_refused, word_head, word_place, written_short, written_full}
use Rattle.std.specs.Prelude.{Result, Ok, Err}

-- ---- slots

zeros : (n i : ℕ) → ◌≡◌ {A = ℕ} (get_or (replicate n 0) i 0) 0
zeros zero i = refl
zeros (suc n) zero = refl
zeros (suc n) (suc i) = zeros n i

-- an unused slot is 0
clean : (used : ℕ) (l : List ℕ) → unused_zero used l ≡ true → (j : ℕ) → j < length l → used ≤ j → get_or l j 0 ≡ 0
unfolding unused_zero
clean used l e j k m =
    ⊎_elim (λ (b : ltb j used ≡ true). let x = ltb-true j used b in absurd (omega arith)) (λ b. eqb-true (get_or l j 0) 0 b)
    (or_cases (ltb j used) (eqb (get_or l j 0) 0) (all_at (length l) (slot_clean used l) e j k))

-- and so it is where the slots were filled
unused_filled : (used size : ℕ) (v : ℕ → ℕ) → unused_zero used (filled_by used v (replicate size 0)) ≡ true
unfolding unused_zero
unused_filled used size v =
    let l = filled_by used v (replicate size 0) in
    all_intro (length l) (slot_clean used l)
    (λ j k.
    ⊎_elim (λ m. or_left (eqb (get_or l j 0) 0) (lt-ltb j used m))
    (λ m. or_right (ltb j used) (eq-eqb (get_or l j 0) 0 (get_d_rest v used (replicate size 0) j m ∙ zeros size j)))
    (lt_or_le j used))

-- and the parked set of a table that doesn't mark parked states
parked_clean_lem : (w : List ℕ) → parked_clean (fields_of w) ≡ true
unfolding fields_of
parked_clean_lem w =
    ⊎_elim (λ (e : (shape_in w).marked ≡ true). or_left (eqb (parked_in w) 0) e)
    (λ (e : (shape_in w).marked ≡ false). or_right (shape_in w).marked (eq-eqb (parked_in w) 0 (rw e)))
    (decided (shape_in w).marked)

-- slots that hold the values, and 0 where they are unused, are those that the values fill
slots_back : (used size : ℕ) (v : ℕ → ℕ) (l : List ℕ) → length l ≡ size → used ≤ size → unused_zero used l ≡ true → ((j : ℕ) → j < used → v j ≡ get_or l j 0) → l ≡ filled_by used v (replicate size 0)
slots_back used size v l n u e h =
    let same : length (filled_by used v (replicate size 0)) ≡ length l = length_filled v used (replicate size 0) (omega (arith, length-replicate {A = ℕ} size 0)) ∙ length-replicate {A = ℕ} size 0 ∙ sym n in
    sym
    (ext_get_or 0 (filled_by used v (replicate size 0)) l same
    (λ j k.
    ⊎_elim (λ m. get_d_filled v used (replicate size 0) j m ∙ h j m)
    (λ m. get_d_rest v used (replicate size 0) j m ∙ zeros size j ∙ sym (clean used l e j (omega (arith, same)) m))
    (lt_or_le j used)))

-- ---- an accepted table, read and written

module _ (w : List ℕ) (fine : checked w ≡ Ok tt) where
  shape_kept : fields_shape (fields_of w) ≡ shape_in w
  unfolding fields_of
  shape_kept = refl

  long : words_length (fields_of w) ≡ length w
  long = ap table_length shape_kept ∙ sym (sized w fine).long

  -- the fields have each word's mask
  mask_kept : (p : ℕ) → 1 ≤ p → p < length w → mask_of (fields_of w) p ≡ low_field (get_or w p 0)
  mask_kept p l k =
      let s = shape_in w in
      let z = sized w fine in
      ap (λ (t : Shape). field_at (fields_of w) (place_at t p)) shape_kept
      ∙ field_is w (place_at s p) (place_within s p z.limits.some_state (omega (arith, z.long)) l)
      ∙ ap (λ (q : ℕ). low_field (get_or w q 0)) (place_back s p l)

  head_is : word_at (fields_of w) 0 ≡ get_or w 0 0
  head_is = word_head (fields_of w) 0 refl ∙ ap head_word shape_kept ∙ head_back (get_or w 0 0) (head_top_lem (get_or w 0 0) (fine_head w fine))

  place_is : (p : ℕ) → 1 ≤ p → p < length w → word_at (fields_of w) p ≡ get_or w p 0
  place_is p l k =
      word_place (fields_of w) p (λ e. omega arith)
      ∙ ap₂ (λ (t : Shape) (m : ℕ). bare_word (place_at t p) + m) shape_kept (mask_kept p l k)
      ∙ sym (word_placed w (fine_words w fine) p l k)

  word_is : (p : ℕ) → p < length w → word_at (fields_of w) p ≡ get_or w p 0
  word_is zero k = head_is
  word_is (suc p) k = place_is (suc p) (omega arith) k

  words_are : gather (length w) (λ p. word_at (fields_of w) p ∷ []) ≡ w
  words_are =
      let v = word_at (fields_of w) in
      ext_get_or 0 (gather (length w) (λ p. v p ∷ [])) w (length_values v (length w))
      (λ p k. let l : p < length w = omega (arith, length_values v (length w)) in get_d_values v (length w) p l ∙ word_is p l)

  narrow : (p : ℕ) → p < words_length (fields_of w) → wide_at (fields_of w) p ≡ false
  unfolding wide_at
  narrow zero l = refl
  narrow (suc p) l =
      let k : suc p < length w = omega (arith, long) in
      narrow_at (fields_of w) (suc p)
      (rw (mask_kept (suc p) (omega arith) k, ap (λ (s : Shape). s.states) shape_kept) (word_below w (fine_words w fine) (suc p) (omega arith) k))

  -- write refuses no field of an accepted table
  fields_fine : fields_checked (fields_of w) ≡ Ok tt
  unfolding fields_of
  fields_fine =
      let f = fields_of w in
      let s = shape_in w in
      let limits = head_limits (get_or w 0 0) (fine_head w fine) in
      let slots =
      slots_fine f limits
      (and_intro (parked_clean_lem w)
      (and_intro (unused_filled s.observations max_observations (λ j. mask_at w (shown j))) (unused_filled (s.actions * s.states) max_moves (λ j. mask_at w (move (j / s.states) (j % s.states)))))) in
      let masks = masks_fine f (first_none (words_length f) (wide_at f) narrow) in
      parked_end f slots masks (sets_same w ∙ fine_sets w fine) ∙ parked_same w ∙ fine_parked w fine

  -- read, then write: the same words
  pub read_then_write : (d : List ℕ) → length w ≤ length d → write_of (fields_of w) d ≡ leaves (Ok (length w)) (w ++ drop (length w) d)
  read_then_write d l =
      write_fine (fields_of w) d fields_fine
      ∙ written_full (fields_of w) d (omega (arith, long))
      ∙ ap (λ (k : ℕ). leaves (Ok k) (filled_by k (word_at (fields_of w)) d)) long
      ∙ ap (λ (v : List ℕ). leaves (Ok (length w)) (v ++ drop (length w) d)) words_are

-- what read answers is written back
pub writes_back : (w : List ℕ) {r : Result Fields Refusal} → r ≡ read_of w → WritesBack w r
writes_back w e f told d l =
    let read = read_passed w f (sym e ∙ told) in
    ap (λ (g : Fields). write_of g d) read.1 ∙ read_then_write w read.0 d l

-- ---- accepted fields, written and read

-- the words that write puts in front
abbrev words_of : Fields → List ℕ
words_of f = gather (words_length f) (λ p. word_at f p ∷ [])

length_same : (f : Fields) → length (words_of f) ≡ words_length f
length_same f = length_values (word_at f) (words_length f)

module _ (f : Fields) (fine : fields_checked f ≡ Ok tt) where
  limited : Limited (fields_shape f)
  limited = slots_limited f (fields_passed f fine).0

  back : (p : ℕ) → p < words_length f → get_or (words_of f) p 0 ≡ word_at f p
  back p l = get_d_values (word_at f) (words_length f) p l

  head_of : get_or (words_of f) 0 0 ≡ head_word (fields_shape f)
  head_of = back 0 (omega arith) ∙ word_head f 0 refl

  shape_same : shape_in (words_of f) ≡ fields_shape f
  shape_same = ap shape_of head_of ∙ shape_back (fields_shape f) limited

  module _ (p : ℕ) (from_one : 1 ≤ p) (inside : p < words_length f) where
    mask_below : mask_of f p < 2 ^ f.states
    mask_below = mask_low f (fields_passed f fine).1 p from_one inside

    word_of : get_or (words_of f) p 0 ≡ bare_word (place_at (fields_shape f) p) + mask_of f p
    word_of = back p inside ∙ word_place f p (λ e. omega arith)

    low_of : low_field (get_or (words_of f) p 0) ≡ mask_of f p
    low_of =
        let l = limited in
        ap low_field word_of ∙ mask_back (place_at (fields_shape f) p) (mask_of f p) (omega (arith, mask_below, pow_mono {j = max_states} l.most_states))

  -- each set comes back
  mask_same : (x : Place) → Within (fields_shape f) x → mask_at (words_of f) x ≡ field_at f x
  mask_same x h =
      let s = fields_shape f in
      ap (λ (t : Shape). low_field (get_or (words_of f) (place_of t x) 0)) shape_same
      ∙ low_of (place_of s x) (place_from s x) (place_below s x h)
      ∙ ap (field_at f) (place_there s x h)

  -- the written words are an accepted table
  head_right_lem : head_right (get_or (words_of f) 0 0) ≡ true
  unfolding head_right
  head_right_lem =
      let head = get_or (words_of f) 0 0 in
      and_intro (eq-eqb (head / head_spare_at) head_top (ap (λ (x : ℕ). x / head_spare_at) head_of ∙ head_above (fields_shape f) limited))
      (ap limits_hold shape_same ∙ (slots_passed f (fields_passed f fine).0).0)

  sound_at : (p : ℕ) → p < length (words_of f) → faulty (words_of f) p ≡ false
  unfolding faulty placed
  sound_at zero l = refl
  sound_at (suc p) l =
      let w = words_of f in
      let word = get_or w (suc p) 0 in
      let k : suc p < words_length f = omega (arith, length_same f) in
      let low = low_of (suc p) (omega arith) k in
      let here : word ≡ bare_word (place_at (shape_in w) (suc p)) + low_field word =
      word_of (suc p) (omega arith) k ∙ sym (ap₂ (λ (s : Shape) (m : ℕ). bare_word (place_at s (suc p)) + m) shape_same low) in
      let narrow : low_field word < 2 ^ (shape_in w).states = rw (low, ap (λ (s : Shape). s.states) shape_same) (mask_below (suc p) (omega arith) k) in
      sym
      (faulty_is w (suc p) true false (omega arith) (sym (eq-eqb word (bare_word (place_at (shape_in w) (suc p)) + low_field word) here))
      (sym (lt-leb (2 ^ (shape_in w).states) (low_field word) narrow)))

  -- and so does the parked set, marked or not
  slots_clean_lem : slots_clean f ≡ true
  slots_clean_lem = (slots_passed f (fields_passed f fine).0).1

  unmarked_parked : f.marked ≡ false → f.parked ≡ 0
  unmarked_parked e =
      let clean = and_left (parked_clean f) (unused_zero f.observations f.shown && unused_zero (f.actions * f.states) f.moves) slots_clean_lem in
      eqb-true f.parked 0 (rw e at clean)

  parked_back : parked_in (words_of f) ≡ f.parked
  parked_back =
      ap (λ (s : Shape). cond s.marked (mask_at (words_of f) Parked) 0) shape_same
      ∙ ⊎_elim (λ (e : f.marked ≡ true). ap (λ (b : Bool). cond b (mask_at (words_of f) Parked) 0) e ∙ mask_same Parked e)
      (λ (e : f.marked ≡ false). ap (λ (b : Bool). cond b (mask_at (words_of f) Parked) 0) e ∙ sym (unmarked_parked e))
      (decided f.marked)

  sets_back : sets_checked (game (words_of f)) ≡ Ok tt
  unfolding game game_of
  sets_back =
      sets_ext (game (words_of f)) (game_of f) (ap (λ (s : Shape). s.states) shape_same) (ap (λ (s : Shape). s.observations) shape_same) (mask_same Start tt)
      (λ j l. mask_same (shown j) (subst (λ (s : Shape). j < s.observations) shape_same l))
      ∙ (fields_passed f fine).2

  parked_fine : parked_checked (game (words_of f)) ≡ Ok tt
  unfolding game game_of
  parked_fine =
      parked_ext (game (words_of f)) (game_of f) (ap (λ (s : Shape). s.states) shape_same) (ap (λ (s : Shape). s.actions) shape_same) parked_back
      (λ a i l m. mask_same (move a i) (subst (λ (s : Shape). (a < s.actions) × (i < s.states)) shape_same (l, m)))
      ∙ (fields_passed f fine).3

  written_fine : checked (words_of f) ≡ Ok tt
  written_fine =
      let w = words_of f in
      let long : length w ≡ table_length (shape_in w) = length_same f ∙ ap table_length (sym shape_same) in
      parked_decides w (size_fine w (λ e. omega (arith, length_same f)) head_right_lem long) (words_fine w (first_none (length w) (faulty w) sound_at)) sets_back
      ∙ parked_fine

  slots_zero : (unused_zero f.observations f.shown && unused_zero (f.actions * f.states) f.moves) ≡ true
  slots_zero = and_right (parked_clean f) (unused_zero f.observations f.shown && unused_zero (f.actions * f.states) f.moves) slots_clean_lem

  module _ (shown-slots : length f.shown ≡ max_observations) (move-slots : length f.moves ≡ max_moves) where
    shown_back : f.shown ≡ filled_by f.observations (λ j. mask_at (words_of f) (shown j)) (replicate max_observations 0)
    shown_back =
        slots_back f.observations max_observations (λ j. mask_at (words_of f) (shown j)) f.shown shown-slots limited.most_observations
        (and_left (unused_zero f.observations f.shown) (unused_zero (f.actions * f.states) f.moves) slots_zero)
        (λ j l. mask_same (shown j) l)

    moves_back : f.moves ≡ filled_by (f.actions * f.states) (λ j. mask_at (words_of f) (move (j / f.states) (j % f.states))) (replicate max_moves 0)
    moves_back =
        let l = limited in
        slots_back (f.actions * f.states) max_moves (λ j. mask_at (words_of f) (move (j / f.states) (j % f.states))) f.moves move-slots (moves_below f.actions f.states l.most_actions l.most_states)
        (and_right (unused_zero f.observations f.shown) (unused_zero (f.actions * f.states) f.moves) slots_zero)
        (λ j k.
        mask_same (move (j / f.states) (j % f.states)) (slot_within (fields_shape f) j l.some_state k)
        ∙ ap (λ (i : ℕ). get_or f.moves i 0) (div-add-mod' j f.states))

    fields_back : f ≡ fields_of (words_of f)
    unfolding fields_of
    fields_back =
        let w = words_of f in
        let seen = shown_back ∙ ap (λ (s : Shape). filled_by s.observations (λ j. mask_at w (shown j)) (replicate max_observations 0)) (sym shape_same) in
        let moved = moves_back ∙ ap (λ (s : Shape). filled_by (s.actions * s.states) (λ j. mask_at w (move (j / s.states) (j % s.states))) (replicate max_moves 0)) (sym shape_same) in
        λ i.
        record {
          states = (sym shape_same i).states;
          actions = (sym shape_same i).actions;
          observations = (sym shape_same i).observations;
          start = sym (mask_same Start tt) i;
          bad = sym (mask_same Bad tt) i;
          marked = (sym shape_same i).marked;
          parked = sym parked_back i;
          shown = seen i;
          moves = moved i;
        }

    read_back : read_of (words_of f) ≡ Ok f
    unfolding read_of
    read_back = rw written_fine (ap (λ (g : Fields). Ok g) (sym fields_back))

-- what a success of write says
module _ (f : Fields) (d : List ℕ) (k : ℕ) where
  done_at : (b : Bool) → b ≡ ltb (length d) (words_length f) → (written_to f d).answer ≡ Ok k → (k ≡ words_length f) × ((written_to f d).left ≡ words_of f ++ drop k d)
  done_at true b e =
      let z : ◌≡◌ {A = ℕ} 0 1 = cc (ap (λ (o : Leaves Written (List ℕ)). o.answer) (written_short f d (ltb-true (length d) (words_length f) (sym b)))) in
      absurd (omega arith)
  done_at false b e =
      let full = written_full f d (ltb-false (length d) (words_length f) (sym b)) in
      let same : k ≡ words_length f = cc (ap (λ (o : Leaves Written (List ℕ)). o.answer) full) in
      (same, ap (λ (o : Leaves Written (List ℕ)). o.left) full ∙ ap (λ (n : ℕ). words_of f ++ drop n d) (sym same))

  gave_at : (c : Checked) → fields_checked f ≡ c → (write_of f d).answer ≡ Ok k → (fields_checked f ≡ Ok tt) × (k ≡ words_length f) × ((write_of f d).left ≡ words_of f ++ drop k d)
  gave_at (Ok tt) c e =
      let w = write_fine f d c in
      let h = done_at (ltb (length d) (words_length f)) refl (ap (λ (o : Leaves Written (List ℕ)). o.answer) (sym w) ∙ e) in
      (c, h.0, ap (λ (o : Leaves Written (List ℕ)). o.left) w ∙ h.1)
  gave_at (Err stop) c e =
      let z : ◌≡◌ {A = ℕ} 0 1 = cc (ap (λ (o : Leaves Written (List ℕ)). o.answer) (write_refused f stop d c)) in
      absurd (omega arith)

  -- write, then read what was written: the same fields
  write_then_read : length f.shown ≡ max_observations → length f.moves ≡ max_moves → (write_of f d).answer ≡ Ok k → read_of (take k (write_of f d).left) ≡ Ok f
  write_then_read shown-slots move-slots e =
      let h = gave_at (fields_checked f) refl e in
      ap (λ (v : List ℕ). read_of (take k v)) h.2
      ∙ ap read_of (take_at (words_of f) (drop k d) k (length_same f ∙ sym h.1))
      ∙ read_back f h.0 shown-slots move-slots

-- what write answers and leaves is read back
pub reads_back : (f : Fields) (d : List ℕ) {r : Written} {out : List ℕ} → length f.shown ≡ max_observations → length f.moves ≡ max_moves → leaves r out ≡ write_of f d → ReadsBack f r out
reads_back f d shown-slots move-slots e =
    subst (λ (o : Leaves Written (List ℕ)). ReadsBack f o.answer o.left) (sym e) (λ k. write_then_read f d k shown-slots move-slots)
