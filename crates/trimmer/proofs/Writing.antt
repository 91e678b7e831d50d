-- Laws of the trimmed card's words: the new numbers in the work are the trimmed card's, so the rows are its front and its parts.
-- Assumes nothing.
use mathlib.Core.Path.{◌≡◌, refl, sym, ap, ap₂, ◌∙◌, subst}
use mathlib.Core.Logic.{⊎_elim}
use mathlib.Core.Bool.{Bool, true, cond}
use mathlib.Core.List.{List, [], ◌∷◌, ◌++◌}
use Prim.Native.Nat.{ℕ, ◌+◌, ◌-◌, ◌≤◌, ◌<◌}
use native.Mathlib.Omega.{arith}
use lib.Dec.{eqb}
use lib.ListN.{length, take, drop, get_or}
use lib.Seq.{length-take-le}
use borrow.Rule.Slice.PartMut.{put_mid}
use borrow.Author.Tests.{eq-eqb, ne_eqb, eqb-true, eqb-false}
use Rattle.sets.specs.Bounded.{gather}
use Rattle.sets.proofs.Logic.{decided}
use Rattle.sets.proofs.Fills.{gather_ext}
use Rattle.games.specs.Automaton.{Automaton, no_cell}
use Rattle.games.specs.Format.{max_cells, number_values, low_values, kind_first, kind_cell, kind_next}
use Rattle.games.specs.Fields.{word}
use Rattle.games.specs.Words.{front_length, part_length, card_length, card_head, cell_words, card_words}
use Rattle.cards.specs.Card.{card_cells, card_actions, card_observations, cell_place, automaton, checked, Named}
use Rattle.cards.proofs.Checked.{fitting, own_word, cell_in}
use Rattle.cards.proofs.Running.{size_of}
use Rattle.cards.proofs.Written.{card_long, cell_length}
use Rattle.cards.proofs.Parts.{row_length, Carded, carded_none, carded_part, carded_more, front_within, fronted_room, carded_whole}
use Rattle.trimming.specs.Trim.{reached, kept, renumbered, trim, trimmed}
use Rattle.trimming.proofs.Reaching.{reached_first, reached_next}
use Rattle.trimming.proofs.Numbers.{new_none, no_none, old_in, kept_few}
use Rattle.trimming.proofs.Trimmed.{trim_size, trim_begins, trim_set, trim_action, trim_next}
use Rattle.trimmer.specs.Halves.{lower_half, upper_half}
use Rattle.trimmer.specs.Marking.{named_from, NamesInside, Naming, named_or}
use Rattle.trimmer.specs.Numbering.{Renumbering, numbered_as, new_name, row_words}
use Rattle.trimmer.specs.Trimmer.{kept_cells}
use Rattle.trimmer.proofs.Marking.{or_none, or_some}
use Rattle.trimmer.proofs.Naming.{row_long, row_same, first_name, firsts_naming, firsts_row, next_name, nexts_naming, nexts_row}
use Rattle.std.specs.Prelude.{Ok}

-- ---- the name in the work

module _ (c n : ℕ) where
  pub as_none : c ≡ no_cell → c ≡ numbered_as c n
  as_none e = e ∙ sym (ap (λ (b : Bool). cond b no_cell n) (eq-eqb c no_cell e))

  pub as_some : (c ≡ no_cell → ⊥) → n ≡ numbered_as c n
  as_some z = sym (ap (λ (b : Bool). cond b no_cell n) (ne_eqb c no_cell z))

module _ (w : List ℕ) (c : ℕ) where
  pub name_none : c ≡ no_cell → c ≡ new_name w c
  unfolding new_name
  name_none e = as_none c (lower_half w c) e

  pub name_some : (c ≡ no_cell → ⊥) → lower_half w c ≡ new_name w c
  unfolding new_name
  name_some z = as_some c (lower_half w c) z

  -- the cell that is asked for it: cell 0 for none
  pub asked_inside : NamesInside c (length w) → 0 < length w → named_or c 0 < length w
  asked_inside named some =
      ⊎_elim
      (λ e. subst (λ (x : ℕ). x < length w) (or_none c 0 (eqb-true c no_cell e)) some)
      (λ e.
      subst (λ (x : ℕ). x < length w) (or_some c 0 (eqb-false c no_cell e))
      (⊎_elim (λ l. l) (λ f. absurd (eqb-false c no_cell e f)) named))
      (decided (eqb c no_cell))

  pub asked_name : (x : ℕ) → x ≡ lower_half w (named_or c 0) → numbered_as c x ≡ new_name w c
  asked_name x e =
      ⊎_elim (λ f. let z = eqb-true c no_cell f in sym (as_none c x z) ∙ name_none z)
      (λ f. let z = eqb-false c no_cell f in sym (as_some c x z) ∙ e ∙ ap (λ (d : ℕ). lower_half w d) (sym (or_some c 0 z)) ∙ name_some z)
      (decided (eqb c no_cell))

  -- it fits a word
  pub name_small : new_name w c < low_values
  name_small =
      ⊎_elim (λ e. let f = eqb-true c no_cell e in omega (arith, f, name_none f)) (λ e. omega (arith, name_some (eqb-false c no_cell e))) (decided (eqb c no_cell))

-- the new number of a cell that is reached, and of none
name_new : (A : Automaton) (o : ℕ) (w : List ℕ) → A.size ≤ max_cells → Renumbering A o w → (c : ℕ) → Named A c → (c < A.size → reached A o c ≡ true)
    → new_name w c ≡ renumbered A o c
name_new A o w few R c n r =
    ⊎_elim (λ l. sym (name_some w c (no_none A o few c l)) ∙ R.new c l (r l)) (λ e. sym (name_none w c e) ∙ e ∙ sym (new_none A o c e)) n

-- ---- the rows

-- a row of the same own word and names
row_ext : (card : List ℕ) (at o k own : ℕ) (work : List ℕ) (x : ℕ) (f : ℕ → ℕ) → own ≡ x → ((j : ℕ) → j < o → new_name work (named_from card at j) ≡ f j)
    → row_words card at o k own work ≡ x ∷ gather o (λ j. word k (f j) j 0 ∷ [])
unfolding row_words
row_ext card at o k own work x f e h =
    ap₂ ◌∷◌ e (gather_ext o (λ j. word k (new_name work (named_from card at j)) j 0 ∷ []) (λ j. word k (f j) j 0 ∷ []) (λ j l. ap (λ (n : ℕ). word k n j 0 ∷ []) (h j l)))

-- the head and the first words of an automaton's card
abbrev pub front_of : Automaton → (actions observations : ℕ) → List ℕ
front_of A a o = card_head A.size o a ∷ gather o (λ j. word kind_first (A.begins j) j 0 ∷ [])

pub front_long : (A : Automaton) (a o : ℕ) → length (front_of A a o) ≡ front_length o
front_long A a o = row_length o (λ j. word kind_first (A.begins j) j 0)

-- ---- the whole

module _ (w : List ℕ) where
  pub trimmed_long : length (trimmed w) ≡ card_length (kept_cells w) (card_observations w)
  unfolding trimmed
  trimmed_long =
      card_long (trim (automaton w) (card_observations w)) (card_actions w) (card_observations w)
      ∙ ap (λ (m : ℕ). card_length m (card_observations w)) (trim_size (automaton w) (card_observations w))

  pub trimmed_is : (m : ℕ) → m ≡ kept_cells w
      → front_of (trim (automaton w) (card_observations w)) (card_actions w) (card_observations w) ++ gather m (cell_words (trim (automaton w) (card_observations w)) (card_observations w))
      ≡ trimmed w
  unfolding trimmed card_words
  trimmed_is m e =
      let B = trim (automaton w) (card_observations w) in
      ap (λ (n : ℕ). front_of B (card_actions w) (card_observations w) ++ gather n (cell_words B (card_observations w))) (e ∙ sym (trim_size (automaton w) (card_observations w)))

-- ---- the card from the work

module _ (w : List ℕ) (e : checked w ≡ Ok tt) (work : List ℕ) (R : Renumbering (automaton w) (card_observations w) work) where
  abbrev A : Automaton
  A = automaton w

  abbrev seen : ℕ
  seen = card_observations w

  few : A.size ≤ max_cells
  few = (fitting w e).cells

  work_long : length work ≡ card_cells w
  work_long = R.size ∙ size_of w

  some_work : 0 < length work
  some_work = omega (arith, R.size, (fitting w e).some_cell)

  -- the names of a row of the card, written to a row of the room
  abbrev RowNeeds : (at n : ℕ) → (out : List ℕ) → Type 0
  RowNeeds at n d =
      let row = take n (drop at w) in
      Naming row 0 (length row) (length work) × (length row ≤ number_values) × (length d ≡ 1 + length row) × (0 < length work)

  -- as the code has them: o observations and m cells kept
  module _ (o m : ℕ) (is : o ≡ seen) (many : m ≡ kept_cells w) where
    abbrev parts : ℕ → List ℕ
    parts = cell_words (trim A seen) seen

    pub kept_fit : m ≤ card_cells w
    kept_fit = omega (arith, many, kept_few A seen, size_of w)

    sized : m ≡ (trim A seen).size
    sized = many ∙ sym (trim_size A seen)

    -- the front
    pub front_is : (n a own : ℕ) → n ≡ o → a ≡ card_actions w → own ≡ card_head m o a
        → row_words (take n (drop 1 w)) 0 (length (take n (drop 1 w))) kind_first own work ≡ front_of (trim A seen) (card_actions w) seen
    front_is n a own long acts h =
        row_same w 1 o n long (firsts_naming w e o (card_cells w) is refl).within kind_first own work
        ∙ ap (λ (n : ℕ). row_words w 1 n kind_first own work) is
        ∙ row_ext w 1 seen kind_first own work (card_head (trim A seen).size seen (card_actions w)) (trim A seen).begins
        (h ∙ ap₂ (λ (x y : ℕ). card_head x y a) sized is ∙ ap (card_head (trim A seen).size seen) acts)
        (λ j l.
        ap (new_name work) (first_name w e seen (card_cells w) refl refl j)
        ∙ name_new A seen work few R (A.begins j) ((fitting w e).begins_named j l) (λ b. reached_first A seen (A.begins j) j l refl)
        ∙ sym (trim_begins A seen j))

    -- it is written to a room that has room for the trimmed card
    module _ (room : List ℕ) (enough : length (trimmed w) ≤ length room) (front : ℕ) (f : front ≡ front_length o) where
      long : length (trimmed w) ≡ card_length m seen
      long = trimmed_long w ∙ ap (λ (n : ℕ). card_length n seen) (sym many)

      space : card_length m seen ≤ length room
      space = subst (λ (n : ℕ). n ≤ length room) long enough

      front_seen : front ≡ front_length seen
      front_seen = f ∙ ap front_length is

      pub front_fits : front ≤ length room
      front_fits = omega (arith, front_seen, front_within m seen (length room) space)

      pub front_inside : front ≤ length w
      front_inside = omega (arith, f, (firsts_naming w e o (card_cells w) is refl).within)

      pub front_needs : (n : ℕ) → n ≡ o → RowNeeds 1 n (take front room)
      front_needs n h =
          let long_row = row_long w 1 o n h (firsts_naming w e o (length work) is work_long).within in (
            firsts_row w e o (length work) is work_long n h,
            omega (arith, long_row, is, (fitting w e).observations),
            omega (arith, length-take-le front room front_fits, long_row, f),
            some_work,
          )

      module _ (row : List ℕ) (n a own : ℕ) (h : n ≡ o) (acts : a ≡ card_actions w) (head : own ≡ card_head m o a)
          (r : row ≡ row_words (take n (drop 1 w)) 0 (length (take n (drop 1 w))) kind_first own work) where
        row_is : row ≡ front_of (trim A seen) (card_actions w) seen
        row_is = r ∙ front_is n a own h acts head

        row_front : length (front_of (trim A seen) (card_actions w) seen) ≡ front_length seen
        row_front = front_long (trim A seen) (card_actions w) seen

        pub fronted : Carded seen m parts (row ++ drop front room) 0 (row ++ drop front room)
        fronted = carded_none seen m parts _ (fronted_room seen m parts _ front front_seen row_front room row row_is space)

        pub all_written : (i : ℕ) (out : List ℕ) → Carded seen m parts (row ++ drop front room) i out → m ≤ i → out ≡ trimmed w ++ drop (length (trimmed w)) room
        all_written i out C none =
            carded_whole seen m parts _ front front_seen row_front room row row_is space i out C none
            ∙ ap (λ (d : List ℕ). d ++ drop (card_length m seen) room) (trimmed_is w m many)
            ∙ ap (λ (n : ℕ). trimmed w ++ drop n room) (sym long)

    -- the part of the cell that is kept at place i
    module _ (i c : ℕ) (l : i < m) (here : c ≡ upper_half work i) where
      at_place : i < kept_cells w
      at_place = omega (arith, many)

      was : c ≡ get_or (kept A seen) i 0
      was = here ∙ R.old i at_place

      inside : get_or (kept A seen) i 0 < A.size
      inside = (old_in A seen i at_place).0

      pub kept_inside : c < card_cells w
      kept_inside = omega (arith, was, inside, size_of w)

      pub part_is : (n at own : ℕ) → n ≡ o → at ≡ cell_place o c → own ≡ get_or w at 0
          → row_words (take n (drop (at + 1) w)) 0 (length (take n (drop (at + 1) w))) kind_next own work ≡ cell_words (trim A seen) seen i
      unfolding cell_words
      part_is n at own long place h =
          let d = get_or (kept A seen) i 0 in
          let b = old_in A seen i at_place in
          let placed : at ≡ cell_place seen c = place ∙ ap (λ (n : ℕ). cell_place n c) is in
          row_same w (at + 1) o n long (nexts_naming w e o (card_cells w) is refl c at kept_inside place).within kind_next own work
          ∙ ap (λ (n : ℕ). row_words w (at + 1) n kind_next own work) is
          ∙ row_ext w (at + 1) seen kind_next own work (word kind_cell ((trim A seen).set i) 0 ((trim A seen).action i)) ((trim A seen).next i)
          (h ∙ ap (λ (p : ℕ). get_or w p 0) placed ∙ own_word w e c kept_inside
          ∙ ap (λ (x : ℕ). word kind_cell (A.set x) 0 (A.action x)) was
          ∙ sym (ap₂ (λ (x y : ℕ). word kind_cell x 0 y) (trim_set A seen i) (trim_action A seen i)))
          (λ j k.
          ap (new_name work) (next_name w e seen (card_cells w) refl refl c at kept_inside placed j ∙ ap (λ (x : ℕ). A.next x j) was)
          ∙ name_new A seen work few R (A.next d j) ((fitting w e).next_named d j b.0 k) (λ n. reached_next A seen d (A.next d j) j b.0 b.1 k refl n)
          ∙ sym (trim_next A seen i j))

      -- it is written behind those before it
      module _ (from : ℕ) (place : from ≡ cell_place seen c) where
        pub from_inside : from < length w
        from_inside = subst (λ (p : ℕ). p < length w) (sym place) (cell_in w e c kept_inside)

        by_read : from ≡ cell_place o c
        by_read = place ∙ ap (λ (n : ℕ). cell_place n c) (sym is)

        module _ (part : ℕ) (p : part ≡ part_length o) where
          pub part_inside : from + part ≤ length w
          part_inside = omega (arith, p, (nexts_naming w e o (card_cells w) is refl c from kept_inside by_read).within)

          module _ (d out : List ℕ) (C : Carded seen m parts d i out) (at : ℕ) (t : at ≡ cell_place o i) where
            at_seen : at ≡ cell_place seen i
            at_seen = t ∙ ap (λ (n : ℕ). cell_place n i) is

            part_seen : part ≡ part_length seen
            part_seen = p ∙ ap part_length is

            pub part_needs : (n : ℕ) → n ≡ o → RowNeeds (from + 1) n (take (at + part - at) (drop at out))
            part_needs n h =
                let long_row = row_long w (from + 1) o n h (nexts_naming w e o (length work) is work_long c from kept_inside by_read).within in (
                  nexts_row w e o (length work) is work_long c from kept_inside by_read n h,
                  omega (arith, long_row, is, (fitting w e).observations),
                  omega (arith, carded_part seen m parts d i out C l at part at_seen part_seen, long_row, is),
                  some_work,
                )

            pub part_written : (n own : ℕ) → n ≡ o → own ≡ get_or w from 0 → (row : List ℕ)
                → row ≡ row_words (take n (drop (from + 1) w)) 0 (length (take n (drop (from + 1) w))) kind_next own work
                → Carded seen m parts d (i + 1) (put_mid at (at + part - at) out row)
            part_written n own h k row r =
                carded_more seen m parts d i out C l at part at_seen part_seen row (r ∙ part_is n from own h by_read k) (cell_length (trim A seen) (card_actions w) seen i)
