-- The first words of a card, and the next words of a cell: what they name.
-- Assumes nothing.
use mathlib.Core.Path.{◌≡◌, sym, ap, ap₂, ◌∙◌, subst}
use mathlib.Core.Bool.{false}
use mathlib.Core.List.{List, [], ◌∷◌}
use Prim.Native.Nat.{ℕ, ◌+◌, ◌≤◌, ◌<◌}
use native.Mathlib.Omega.{arith}
use lib.ListN.{length, take, drop, get_or, replicate}
use lib.Seq.{length-take-le}
use Rattle.std.proofs.lemmas.List.{get_or-take, get_or-drop, length-drop}
use Rattle.sets.specs.Bounded.{gather}
use Rattle.sets.proofs.Fills.{gather_ext}
use Rattle.games.specs.Fields.{low_field, word}
use Rattle.games.specs.Automaton.{no_cell}
use Rattle.cards.specs.Card.{card_cells, card_observations, cell_place, automaton, checked}
use Rattle.cards.proofs.Checked.{fitting, shaped, firsts_in, part_in}
use Rattle.cards.proofs.Running.{size_of, begins_of, next_of}
use Rattle.sets.proofs.Bounded.{count_le}
use Rattle.trimmer.specs.Halves.{half_values, put_lower, marked}
use Rattle.trimmer.specs.Marking.{named_from, NamesInside, Naming, Added, Adds, Listing, Own, FirstNamed, Taking, TakingOf, TakenOff}
use Rattle.trimmer.specs.declared.Marks.{Marks}
use Rattle.trimmer.specs.Numbering.{new_name, row_words}
use Rattle.trimmer.proofs.Halves.{zeroed, put_lower_length}
use Rattle.trimmer.proofs.Marking.{added_ext, one_listing, one_marked, begun, next_inside, next_marked, rest_listing, taking_more}
use Rattle.std.specs.Prelude.{Ok}

-- what a word names
pub name_here : (w : List ℕ) (j x : ℕ) → x ≡ low_field (get_or w j 0) → x ≡ named_from w 0 j
name_here w j x h = let e : j ≡ 0 + j = omega arith in h ∙ ap (λ (k : ℕ). low_field (get_or w k 0)) e

-- words in a row by themselves: n of them, from a place on
module _ (w : List ℕ) (at many n : ℕ) (is : n ≡ many) (within : at + many ≤ length w) where
  abbrev row : List ℕ
  row = take n (drop at w)

  pub row_long : length row ≡ many
  row_long = length-take-le n (drop at w) (omega (arith, length-drop at w)) ∙ is

  row_named : (j : ℕ) → j < many → named_from row 0 j ≡ named_from w at j
  row_named j l =
      let e : 0 + j ≡ j = omega arith in
      ap low_field (ap (λ (i : ℕ). get_or row i 0) e ∙ get_or-take n (drop at w) j 0 (omega arith) ∙ get_or-drop at w j 0)

  pub row_naming : (cells : ℕ) → Naming w at many cells → Naming row 0 (length row) cells
  row_naming cells N =
      record {
        within = omega arith;
        few = N.few;
        named = λ j l. let b : j < many = omega (arith, row_long) in subst (λ (x : ℕ). NamesInside x cells) (sym (row_named j b)) (N.named j b);
      }

  pub row_added : (u : List ℕ) (m next : ℕ) (v : List ℕ) (k top : ℕ) → Added (named_from row 0) (length row) u m next v k top → Added (named_from w at) many u m next v k top
  row_added u m next v k top D =
      added_ext (named_from row 0) (named_from w at) many u m next v k top row_named
      (subst (λ (x : ℕ). Added (named_from row 0) x u m next v k top) row_long D)

  pub row_same : (k own : ℕ) (work : List ℕ) → row_words row 0 (length row) k own work ≡ row_words w at many k own work
  unfolding row_words
  row_same k own work =
      ap (λ (x : ℕ). own ∷ gather x (λ j. word k (new_name work (named_from row 0 j)) j 0 ∷ [])) row_long
      ∙ ap (λ (l : List ℕ). own ∷ l)
      (gather_ext many (λ j. word k (new_name work (named_from row 0 j)) j 0 ∷ []) (λ j. word k (new_name work (named_from w at j)) j 0 ∷ [])
      (λ j l. ap (λ (x : ℕ). word k (new_name work x) j 0 ∷ []) (row_named j l)))

-- ---- the words of a card

module _ (w : List ℕ) (e : checked w ≡ Ok tt) where
  few_cells : card_cells w ≤ no_cell
  few_cells = omega (arith, (fitting w e).cells, size_of w)

  module _ (o cells : ℕ) (seen : o ≡ card_observations w) (many : cells ≡ card_cells w) where
    -- a cell's number, told by the automaton
    inside : (x y : ℕ) → x ≡ y → NamesInside y (automaton w).size → NamesInside x cells
    inside x y f n = subst (λ (m : ℕ). NamesInside x m) (size_of w ∙ sym many) (subst (λ (z : ℕ). NamesInside z (automaton w).size) (sym f) n)

    pub first_name : (j : ℕ) → named_from w 1 j ≡ (automaton w).begins j
    first_name j = sym (begins_of w j)

    pub firsts_naming : Naming w 1 o cells
    firsts_naming =
        record {
          within = omega (arith, firsts_in w (shaped w e), seen);
          few = omega (arith, few_cells, many);
          named = λ j l. inside (named_from w 1 j) ((automaton w).begins j) (first_name j) ((fitting w e).begins_named j (omega (arith, seen)));
        }

    pub firsts_row : (n : ℕ) → n ≡ o → Naming (take n (drop 1 w)) 0 (length (take n (drop 1 w))) cells
    firsts_row n is = row_naming w 1 o n is firsts_naming.within cells firsts_naming

    module _ (c at : ℕ) (l : c < card_cells w) (place : at ≡ cell_place o c) where
      placed : at ≡ cell_place (card_observations w) c
      placed = place ∙ ap (λ (n : ℕ). cell_place n c) seen

      pub next_name : (j : ℕ) → named_from w (at + 1) j ≡ (automaton w).next c j
      next_name j = ap (λ (p : ℕ). low_field (get_or w (p + 1 + j) 0)) placed ∙ sym (next_of w c j)

      pub nexts_naming : Naming w (at + 1) o cells
      nexts_naming =
          record {
            within = omega (arith, part_in w (shaped w e) c at l placed, seen);
            few = omega (arith, few_cells, many);
            named = λ j b.
                inside (named_from w (at + 1) j) ((automaton w).next c j) (next_name j)
                ((fitting w e).next_named c j (subst (λ (m : ℕ). c < m) (sym (size_of w)) l) (omega (arith, seen)));
          }

      pub nexts_row : (n : ℕ) → n ≡ o → Naming (take n (drop (at + 1) w)) 0 (length (take n (drop (at + 1) w))) cells
      nexts_row n is = row_naming w (at + 1) o n is nexts_naming.within cells nexts_naming

-- ---- the marking

-- no cell is marked, and then the first one that is named: it waits, and the others that first words name do after it
module _ (w : List ℕ) (e : checked w ≡ Ok tt) (zeros : List ℕ) (n : ℕ) (cleared : zeros ≡ replicate n 0) (long : length zeros ≡ card_cells w)
    (c : ℕ) (F : FirstNamed (automaton w) (card_observations w) c) where
  sized : length zeros ≡ (automaton w).size
  sized = long ∙ sym (size_of w)

  few : length zeros ≤ half_values
  few = omega (arith, sized, (fitting w e).cells)

  no_marks : (d : ℕ) → marked zeros d ≡ false
  no_marks d = ap (λ (z : List ℕ). marked z d) cleared ∙ zeroed n d

  pub first_inside : c < length zeros
  first_inside = omega (arith, F.inside, sized)

  module _ (one : List ℕ) (is : one ≡ put_lower zeros c 1) (o : ℕ) (seen : o ≡ card_observations w) (k : ℕ) (all : k ≡ o) where
    one_long : length one ≡ card_cells w
    one_long = ap length is ∙ put_lower_length zeros c 1 ∙ long

    pub first_needs : Naming (take k (drop 1 w)) 0 (length (take k (drop 1 w))) (length one) × Listing one 1 c × Own one c
    first_needs = (
      firsts_row w e o (length one) seen one_long k all,
      subst (λ (v : List ℕ). Listing v 1 c) (sym is) (one_listing zeros no_marks c first_inside few),
      record { inside = omega (arith, first_inside, one_long, long); is_marked = ap (λ (v : List ℕ). marked v c) is ∙ one_marked zeros no_marks c first_inside few },
    )

    pub firsts_taken : (v : List ℕ) (m next : ℕ) → Added (named_from (take k (drop 1 w)) 0) (length (take k (drop 1 w))) one 1 c v m next
        → Taking (automaton w) (card_observations w) 0 v m next
    firsts_taken v m next D =
        let A = automaton w in
        let added = row_added w 1 o k all (firsts_naming w e o (length one) seen one_long).within one 1 c v m next D in
        begun zeros no_marks c first_inside few A (card_observations w) sized F v m next
        (added_ext (named_from w 1) A.begins (card_observations w) _ 1 c v m next (λ j l. first_name w e o (length one) seen one_long j)
        (subst (λ (u : List ℕ). Added (named_from w 1) (card_observations w) u 1 c v m next) is
        (subst (λ (x : ℕ). Added (named_from w 1) x one 1 c v m next) seen added)))

-- the cell that is next is taken up: it is taken off, and those that its next words name wait after it
module _ (w : List ℕ) (e : checked w ≡ Ok tt) (o t : ℕ) (seen : o ≡ card_observations w) (m : Marks) (T : TakingOf (automaton w) (card_observations w) t m)
    (some : 0 < m.waiting) where
  pub few_taken : t + m.waiting ≤ card_cells w
  few_taken = omega (arith, T.many, count_le (automaton w).size (marked m.work.now), size_of w)

  pub some_waiting : (0 < m.waiting) × (m.waiting ≤ length m.work.now)
  some_waiting = (some, omega (arith, few_taken, T.size, size_of w))

  next_below : m.next.0 < (automaton w).size
  next_below = next_inside (automaton w) (card_observations w) t m.work.now m.waiting m.next.0 T some

  module _ (v : Marks) (D : TakenOff m v) (c : ℕ) (is : c ≡ m.next.0) where
    pub cell_below : c < card_cells w
    cell_below = omega (arith, is, next_below, size_of w)

    module _ (at : ℕ) (place : at ≡ cell_place (card_observations w) c) (k : ℕ) (all : k ≡ o) where
      many : length v.work.now ≡ card_cells w
      many = ap length D.unchanged ∙ T.size ∙ size_of w

      by_seen : at ≡ cell_place o c
      by_seen = place ∙ ap (λ (x : ℕ). cell_place x c) (sym seen)

      pub nexts_within : at + 1 + o ≤ length w
      nexts_within = (nexts_naming w e o (length v.work.now) seen many c at cell_below by_seen).within

      listing : Listing v.work.now v.waiting v.next.0
      listing =
          subst (λ (u : List ℕ). Listing u v.waiting v.next.0) (sym D.unchanged)
          (rest_listing (automaton w) (card_observations w) t m.work.now m.waiting m.next.0 T some v.waiting v.next.0 D.less D.behind D.fits)

      own : Own v.work.now c
      own = record {
        inside = omega (arith, many, cell_below);
        is_marked = ap₂ (λ (u : List ℕ) (x : ℕ). marked u x) D.unchanged is ∙ next_marked (automaton w) (card_observations w) t m.work.now m.waiting m.next.0 T some;
      }

      pub next_needs : Naming (take k (drop (at + 1) w)) 0 (length (take k (drop (at + 1) w))) (length v.work.now) × Listing v.work.now v.waiting v.next.0 × Own v.work.now c
      next_needs = (nexts_row w e o (length v.work.now) seen many c at cell_below by_seen k all, listing, own)

      pub next_taken : (u : Marks) → Adds (named_from (take k (drop (at + 1) w)) 0) (length (take k (drop (at + 1) w))) v u
          → TakingOf (automaton w) (card_observations w) (t + 1) u × (u.work.ghost_name ≡ m.work.ghost_name)
      next_taken u E =
          let A = automaton w in
          let added = row_added w (at + 1) o k all nexts_within v.work.now v.waiting v.next.0 u.work.now u.waiting u.next.0 E.added in (
            taking_more A (card_observations w) t m.work.now m.waiting m.next.0 T some v.waiting v.next.0 D.less D.behind u.work.now u.waiting u.next.0
                (subst (λ (x : List ℕ). Added (A.next m.next.0) (card_observations w) x v.waiting v.next.0 u.work.now u.waiting u.next.0) D.unchanged
                (added_ext (named_from w (at + 1)) (A.next m.next.0) (card_observations w) v.work.now v.waiting v.next.0 u.work.now u.waiting u.next.0
                (λ j l. next_name w e o (length v.work.now) seen many c at cell_below by_seen j ∙ ap (λ (x : ℕ). A.next x j) is)
                (subst (λ (x : ℕ). Added (named_from w (at + 1)) x v.work.now v.waiting v.next.0 u.work.now u.waiting u.next.0) seen added))),
            E.same_work ∙ D.same_work,
          )
