-- The words of a card with one line more, and of a blank card.
-- Assumes nothing.
use mathlib.Core.Path.{◌≡◌, refl, sym, ap, ap₂, subst, ◌∙◌}
use mathlib.Core.Logic.{⊎_elim}
use mathlib.Core.Bool.{Bool, true, false, cond}
use mathlib.Core.List.{List, ◌++◌, append-nil}
use Prim.Native.Nat.{ℕ, zero, suc, ◌+◌, ◌*◌, ◌/◌, ◌%◌, ◌≤◌, ◌<◌}
use native.Mathlib.Nat.{suc-mul, mul-le-mul, mul-le-mul_right}
use native.Mathlib.Omega.{arith}
use lib.Dec.{eqb}
use lib.ListN.{length, get_or, set, drop, length-set}
use lib.Seq.{drop-length, ext_get_or, get_or-set_same, get_or-set_other}
use borrow.Author.Tests.{eqb-true, eqb-false}
use Rattle.sets.specs.Bounded.{gather}
use Rattle.sets.proofs.Logic.{decided}
use Rattle.games.specs.Format.{max_observations, max_cells, kind_values, kind_first, kind_cell, kind_next}
use Rattle.games.specs.Automaton.{Automaton, no_cell}
use Rattle.games.specs.Fields.{word}
use Rattle.games.specs.Words.{front_length, part_length, card_length, card_head, cell_words, card_words}
use Rattle.cards.specs.Card.{head_place, first_place, cell_place, next_place}
use Rattle.cards.proofs.Parts.{row_length, Carded, carded_none, fronted_room, carded_whole}
use Rattle.cards.proofs.Spots.{every_place}
use Rattle.cards.proofs.Checked.{cell_within}
use Rattle.cards.proofs.Written.{card_long, head_at, first_at, cell_at, next_at}
use Rattle.form.proofs.Texts.{glued}
use Rattle.kiss.specs.Text.{target}
use Rattle.kiss.specs.Profile.{blank, with_line}
use Rattle.kiss.proofs.Machines.{line_size, set_entered, set_other, action_entered, action_other, target_here, target_other}
use Rattle.kiss_reader.proofs.Parts.{kind_next_lem}
use Rattle.kiss_reader.specs.Storing.{most_words, blank_row, slot_place, slot_kind, stored}

-- ---- places: the rows are as long as each other, so a place is a row and a number in it

pub same_row : (w x r y s : ℕ) → r < w → s < w → x * w + r ≡ y * w + s → (x ≡ y) × (r ≡ s)
same_row w x r y s l k e = (
  sym (glued x r w l).0 ∙ ap (λ (n : ℕ). n / w) e ∙ (glued y s w k).0,
  sym (glued x r w l).1 ∙ ap (λ (n : ℕ). n % w) e ∙ (glued y s w k).1,
)

module _ (o : ℕ) where
  -- a slot is at no cell's own word, and not at the head
  pub slot_cell : (q j c : ℕ) → j < o → slot_place o q j ≡ cell_place o c → ⊥
  slot_cell q j c l e =
      let f : q * part_length o + (1 + j) ≡ suc c * part_length o + 0 = omega (arith, suc-mul c (part_length o)) in
      let g = same_row (part_length o) q (1 + j) (suc c) 0 (omega arith) (omega arith) f in
      omega (arith, g.1)

  pub slot_slot : (q j r i : ℕ) → j < o → i < o → slot_place o q j ≡ slot_place o r i → (q ≡ r) × (j ≡ i)
  slot_slot q j r i l k e =
      let f : q * part_length o + (1 + j) ≡ r * part_length o + (1 + i) = omega arith in
      let g = same_row (part_length o) q (1 + j) r (1 + i) (omega arith) (omega arith) f in
      (g.0, omega (arith, g.1))

  pub cell_cell : (c d : ℕ) → cell_place o c ≡ cell_place o d → c ≡ d
  cell_cell c d e =
      let f : c * part_length o + 0 ≡ d * part_length o + 0 = omega arith in
      (same_row (part_length o) c 0 d 0 (omega arith) (omega arith) f).0

  pub slot_within : (m q j : ℕ) → q ≤ m → j < o → slot_place o q j < card_length m o
  slot_within m q j l k = let e : q * part_length o ≤ m * part_length o = mul-le-mul_right (part_length o) l in omega arith

  -- as the code has them, for at most so many cells and observations
  pub row_small : (q : ℕ) → q ≤ max_cells → o ≤ max_observations → q * part_length o ≤ 36864
  row_small q l k = mul-le-mul {n₁ = q} {m₁ = part_length o} {n₂ = max_cells} {m₂ = 9} l (omega arith)

  pub card_small : (m : ℕ) → m ≤ max_cells → o ≤ max_observations → card_length m o ≤ most_words
  card_small m l k = omega (arith, row_small m l k)

-- ---- the words of a slot

module _ (A : Automaton) (a o : ℕ) where
  slot_at : (q j : ℕ) → q ≤ A.size → j < o → get_or (card_words A a o) (slot_place o q j) 0 ≡ word (slot_kind q) (target A q j) j 0
  unfolding target
  slot_at zero j l k =
      let e : slot_place o zero j ≡ first_place j = omega arith in
      ap (λ (p : ℕ). get_or (card_words A a o) p 0) e ∙ first_at A a o j k
  slot_at (suc c) j l k =
      let e : slot_place o (suc c) j ≡ next_place o c j = omega (arith, suc-mul c (part_length o)) in
      ap (λ (p : ℕ). get_or (card_words A a o) p 0) e ∙ next_at A a o c j (omega arith) k ∙ ap (λ (x : ℕ). word x (A.next c j) j 0) (kind_next_lem (suc c) (λ e. omega arith))

-- with a line
module _ (B : Automaton) (a o q j n u : ℕ) (lq : q ≤ B.size) (lj : j < o) (ln : n < B.size) where
  abbrev C : Automaton
  C = with_line B q j n u

  abbrev w : List ℕ
  w = card_words B a o

  abbrev v : List ℕ
  v = card_words C a o

  abbrev once : List ℕ
  once = set w (slot_place o q j) (word (slot_kind q) n j 0)

  abbrev twice : List ℕ
  twice = set once (cell_place o n) (word kind_cell 0 0 u)

  long : length w ≡ card_length B.size o
  long = card_long B a o

  as_long : length v ≡ length twice
  as_long =
      card_long C a o ∙ ap (λ (m : ℕ). card_length m o) (line_size B q j n u)
      ∙ sym (length-set once (cell_place o n) (word kind_cell 0 0 u) ∙ length-set w (slot_place o q j) (word (slot_kind q) n j 0) ∙ long)

  untouched : (p : ℕ) → (p ≡ slot_place o q j → ⊥) → (p ≡ cell_place o n → ⊥) → get_or twice p 0 ≡ get_or w p 0
  untouched p x y = get_or-set_other once (cell_place o n) p (word kind_cell 0 0 u) 0 y ∙ get_or-set_other w (slot_place o q j) p (word (slot_kind q) n j 0) 0 x

  at_cell_lem : get_or twice (cell_place o n) 0 ≡ word kind_cell 0 0 u
  at_cell_lem =
      get_or-set_same once (cell_place o n) (word kind_cell 0 0 u) 0
      (subst (λ (k : ℕ). cell_place o n < k) (sym (length-set w (slot_place o q j) (word (slot_kind q) n j 0) ∙ long)) (cell_within B.size o n ln))

  at_slot : get_or twice (slot_place o q j) 0 ≡ word (slot_kind q) n j 0
  at_slot =
      get_or-set_other once (cell_place o n) (slot_place o q j) (word kind_cell 0 0 u) 0 (slot_cell o q j n lj)
      ∙ get_or-set_same w (slot_place o q j) (word (slot_kind q) n j 0) 0 (subst (λ (k : ℕ). slot_place o q j < k) (sym long) (slot_within o B.size q j lq lj))

  -- each word of it
  grown : (m : ℕ) → m ≤ B.size → m ≤ C.size
  grown m l = subst (λ (k : ℕ). m ≤ k) (sym (line_size B q j n u)) l

  other_slot : (r i : ℕ) → r ≤ B.size → i < o → (q ≡ r → i ≡ j → ⊥) → get_or v (slot_place o r i) 0 ≡ get_or twice (slot_place o r i) 0
  other_slot r i lr li h =
      slot_at C a o r i (grown r lr) li
      ∙ ap (λ (x : ℕ). word (slot_kind r) x i 0) (target_other B q j n u r i h)
      ∙ sym (slot_at B a o r i lr li)
      ∙ sym (untouched (slot_place o r i) (λ e. let g = slot_slot o r i q j li lj e in h (sym g.0) g.1) (slot_cell o r i n li))

  same_slot : get_or v (slot_place o q j) 0 ≡ get_or twice (slot_place o q j) 0
  same_slot = slot_at C a o q j (grown q lq) lj ∙ ap (λ (x : ℕ). word (slot_kind q) x j 0) (target_here B q j n u) ∙ sym at_slot

  any_slot : (r i : ℕ) → r ≤ B.size → i < o → get_or v (slot_place o r i) 0 ≡ get_or twice (slot_place o r i) 0
  any_slot r i lr li =
      ⊎_elim
      (λ e. ⊎_elim
      (λ f.
      let er : q ≡ r = eqb-true q r e in
      let ei : j ≡ i = sym (eqb-true i j f) in
      subst (λ (k : ℕ). get_or v (slot_place o k i) 0 ≡ get_or twice (slot_place o k i) 0) er
      (subst (λ (k : ℕ). get_or v (slot_place o q k) 0 ≡ get_or twice (slot_place o q k) 0) ei same_slot))
      (λ f. other_slot r i lr li (λ x y. eqb-false i j f y))
      (decided (eqb i j)))
      (λ e. other_slot r i lr li (λ x y. eqb-false q r e x))
      (decided (eqb q r))

  any_cell : (c : ℕ) → c < B.size → get_or v (cell_place o c) 0 ≡ get_or twice (cell_place o c) 0
  any_cell c l =
      cell_at C a o c (grown (suc c) l)
      ∙ ⊎_elim
      (λ e.
      let f : n ≡ c = sym (eqb-true c n e) in
      subst (λ (k : ℕ). word kind_cell (C.set k) 0 (C.action k) ≡ get_or twice (cell_place o k) 0) f
      (ap (λ (x : ℕ). word kind_cell x 0 (C.action n)) (set_entered B q j n u) ∙ ap (λ (x : ℕ). word kind_cell 0 0 x) (action_entered B q j n u) ∙ sym at_cell_lem))
      (λ e.
      let h = eqb-false c n e in
      ap (λ (x : ℕ). word kind_cell x 0 (C.action c)) (set_other B q j n u c h) ∙ ap (λ (x : ℕ). word kind_cell (B.set c) 0 x) (action_other B q j n u c h)
      ∙ sym (cell_at B a o c l)
      ∙ sym (untouched (cell_place o c) (λ f. slot_cell o q j c lj (sym f)) (λ f. h (cell_cell o c n f))))
      (decided (eqb c n))

  at_head : get_or v head_place 0 ≡ get_or twice head_place 0
  at_head =
      head_at C a o ∙ ap (λ (m : ℕ). card_head m o a) (line_size B q j n u) ∙ sym (head_at B a o)
      ∙ sym (untouched head_place (λ e. omega arith) (λ e. omega arith))

  pub stored_line : stored o q j n u w ≡ v
  unfolding stored
  stored_line =
      sym
      (ext_get_or 0 v twice as_long
      (λ p l.
      every_place B.size o (λ k. get_or v k 0 ≡ get_or twice k 0)
      at_head
      (λ i b. let e : slot_place o 0 i ≡ first_place i = omega arith in subst (λ (k : ℕ). get_or v k 0 ≡ get_or twice k 0) e (any_slot 0 i (omega arith) b))
      any_cell
      (λ c i b k. let e : slot_place o (suc c) i ≡ next_place o c i = omega (arith, suc-mul c (part_length o)) in subst (λ (x : ℕ). get_or v x 0 ≡ get_or twice x 0) e (any_slot (suc c) i b k))
      p (subst (λ (k : ℕ). p < k) (card_long C a o ∙ ap (λ (m : ℕ). card_length m o) (line_size B q j n u)) l)))

-- ---- a blank card

pub blank_part : (m o c : ℕ) → blank_row kind_next (word kind_cell 1 0 0) o ≡ cell_words (blank m) o c
unfolding blank cell_words
blank_part m o c = refl

pub blank_card : (m a o : ℕ) → blank_row kind_first (card_head m o a) o ++ gather m (cell_words (blank m) o) ≡ card_words (blank m) a o
unfolding blank card_words
blank_card m a o = refl

-- the parts written fill the words
blank_whole : (m a o : ℕ) (d : List ℕ) → length d ≡ card_length m o → (blank_row kind_first (card_head m o a) o ++ gather m (cell_words (blank m) o)) ++ drop (card_length m o) d ≡ card_words (blank m) a o
blank_whole m a o d e =
    ap (λ (n : ℕ). (blank_row kind_first (card_head m o a) o ++ gather m (cell_words (blank m) o)) ++ drop n d) (sym e)
    ∙ ap (λ (l : List ℕ). (blank_row kind_first (card_head m o a) o ++ gather m (cell_words (blank m) o)) ++ l) (drop-length d)
    ∙ append-nil (blank_row kind_first (card_head m o a) o ++ gather m (cell_words (blank m) o))
    ∙ blank_card m a o

-- a front of f words stands in the room of the card, and the parts are written behind it
module _ (m a o f x : ℕ) (size : f ≡ front_length o) (head_is : x ≡ card_head m o a) (room row : List ℕ) (is : row ≡ blank_row kind_first x o) (long : length room ≡ card_length m o) where
  abbrev front : List ℕ
  front = blank_row kind_first (card_head m o a) o

  front_long : length front ≡ front_length o
  front_long = row_length o (λ j. word kind_first no_cell j 0)

  row_is : row ≡ front
  row_is = is ∙ ap (λ (y : ℕ). blank_row kind_first y o) head_is

  pub blank_fronted : Carded o m (cell_words (blank m) o) (row ++ drop f room) 0 (row ++ drop f room)
  blank_fronted = carded_none o m (cell_words (blank m) o) _ (fronted_room o m (cell_words (blank m) o) front f size front_long room row row_is (omega (arith, long)))

  pub blank_written : (c : ℕ) (d : List ℕ) → Carded o m (cell_words (blank m) o) (row ++ drop f room) c d → m ≤ c → d ≡ card_words (blank m) a o
  blank_written c d w h =
      carded_whole o m (cell_words (blank m) o) front f size front_long room row row_is (omega (arith, long)) c d w h
      ∙ blank_whole m a o room long

-- ---- as the code stores a line

kind_picked : (b : Bool) → cond b kind_first kind_next < kind_values
kind_picked true = omega arith
kind_picked false = omega arith

pub kind_small : (q : ℕ) → slot_kind q < kind_values
kind_small q = kind_picked (eqb q 0)

pub stored_is : (o q j n u : ℕ) (w : List ℕ) (p k x c y : ℕ) → p ≡ part_length o → k ≡ slot_kind q → x ≡ word k n j 0 → c ≡ cell_place o n → y ≡ word kind_cell 0 0 u
    → set (set w (q * p + 1 + j) x) c y ≡ stored o q j n u w
unfolding stored
stored_is o q j n u w p k x c y ep ek ex ec ey =
    let e : x ≡ word (slot_kind q) n j 0 = ex ∙ ap (λ (i : ℕ). word i n j 0) ek in
    ap (λ (i : ℕ). set (set w (q * i + 1 + j) x) c y) ep
    ∙ ap (λ (i : ℕ). set (set w (slot_place o q j) i) c y) e
    ∙ ap₂ (λ (i v : ℕ). set (set w (slot_place o q j) (word (slot_kind q) n j 0)) i v) ec ey
