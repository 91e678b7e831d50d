-- Laws of the printed texts: a cell's field by its case, the pieces that a loop writes, and how many bytes a card takes.
-- Assumes nothing.
use mathlib.Core.Path.{◌≡◌, refl, sym, ap, subst, ◌∙◌}
use mathlib.Core.List.{List, [], ◌∷◌, ◌++◌}
use Rattle.std.specs.Prelude.{Ok, Option}
use Prim.Native.Nat.{ℕ, zero, suc, ◌+◌, ◌*◌, ◌≤◌, ◌<◌}
use native.Mathlib.Nat.{suc-mul, mul_assoc, mul-le-mul_right}
use native.Mathlib.Numerals.{add-one}
use native.Mathlib.Omega.{arith}
use mathlib.Core.Logic.{⊎_elim}
use mathlib.Core.Bool.{true, false}
use lib.Dec.{eqb}
use Rattle.sets.proofs.Logic.{decided}
use Rattle.games.specs.declared.Cell.{Cell}
use Rattle.cards.specs.Run.{led}
use lib.ListN.{length, get_or, take, drop}
use lib.Seq.{take-append_seam}
use Rattle.sets.specs.Bounded.{gather}
use Rattle.games.specs.Automaton.{no_cell}
use Rattle.games.specs.Words.{part_length}
use Rattle.cards.specs.Card.{card_cells, card_observations, checked}
use Rattle.cards.proofs.Checked.{sound}
use Rattle.text.specs.Text.{Wrote}
use Rattle.text.specs.Puts.{Puts}
use Rattle.text.specs.declared.Writer.{Writer}
use Rattle.text.proofs.Writing.{puts_then, puts_gathered_none, puts_gathered_more, wrote_front}
use Rattle.printout.specs.Lines.{cell_text, cell_field, line_bytes}
use Rattle.printout.specs.Fields.{field_of, with_fields}
use Rattle.printout.specs.declared.Field.{Field}
use Rattle.printout.specs.declared.Field.TheVariants.{Entered}

-- the field of the cell that a number names, as the code has it
pub entered_field : (c : ℕ) (x : Option Cell) → x ≡ led c → field_of (Entered x) ≡ cell_field c
unfolding cell_field cell_text
entered_field c x e =
    rw e
    (⊎_elim (λ (h : eqb c no_cell ≡ true). rw (h, cell_text) refl) (λ (h : eqb c no_cell ≡ false). rw (h, cell_text) refl) (decided (eqb c no_cell)))

-- ---- the fields of a line

-- one field more
with_more : (fs : List Field) (i : ℕ) (s : List ℕ) (d : Field) → i < length fs → with_fields s (take (i + 1) fs) ≡ with_fields s (take i fs) ++ field_of (get_or fs i d)
with_more [] i s d l = absurd (omega arith)
with_more (f ∷ fs) zero s d l = refl
with_more (f ∷ fs) (suc i) s d l = rw (add-one (suc i)) (rw (add-one i) at (with_more fs i (s ++ field_of f) d (omega arith)))

pub fields_more : (s : List ℕ) (fs : List Field) (i : ℕ) (d : Field) {w v u : Writer}
    → i < length fs → Puts (with_fields s (take i fs)) w v → Puts (field_of (get_or fs i d)) v u → Puts (with_fields s (take (i + 1) fs)) w u
fields_more s fs i d l a b = rw (with_more fs i s d l) (puts_then a b)

-- ---- a loop over n pieces, of `width` bytes at most

-- the pieces below j are written
pub record Below (piece : ℕ → List ℕ) (width j : ℕ) (w v : Writer) : Type 0 where
  pub puts : Puts (gather j piece) w v
  pub most : v.at ≤ w.at + j * width

-- one piece more is no longer than all of them
inside : (j n width : ℕ) → j < n → j * width + width ≤ n * width
inside j n width l = let h = mul-le-mul_right {m = suc j} {n = n} width l in omega (arith, suc-mul j width)

module _ (piece : ℕ → List ℕ) (width : ℕ) where
  pub below_none : {w : Writer} → Below piece width 0 w w
  below_none = record { puts = puts_gathered_none piece; most = omega arith }

  module _ (j : ℕ) {w v : Writer} (b : Below piece width j w v) where
    -- there is room for one more
    pub below_fits : (n : ℕ) → j < n → v.at + width ≤ w.at + n * width
    below_fits n l = omega (arith, b.most, inside j n width l)

    -- it is written
    pub below_more : {s : List ℕ} {u : Writer} → s ≡ piece j → Puts s v u × (u.at ≤ v.at + width) → Below piece width (j + 1) w u
    below_more {s} {u} t l =
        let h : u.at ≤ v.at + width = l.1 in
        record {
          puts = puts_gathered_more piece j b.puts (subst (λ (x : List ℕ). Puts x v u) t l.0);
          most = rw (add-one j) (omega (arith, b.most, suc-mul j width));
        }

    -- all of them are; m is their number as the definition has it
    pub below_all : (n m : ℕ) → n ≡ m → j ≤ n → n ≤ j → Puts (gather m piece) w v × (v.at ≤ w.at + m * width)
    below_all n m g h l =
        let e : j ≡ m = omega arith in
        (subst (λ (i : ℕ). Puts (gather i piece) w v) e b.puts, rw (← e) b.most)

-- ---- how many bytes a card takes

-- a line for each of its words but the head
pub card_bytes : (w : List ℕ) → checked w ≡ Ok tt
    → card_observations w * line_bytes + card_cells w * (part_length (card_observations w) * line_bytes) + line_bytes ≡ length w * line_bytes
card_bytes w k =
    let o = card_observations w in
    let m = card_cells w in
    omega (arith, (sound w k).long, mul_assoc m (part_length o) line_bytes)

-- ---- a text in the front of a buffer that has room for it: what a program prints up to the place behind it is the text

module _ {s d e : List ℕ} {r : ℕ} (v : Wrote s 0 d r e) (l : r ≤ length d) where
  pub front_taken : take r e ≡ s
  front_taken =
      let h : r ≡ length s = omega (arith, v.next) in
      rw (wrote_front v (omega arith), h) (take-append_seam s (drop (length s) d))

  -- and as many bytes
  pub front_length : r ≡ length (take r e)
  front_length = let h : r ≡ length s = omega (arith, v.next) in h ∙ ap length (sym front_taken)
