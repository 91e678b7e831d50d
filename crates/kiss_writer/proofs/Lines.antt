-- Laws of the lines and of the whole text: as the code writes them, and how long they are.
-- Assumes nothing.
use mathlib.Core.Path.{◌≡◌, refl, sym, ap, ap₂, ◌∙◌}
use mathlib.Core.Logic.{⊎_elim}
use mathlib.Core.List.{List, [], ◌++◌}
use Prim.Native.Nat.{ℕ, zero, suc, ◌+◌, ◌-◌, ◌≤◌, ◌<◌}
use native.Mathlib.Omega.{arith}
use lib.ListN.{length, length-append}
use Rattle.sets.specs.Bounded.{gather}
use Rattle.games.specs.Automaton.{no_cell}
use Rattle.games.specs.Format.{max_actions, max_observations, max_cells}
use Rattle.cards.specs.Card.{automaton, card_cells, card_actions, card_observations, checked, Named}
use Rattle.cards.proofs.Checked.{fitting}
use Rattle.text.specs.Text.{bytes}
use Rattle.kiss.specs.Text.{bits, cell_name, state_name, target, line_text, head_text, machine_text, kiss_text}
use Rattle.kiss.proofs.Widths.{bits_few, bits_some}
use Rattle.kiss.proofs.Machines.{slot_none as no_line, slot_line as some-line}
use Rattle.kiss_writer.specs.Lines.{line_front, line_of, head_front, head_of, card_head_text, Narrow, Wide, slot_of, lines_of, name_bytes, line_bytes, most_bytes, head_bytes, LineLong}
use Rattle.kiss_writer.specs.declared.Bits.{Bits}
use Rattle.kiss_writer.proofs.Numbers.{digits_long}
use Rattle.std.specs.Prelude.{Ok, Option, Some, None, is_some}
use Rattle.sets.proofs.Logic.{clash}
use Rattle.games.specs.declared.Cell.{Cell}
use Rattle.cards.specs.Run.{led}
use Rattle.cards.proofs.Running.{led_some, led_none}
use mathlib.Core.Bool.{true, false}

-- ---- how long a line is

cell_long : (c : ℕ) → length (cell_name c) ≡ 6
unfolding cell_name
cell_long c = ap suc (digits_long 10 5 c)

name_long : (q : ℕ) → length (state_name q) ≡ name_bytes q
unfolding state_name
name_long zero = refl
name_long (suc c) = cell_long c

pub line_long : (a o q j n u : ℕ) → length (line_text a o q j n u) ≡ line_bytes (bits o) (bits a) q
unfolding line_text
line_long a o q j n u = simp (length-append, digits_long, name_long, cell_long) (omega arith)

-- as the code counts: a line of a cell, and one of the reset state, which is a byte shorter
module _ (w : List ℕ) (bs : Bits) (b : Wide w bs) where
  pub cell_line_lem : (q : ℕ) → 1 ≤ q → LineLong w q (bs.input + bs.output + 16)
  cell_line_lem zero l = absurd (omega arith)
  cell_line_lem (suc c) l = omega (arith, b.input, b.output)

  pub reset_line : LineLong w 0 (bs.input + bs.output + 16 - 1)
  reset_line = omega (arith, b.input, b.output)

-- ---- a state's line, where the state's name is given by its number

pub name_reset : (q : ℕ) → q ≡ 0 → state_name q ≡ bytes "reset"
unfolding state_name
name_reset q e = rw (e, state_name)

-- the number as the code has it
before : (q : ℕ) → (q ≡ 0 → ⊥) → q ≡ suc (q - 1)
before q n = omega arith

pub name_cell : (q : ℕ) → (q ≡ 0 → ⊥) → state_name q ≡ cell_name (q - 1)
unfolding state_name
name_cell q n = ap state_name (before q n)

module _ (w : List ℕ) where
  pub target_first : (q j : ℕ) → q ≡ 0 → target (automaton w) q j ≡ (automaton w).begins j
  unfolding target
  target_first q j e = ap (λ (p : ℕ). target (automaton w) p j) e

  pub target_next : (q j : ℕ) → (q ≡ 0 → ⊥) → target (automaton w) q j ≡ (automaton w).next (q - 1) j
  unfolding target
  target_next q j n = ap (λ (p : ℕ). target (automaton w) p j) (before q n)

  -- where no cell is entered there is no line
  pub slot_none : (q j n : ℕ) → n ≡ target (automaton w) q j → n ≡ no_cell → slot_of w q j ≡ []
  slot_none q j n e h = no_line (automaton w) (card_actions w) (card_observations w) q j (sym e ∙ h)

  module _ (q j n : ℕ) (e : n ≡ target (automaton w) q j) (h : n ≡ no_cell → ⊥) where
    pub slot_line : (u : ℕ) → u ≡ (automaton w).action n → slot_of w q j ≡ line_text (card_actions w) (card_observations w) q j n u
    slot_line u f =
        some-line (automaton w) (card_actions w) (card_observations w) q j (λ g. h (e ∙ g))
        ∙ ap₂ (line_text (card_actions w) (card_observations w) q j) (sym e) (ap (λ (c : ℕ). (automaton w).action c) (sym e) ∙ sym f)

    -- as it is written, with the bits of the card
    pub slot_written : (bs : Bits) → Wide w bs → (u : ℕ) → u ≡ (automaton w).action n → line_of bs.input bs.output q j n u ≡ slot_of w q j
    unfolding line_of line_front line_text
    slot_written bs b u f =
        ap₂ (λ (x y : ℕ). line_of x y q j n u) b.input b.output ∙ sym (slot_line u f)

    pub slot_long : length (slot_of w q j) ≡ line_bytes (bits (card_observations w)) (bits (card_actions w)) q
    slot_long = ap length (slot_line ((automaton w).action n) refl) ∙ line_long (card_actions w) (card_observations w) q j n ((automaton w).action n)

-- ---- the cell entered, as the code has it: x is the cell that state q goes to on observation j

module _ (w : List ℕ) (q j : ℕ) (x : Option Cell) (e : x ≡ led (target (automaton w) q j)) where
  pub cell_entered : (d : Cell) → x ≡ Some d → (d.0 ≡ target (automaton w) q j) × (d.0 ≡ no_cell → ⊥)
  cell_entered d f =
      let s = led_some (target (automaton w) q j) d (sym e ∙ f) in
      let t : d.0 ≡ target (automaton w) q j = ap (λ (c : Cell). c.0) s.1 in
      (t, λ g. s.0 (sym t ∙ g))

  pub some_entered : is_some x ≡ true → target (automaton w) q j ≡ no_cell → ⊥
  some_entered f g =
      let h : is_some x ≡ false = ap is_some e ∙ ap (λ (c : ℕ). is_some (led c)) g in
      clash f h

  pub none_entered : is_some x ≡ false → target (automaton w) q j ≡ no_cell
  none_entered f = led_none (target (automaton w) q j) (sym e ∙ is_none_of x f)
    where
      is_none_of : (y : Option Cell) → is_some y ≡ false → y ≡ None
      is_none_of None h = refl
      is_none_of (Some c) h = cc

-- ---- of a checked card

module _ (w : List ℕ) (fine : checked w ≡ Ok tt) where
  pub narrow : (bs : Bits) → Wide w bs → Narrow bs
  narrow bs b =
      let f = fitting w fine in
      let i = b.input in
      let o = b.output in
      record {
        some_input = omega (arith, bits_some (card_observations w));
        inputs = omega (arith, bits_few (card_observations w) f.observations);
        some_output = omega (arith, bits_some (card_actions w));
        outputs = omega (arith, bits_few (card_actions w) f.actions);
      }

  target_named : (q j : ℕ) → q ≤ card_cells w → j < card_observations w → Named (automaton w) (target (automaton w) q j)
  unfolding target automaton
  target_named zero j l k = (fitting w fine).begins_named j k
  target_named (suc c) j l k = (fitting w fine).next_named c j l k

  -- the limits, by the card's words
  pub actions_few : card_actions w ≤ max_actions
  actions_few = (fitting w fine).actions

  pub observations_few : card_observations w ≤ max_observations
  observations_few = (fitting w fine).observations

  pub cells_few : card_cells w ≤ max_cells
  unfolding automaton
  cells_few = (fitting w fine).cells

  pub action_few : (n u : ℕ) → n < card_cells w → u ≡ (automaton w).action n → u < max_actions
  unfolding automaton
  action_few n u l e = omega (arith, (fitting w fine).action_below n l, (fitting w fine).actions)

  -- a cell that is entered is one of the card's
  pub entered_cell : (q j n : ℕ) → q ≤ card_cells w → j < card_observations w → n ≡ target (automaton w) q j → (n ≡ no_cell → ⊥) → n < card_cells w
  unfolding automaton
  entered_cell q j n l k e h =
      ⊎_elim (λ (b : target (automaton w) q j < (automaton w).size). omega arith) (λ (z : target (automaton w) q j ≡ no_cell). absurd (h (e ∙ z)))
      (target_named q j l k)

  pub line_short : (q line : ℕ) → LineLong w q line → line ≤ most_bytes
  line_short q line e =
      let f = fitting w fine in
      omega (arith, name_short q, bits_few (card_observations w) f.observations, bits_few (card_actions w) f.actions)
    where
      name_short : (q : ℕ) → name_bytes q ≤ 6
      name_short zero = omega arith
      name_short (suc c) = omega arith

-- ---- the head and the whole

module _ (w : List ℕ) (a o s : ℕ) (bs : Bits) where
  pub head_is : a ≡ card_actions w → o ≡ card_observations w → s ≡ card_cells w + 1 → Wide w bs → head_of a o s bs.input bs.output ≡ card_head_text w
  unfolding head_of head_front head_text
  head_is e f g b =
      let h : s ≡ suc (card_cells w) = omega arith in
      rw (e, f, h, b.input, b.output)

head_long : (a o m : ℕ) → length (head_text a o m) ≡ head_bytes
unfolding head_text
head_long a o m = simp (length-append, digits_long) (omega arith)

pub text_is : (w : List ℕ) → kiss_text w ≡ card_head_text w ++ gather (suc (card_cells w)) (lines_of w) ++ bytes ".e\n"
unfolding kiss_text machine_text automaton
text_is w = refl

pub text_long : (w : List ℕ) (n : ℕ) → n ≡ length (gather (suc (card_cells w)) (lines_of w)) → head_bytes + n + 3 ≡ length (kiss_text w)
text_long w n e =
    let a = card_head_text w in
    let b = gather (suc (card_cells w)) (lines_of w) in
    let h : length (kiss_text w) ≡ length (a ++ b) + 3 = ap length (text_is w) ∙ length-append (a ++ b) (bytes ".e\n") in
    omega (arith, length-append a b, head_long (card_actions w) (card_observations w) (card_cells w))
