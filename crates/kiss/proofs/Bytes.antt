-- Every element of the text of a card is a byte.
-- Assumes nothing.
use Prim.{tt}
use mathlib.Core.Path.{◌≡◌, refl}
use mathlib.Core.Logic.{⊎_elim}
use mathlib.Core.Bool.{Bool, true, ◌&&◌}
use mathlib.Core.List.{List, [], ◌∷◌, ◌++◌}
use Prim.Native.Nat.{ℕ, zero, suc, ◌≤◌, ◌<◌}
use native.Mathlib.Nat.{le_refl, le_step}
use native.Mathlib.Omega.{arith}
use lib.Dec.{eqb, ltb}
use borrow.Author.Tests.{ltb-true, eqb-true, eqb-false}
use Rattle.sets.specs.Bounded.{gather}
use Rattle.sets.proofs.Logic.{decided, and_left, and_right}
use Rattle.games.specs.Format.{max_actions, max_observations, max_cells}
use Rattle.games.specs.Automaton.{Automaton, no_cell}
use Rattle.cards.specs.Card.{automaton, card_actions, card_observations, checked, Fitting}
use Rattle.cards.proofs.Checked.{fitting}
use Rattle.cards.proofs.Running.{named_cell}
use Rattle.text.specs.Text.{bytes}
use Rattle.form.specs.Form.{digits}
use Rattle.form.proofs.Spelled.{Small, small_append, small_digits}
use Rattle.kiss.specs.Text.{bits, cell_name, state_name, target, newline, line_text, slot_text, state_text, head_text, machine_text, kiss_text}
use Rattle.kiss.proofs.Widths.{bits_enough, bits_few}
use Rattle.kiss.proofs.Machines.{target_named, slot_none, slot_line}
use Rattle.std.specs.Prelude.{Ok}

-- the same as a test, for words that are written out
abbrev pub each_byte : List ℕ → Bool
each_byte [] = true
each_byte (b ∷ w) = ltb b 256 && each_byte w

pub bytes_small : (w : List ℕ) → each_byte w ≡ true → Small w
unfolding Small
bytes_small [] e = tt
bytes_small (b ∷ w) e = (ltb-true b 256 (and_left (ltb b 256) (each_byte w) e), bytes_small w (and_right (ltb b 256) (each_byte w) e))

-- one piece behind another
pub gather_small : (n : ℕ) (piece : ℕ → List ℕ) → ((i : ℕ) → i < n → Small (piece i)) → Small (gather n piece)
unfolding gather Small
gather_small zero piece h = tt
gather_small (suc n) piece h = small_append (gather n piece) (piece n) (gather_small n piece (λ i l. h i (le_step l))) (h n (le_refl (suc n)))

nothing_small : Small []
unfolding Small
nothing_small = tt

-- pieces in a row
small_four : (a b c d : List ℕ) → Small a → Small b → Small c → Small d → Small (a ++ b ++ c ++ d)
small_four a b c d h₁ h₂ h₃ h₄ = small_append (a ++ b ++ c) d (small_append (a ++ b) c (small_append a b h₁ h₂) h₃) h₄

-- a line
cell_small : (c : ℕ) → c < max_cells → Small (cell_name c)
unfolding cell_name
cell_small c l = small_append (bytes "c") (digits 10 5 c) (bytes_small (bytes "c") refl) (small_digits 10 5 c (omega arith) (omega arith))

state_small : (q : ℕ) → q ≤ max_cells → Small (state_name q)
unfolding state_name
state_small zero l = bytes_small (bytes "reset") refl
state_small (suc c) l = cell_small c l

bits_small : (n i : ℕ) → n ≤ max_actions → i < n → Small (digits 2 (bits n) i)
bits_small n i l k = small_digits 2 (bits n) i (omega arith) (omega (arith, bits_enough n l))

pub line_small : (a o q j n u : ℕ) → a ≤ max_actions → o ≤ max_observations → q ≤ max_cells → j < o → n < max_cells → u < a → Small (line_text a o q j n u)
unfolding line_text
line_small a o q j n u la lo lq lj ln lu =
    let space = bytes_small (bytes " ") refl in
    let front = digits 2 (bits o) j ++ bytes " " ++ state_name q ++ bytes " " in
    small_append (front ++ cell_name n ++ bytes " " ++ digits 2 (bits a) u) newline
    (small_four front (cell_name n) (bytes " ") (digits 2 (bits a) u)
    (small_four (digits 2 (bits o) j) (bytes " ") (state_name q) (bytes " ") (bits_small o j lo lj) space (state_small q lq) space)
    (cell_small n ln) space (bits_small a u la lu))
    (bytes_small newline refl)

-- the head
pub head_small : (a o m : ℕ) → a ≤ max_actions → o ≤ max_observations → m ≤ max_cells → Small (head_text a o m)
unfolding head_text
head_small a o m la lo lm =
    let first = bytes "# actions " ++ digits 10 2 a ++ bytes " observations " ++ digits 10 2 o in
    let second = first ++ bytes "\n.i " ++ digits 10 1 (bits o) ++ bytes "\n.o " in
    let third = second ++ digits 10 1 (bits a) ++ bytes "\n.s " ++ digits 10 5 (suc m) in
    small_append third (bytes "\n.r reset\n")
    (small_four second (digits 10 1 (bits a)) (bytes "\n.s ") (digits 10 5 (suc m))
    (small_four first (bytes "\n.i ") (digits 10 1 (bits o)) (bytes "\n.o ")
    (small_four (bytes "# actions ") (digits 10 2 a) (bytes " observations ") (digits 10 2 o)
    (bytes_small (bytes "# actions ") refl) (small_digits 10 2 a (omega arith) (omega arith))
    (bytes_small (bytes " observations ") refl) (small_digits 10 2 o (omega arith) (omega arith)))
    (bytes_small (bytes "\n.i ") refl) (small_digits 10 1 (bits o) (omega arith) (omega (arith, bits_few o lo))) (bytes_small (bytes "\n.o ") refl))
    (small_digits 10 1 (bits a) (omega arith) (omega (arith, bits_few a la))) (bytes_small (bytes "\n.s ") refl) (small_digits 10 5 (suc m) (omega arith) (omega arith)))
    (bytes_small (bytes "\n.r reset\n") refl)

-- the machine
module _ (A : Automaton) (a o : ℕ) (fits : Fitting A a o) where
  slot_small : (q j : ℕ) → q ≤ A.size → j < o → Small (slot_text A a o q j)
  slot_small q j l k =
      let n = target A q j in
      ⊎_elim (λ e. rw (slot_none A a o q j (eqb-true n no_cell e)) nothing_small)
      (λ e.
      let b = named_cell A n (target_named A a o q j fits l k) (eqb-false n no_cell e) in
      rw (slot_line A a o q j (eqb-false n no_cell e))
      (line_small a o q j n (A.action n) fits.actions fits.observations (omega (arith, fits.cells)) k (omega (arith, fits.cells)) (fits.action_below n b)))
      (decided (eqb n no_cell))

  pub machine_small : Small (machine_text A a o)
  unfolding machine_text state_text
  machine_small =
      small_append (head_text a o A.size ++ gather (suc A.size) (state_text A a o)) (bytes ".e\n")
      (small_append (head_text a o A.size) (gather (suc A.size) (state_text A a o))
      (head_small a o A.size fits.actions fits.observations fits.cells)
      (gather_small (suc A.size) (state_text A a o) (λ q l. gather_small o (slot_text A a o q) (λ j k. slot_small q j (omega arith) k))))
      (bytes_small (bytes ".e\n") refl)

pub text_small : (w : List ℕ) → checked w ≡ Ok tt → Small (kiss_text w)
unfolding kiss_text
text_small w e = machine_small (automaton w) (card_actions w) (card_observations w) (fitting w e)
