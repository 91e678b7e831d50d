-- The texts of stations A and C (docs/KISS2.md), by computation.
-- Assumes nothing.
use mathlib.Core.Path.{◌≡◌, refl}
use mathlib.Core.List.{List, [], ◌∷◌}
use Prim.Native.Nat.{ℕ}
use Rattle.sets.specs.Bounded.{count, gather}
use Rattle.cards.specs.Card.{automaton}
use Rattle.text.specs.Text.{bytes}
use Rattle.form.specs.Form.{digits}
use Rattle.kiss.specs.Text.{bits, cell_name, state_name, target, line_text, slot_text, state_text, head_text, machine_text, kiss_text}

card_a : List ℕ
card_a = 0x80210002 ∷ 0x90000000 ∷ 0xA0000001 ∷ 0xB0000001 ∷ 0xA0100002 ∷ 0xB0000000 ∷ []

text_a : kiss_text card_a ≡ bytes "# actions 02 observations 01\n.i 1\n.o 1\n.s 00003\n.r reset\n0 reset c00000 0\n0 c00000 c00001 1\n0 c00001 c00000 0\n.e\n"
unfolding card_a kiss_text machine_text head_text state_text slot_text line_text target state_name cell_name bits count gather automaton digits
text_a = refl

card_c : List ℕ
card_c =
    0x80220002 ∷ 0x90000000 ∷ 0x90010001 ∷ 0xA0000001 ∷ 0xB000FFFF ∷ 0xB0010001 ∷ 0xA0100002 ∷ 0xB0000000 ∷ 0xB001FFFF ∷ []

text_c : kiss_text card_c ≡ bytes "# actions 02 observations 02\n.i 1\n.o 1\n.s 00003\n.r reset\n0 reset c00000 0\n1 reset c00001 1\n1 c00000 c00001 1\n0 c00001 c00000 0\n.e\n"
unfolding card_c kiss_text machine_text head_text state_text slot_text line_text target state_name cell_name bits count gather automaton digits
text_c = refl
