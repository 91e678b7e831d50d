-- Words without the bit are checked as document 01 says.
-- Assumes nothing.
use mathlib.Core.Path.{◌≡◌, refl, ap, ◌∙◌}
use mathlib.Core.Bool.{Bool, false, ◌&&◌}
use mathlib.Core.List.{List}
use Prim.Native.Nat.{ℕ, ◌/◌, ◌%◌, ◌^◌}
use native.Mathlib.Omega.{arith}
use borrow.Author.Tests.{eq-eqb, eqb-true, eqb-false}
use lib.Dec.{eqb}
use lib.ListN.{get_or}
use Rattle.sets.proofs.Logic.{same_truth}
use Rattle.sets.proofs.Bounded.{first_none}
use Rattle.sets.proofs.Mask.{member_zero}
use Rattle.games.specs.Answers.{unless}
use Rattle.games.specs.Fields.{head_marked}
use Rattle.games.specs.Game.{Game}
use Rattle.games.specs.Places.{shape_of}
use Rattle.games.specs.Words.{game}
use Rattle.games.specs.Answers.{Checked}
use Rattle.games.proofs.Parked.{unparked}
use Rattle.games.proofs.Places.{unmarked_word}
use Rattle.tables.specs.Layout.{shape_in}
use Rattle.tables.specs.Check.{limits_hold, head_right, size_checked, words_checked, sets_checked, departs, parked_checked, checked}
use Rattle.tables.specs.Unmarked.{Unmarked}
use Rattle.std.specs.Prelude.{Ok, Err}

-- a last check that passes changes no answer
kept : (c : Checked) → unless c Err (Ok tt) ≡ c
kept (Ok tt) = refl
kept (Err stop) = refl

-- 19 needs a parked state
none_departs : (g : Game) → g.parked ≡ 0 → parked_checked g ≡ Ok tt
unfolding parked_checked departs
none_departs g e = rw (first_none g.states (departs g) (λ i l. rw (e, member_zero i)))

-- the bits from 25 up and the bit 24, together
spare : (w : ℕ) → head_marked w ≡ false → eqb (w / 2 ^ 25) 8 ≡ eqb (w / 2 ^ 24) 16
spare w e =
    let clear = eqb-false (w / 2 ^ 24 % 2) 1 e in
    same_truth (eqb (w / 2 ^ 25) 8) (eqb (w / 2 ^ 24) 16)
    (λ b. eq-eqb (w / 2 ^ 24) 16 (omega (arith, clear, eqb-true (w / 2 ^ 25) 8 b)))
    (λ b. eq-eqb (w / 2 ^ 25) 8 (omega (arith, eqb-true (w / 2 ^ 24) 16 b)))

pub unmarked : (w : List ℕ) → Unmarked w
unfolding head_right checked
unmarked w none =
    record {
      head = ap (λ (b : Bool). b && limits_hold (shape_of (get_or w 0 0))) (spare (get_or w 0 0) none);
      long = omega (arith, unmarked_word (shape_in w) none);
      answer =
          ap (λ (c : Checked). unless (size_checked w) Err (unless (words_checked w) Err (unless (sets_checked (game w)) Err c))) (none_departs (game w) (unparked w none))
          ∙ ap (λ (c : Checked). unless (size_checked w) Err (unless (words_checked w) Err c)) (kept (sets_checked (game w)));
    }
