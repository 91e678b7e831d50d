-- Laws of show: the check of both comes first, and the part lies in the table.
-- Assumes nothing.
use mathlib.Core.Path.{◌≡◌, refl, ap₂, subst}
use mathlib.Core.Bool.{Bool, true, false, cond}
use mathlib.Core.List.{List, []}
use Prim.Native.Nat.{ℕ, ◌+◌, ◌*◌, ◌-◌, ◌≤◌, ◌<◌}
use native.Mathlib.Omega.{arith}
use lib.Dec.{leb}
use lib.ListN.{length, take, drop}
use borrow.Author.Tests.{leb-false}
use Rattle.games.specs.Answers.{unless}
use Rattle.games.specs.Places.{move, place_of}
use Rattle.games.specs.Words.{game}
use Rattle.games.specs.Answers.{Checked}
use Rattle.games.specs.Answers.{refused}
use Rattle.games.proofs.Places.{action_row}
use Rattle.tables.specs.Layout.{shape_in}
use Rattle.tables.proofs.Checks.{sized}
use Rattle.cards.specs.Card.{automaton}
use Rattle.cards.proofs.Checked.{fitting}
use Rattle.pairs.specs.Pair.{checked}
use Rattle.pairs.proofs.Pairing.{paired}
use Rattle.show.specs.Show.{located, found, handed, part_of}
use Rattle.show.specs.Show.{Shown}
use Rattle.games.specs.declared.Reason.{Reason}
use Rattle.games.specs.declared.Reason.TheVariants as reason
use Rattle.games.specs.declared.Refusal.{Refusal}
use Rattle.show.specs.declared.Part.{Part}
use Rattle.std.specs.Prelude.{Ok, Err}

module _ (w k : List ℕ) (c : ℕ) where
  -- the check of both comes first
  pub pair_refused : (e : Refusal) → checked w k ≡ Err e → Err e ≡ found w k c
  unfolding found
  pair_refused e h = rw h

-- ---- the part lies in the table

unless_part : (t : Checked) (s : Shown) (part : Part) → unless t Err s ≡ Ok part → (t ≡ Ok tt) × (s ≡ Ok part)
unless_part (Ok tt) s part e = (refl, e)
unless_part (Err stop) s part e = absurd (cc)

cond_part : (b : Bool) (x : Reason) (y : ℕ) (s : Shown) (part : Part) → cond b (refused x y) s ≡ Ok part → (b ≡ false) × (s ≡ Ok part)
cond_part true x y s part e = absurd (cc)
cond_part false x y s part e = (refl, e)

module _ (w k : List ℕ) (c : ℕ) (part : Part) where
  -- an action of the table has its words there
  row_in : (b : ℕ) → checked w k ≡ Ok tt → b < (game w).actions → place_of (shape_in w) (move b 0) + (game w).states ≤ length w
  unfolding game
  row_in b e l = rw (sized w (paired w k e).table_fine).long (action_row (shape_in w) b l)

  located_in : checked w k ≡ Ok tt → located w k c ≡ Ok part → part.offset + part.length ≤ length w
  unfolding located
  located_in e f =
      let A = automaton k in
      let pair = paired w k e in
      let three = cond_part (leb A.size c) reason.NumberBeyond c _ part f in
      let l : A.action c < (game w).actions = subst (λ (i : ℕ). A.action c < i) pair.actions ((fitting k pair.card_fine).action_below c (leb-false A.size c three.0)) in
      let a : place_of (shape_in w) (move (A.action c) 0) ≡ part.offset = cc in
      let b : (game w).states ≡ part.length = cc in
      subst (λ (i : ℕ). i ≤ length w) (ap₂ ◌+◌ a b) (row_in (A.action c) e l)

  pub part_in : found w k c ≡ Ok part → part.offset + part.length ≤ length w
  unfolding found
  part_in e = let t = unless_part (checked w k) _ part e in located_in t.0 t.1

-- ---- what is handed back

module _ (w k : List ℕ) (c : ℕ) (p : ℕ × ℕ) where
  pub hands_part : (part : Part) → found w k c ≡ Ok part → handed (take (part.offset + part.length - part.offset) (drop part.offset w)) (p.0, part.offset * 4 + p.1) ≡ part_of w p (found w k c)
  hands_part part e =
      let l : part.offset + part.length - part.offset ≡ part.length = omega arith in
      rw (e, l)

  pub hands_none : (stop : Refusal) → found w k c ≡ Err stop → handed [] (p.0, 0 * 4 + p.1) ≡ part_of w p (found w k c)
  hands_none stop e =
      let l : 0 * 4 + p.1 ≡ p.1 = omega arith in
      rw (e, l)
