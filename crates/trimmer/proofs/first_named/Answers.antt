use mathlib.Core.Path.{◌≡◌, refl, sym, ap, ◌∙◌, subst}
use mathlib.Core.Logic.{inl, inr}
use Prim.Native.Nat.{◌<◌}
use native.Mathlib.Omega.{arith}
use borrow.Author.Count.{below_more}
use Rattle.games.specs.Automaton.{Automaton}
use Rattle.games.specs.declared.Cell.{Cell}
use Rattle.cards.specs.Card.{card_observations, automaton}
use Rattle.cards.proofs.Checked.{fitting}
use Rattle.cards.proofs.Running.{named_cell, led_some, led_none}
use Rattle.trimming.specs.Reach.{Names}
use Rattle.trimmer.proofs.first_named.Goals as goal

-- a first word that names a cell
pub returns-in-Some : goal.returns-in-Some
returns-in-Some c =
    let A : Automaton = automaton c.args.card.words.now in
    let l : c.loop-j.j < card_observations c.args.card.words.now = omega (arith, c.loop-j-test.true, c.observations-o.ensures) in
    let some = led_some (A.begins c.loop-j.j) c.in-Some.cell (sym c.first_cell.ensures ∙ c.in-Some.is) in
    let here : c.in-Some.cell.0 ≡ A.begins c.loop-j.j = ap (λ (d : Cell). d.0) some.1 in
    record {
      inside = subst (Names A) (sym here) (named_cell A (A.begins c.loop-j.j) ((fitting c.args.card.words.now c.args.card.checked).begins_named c.loop-j.j l) some.0);
      found = inl (c.loop-j.j, l, sym here);
    }

pub loop-j-preserved : goal.loop-j-preserved
loop-j-preserved c = below_more _ _ c.loop-j.invariant (led_none _ (sym c.first_cell.ensures ∙ c.in_default.is))

-- none does
pub returns : goal.returns
returns c =
    let F = fitting c.args.card.words.now c.args.card.checked in
    record {
      inside = F.some_cell;
      found = inr (refl, λ j l n. omega (arith, n, F.cells, c.loop-j.invariant j (omega (arith, c.loop-j-test.false, c.observations-o.ensures))));
    }
