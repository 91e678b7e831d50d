-- The check's answers in their order, and what `Ok` tells.
-- Assumes nothing.
use mathlib.Core.Path.{◌≡◌, sym, subst}
use mathlib.Core.Bool.{true, false, cond, not}
use mathlib.Core.List.{List}
use Prim.Native.Nat.{ℕ, ◌<◌}
use lib.Dec.{eqb}
use borrow.Author.Tests.{eqb-true, not-false}
use Rattle.sets.proofs.Logic.{and_left, and_right}
use Rattle.games.specs.Answers.{unless}
use Rattle.games.specs.Words.{game}
use Rattle.games.specs.Answers.{refused}
use Rattle.games.proofs.Answers.{then_fine, cond_passed}
use Rattle.tables.specs.Check.{checked as table_checked}
use Rattle.cards.specs.Card.{card_cells, card_actions, card_observations, automaton, checked as card_checked}
use Rattle.cards.proofs.Checked.{fitting}
use Rattle.cards.proofs.Running.{size_of}
use Rattle.pairs.specs.Pair.{agree, checked, Paired}
use Rattle.games.specs.declared.Refusal.{Refusal}
use Rattle.games.specs.declared.Reason.TheVariants as reason
use Rattle.std.specs.Prelude.{Ok, Err}

module _ (w k : List ℕ) where
  -- the table checks come first
  pub table_stops : (e : Refusal) → table_checked w ≡ Err e → Err e ≡ checked w k
  unfolding checked
  table_stops e h = rw h

  module _ (table : table_checked w ≡ Ok tt) where
    -- then 13
    pub card_stops : (e : Refusal) → card_checked k ≡ Err e → Err e ≡ checked w k
    unfolding checked
    card_stops e h = rw (table, h)

    -- then 16
    pub differ : card_checked k ≡ Ok tt → agree w k ≡ false → refused reason.Disagree 0 ≡ checked w k
    unfolding checked
    differ card e = rw (table, card, e)

    pub fine_pair : card_checked k ≡ Ok tt → agree w k ≡ true → (Ok tt) ≡ checked w k
    unfolding checked
    fine_pair card e = rw (table, card, e)

  -- what `Ok` tells
  pub paired : checked w k ≡ Ok tt → Paired w k
  unfolding checked agree
  paired fine =
      let a = then_fine (table_checked w) (unless (card_checked k) Err (cond (not (agree w k)) (refused reason.Disagree 0) (Ok tt))) fine in
      let b = then_fine (card_checked k) (cond (not (agree w k)) (refused reason.Disagree 0) (Ok tt)) a.1 in
      let c = not-false (agree w k) (cond_passed (not (agree w k)) reason.Disagree 0 (Ok tt) b.1).0 in
      let x = eqb (card_actions k) (game w).actions in
      let y = eqb (card_observations k) (game w).observations in
      record {
        table_fine = a.0;
        card_fine = b.0;
        actions = eqb-true (card_actions k) (game w).actions (and_left x y c);
        observations = eqb-true (card_observations k) (game w).observations (and_right x y c);
      }

-- a cell's action is one of the table's
pub action_in : (w k : List ℕ) → Paired w k → (c a : ℕ) → c < card_cells k → a ≡ (automaton k).action c → a < (game w).actions
action_in w k p c a l e =
    let below = (fitting k p.card_fine).action_below c (subst (λ (n : ℕ). c < n) (sym (size_of k)) l) in
    subst (λ (n : ℕ). a < n) p.actions (subst (λ (b : ℕ). b < card_actions k) (sym e) below)
