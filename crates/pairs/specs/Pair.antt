-- The check of a table and a card together (document 01, "Order": show's, without its cell check).
-- Assumes nothing.
use Rattle.std.specs.Prelude.{◌≡◌, Bool, cond, not, ◌&&◌, List, ℕ, eqb}
use Rattle.games.specs.Answers.{unless}
use Rattle.games.specs.Words.{game}
use Rattle.games.specs.Answers.{Checked}
use Rattle.games.specs.Answers.{refused}
use Rattle.tables.specs.Check.{checked as table_checked}
use Rattle.cards.specs.Card.{card_actions, card_observations, checked as card_checked}
use Rattle.games.specs.declared.Reason.TheVariants as reason
use Rattle.std.specs.Prelude.{Ok, Err}

-- the card's actions and observations are the table's in number
unfoldable pub agree : (table card : List ℕ) → Bool
agree w k = eqb (card_actions k) (game w).actions && eqb (card_observations k) (game w).observations

-- the table checks, 13, 16
unfoldable pub checked : (table card : List ℕ) → Checked
checked w k =
    unless (table_checked w) Err
    (unless (card_checked k) Err
    (cond (not (agree w k)) (refused reason.Disagree 0)
    (Ok tt)))

-- what `Ok` tells
pub record Paired (w k : List ℕ) : Type 0 where
  pub table_fine : table_checked w ≡ Ok tt
  pub card_fine : card_checked k ≡ Ok tt
  pub actions : card_actions k ≡ (game w).actions
  pub observations : card_observations k ≡ (game w).observations
