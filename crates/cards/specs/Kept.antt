-- What is promised of a card's words, whoever drew them, on the plays of a game.
-- Assumes nothing.
use Rattle.std.specs.Prelude.{◌≡◌, ℕ, List}
use Rattle.games.specs.Game.{Game}
use Rattle.games.specs.Play.{Play, PlayOf, seen}
use Rattle.games.specs.Automaton.{cell_after, action_after}
use Rattle.games.specs.Demands.{UnderCard, Second}
use Rattle.cards.specs.Card.{automaton, checked}
use Rattle.cards.specs.Run.{ran, entered}
use Rattle.std.specs.Prelude.{Ok}

-- the words are a card (13), it keeps every play clear, and on every play under the actions it gives it never meets 12, 13 or 14
pub record Kept (g : Game) (words : List ℕ) : Type 0 where
  pub right : checked words ≡ Ok tt
  pub second : Second g (automaton words)
  pub runs : (p : Play) → PlayOf g p → UnderCard (automaton words) p →
      ran words (seen p) ≡ entered (cell_after (automaton words) (seen p)) (action_after (automaton words) (seen p))
