-- What the text of an automaton says of it: the lines that there are, no set, and no action of a cell that no line enters.
-- Assumes nothing.
use Rattle.std.specs.Prelude.{Bool, cond, ◌||◌, List, ℕ}
use Rattle.sets.specs.Bounded.{any}
use Rattle.games.specs.Automaton.{Automaton}
use Rattle.games.specs.Words.{card_words}
use Rattle.cards.specs.Card.{automaton, card_actions, card_observations}
use Rattle.trimming.specs.Trim.{first_names, next_names}

-- some line enters the cell: a first or a next word names it
unfoldable pub named : Automaton → (o c : ℕ) → Bool
named A o c = first_names A o c || any A.size (λ d. next_names A o d c)

-- a cell that is entered has the empty set and its action; one that is not has set 1 and action 0, as in the profile
unfoldable pub legible : Automaton → (o : ℕ) → Automaton
legible A o =
    record {
      size = A.size;
      set = λ c. cond (named A o c) 0 1;
      action = λ c. cond (named A o c) (A.action c) 0;
      begins = A.begins;
      next = A.next;
    }

-- the card that a card's text reads as
unfoldable pub legible_card : List ℕ → List ℕ
legible_card w = card_words (legible (automaton w) (card_observations w)) (card_actions w) (card_observations w)

-- the card with all sets empty: that is what is read where each cell is entered
unfoldable pub empty_sets : Automaton → Automaton
empty_sets A = record { size = A.size; set = λ _. 0; action = A.action; begins = A.begins; next = A.next }

unfoldable pub emptied : List ℕ → List ℕ
emptied w = card_words (empty_sets (automaton w)) (card_actions w) (card_observations w)
