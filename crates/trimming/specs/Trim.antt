-- A card without idle cells (document 02, change 5): the reached cells found round by round, their new numbers, and the trimmed card.
-- Assumes nothing.
use Rattle.std.specs.Prelude.{Bool, cond, not, ◌&&◌, ◌||◌, List, ℕ, zero, suc, eqb, ltb, length, get_or}
use Rattle.sets.specs.Bounded.{any, count, select}
use Rattle.games.specs.Automaton.{Automaton, no_cell}
use Rattle.games.specs.Words.{card_words}
use Rattle.cards.specs.Card.{card_actions, card_observations, automaton}

-- some first word names cell c; some next word of cell d names it; no first word names a cell
unfoldable pub first_names : Automaton → (o c : ℕ) → Bool
first_names A o c = any o (λ j. eqb (A.begins j) c)

unfoldable pub next_names : Automaton → (o d c : ℕ) → Bool
next_names A o d c = any o (λ j. eqb (A.next d j) c)

unfoldable pub no_first : Automaton → (o : ℕ) → Bool
no_first A o = not (any o (λ j. ltb (A.begins j) A.size))

-- the cell is reached by at most k next words: where a play begins, and then a round for each
unfoldable pub reached_in : Automaton → (o k c : ℕ) → Bool
reached_in A o zero c = first_names A o c || (no_first A o && eqb c 0)
reached_in A o (suc k) c = reached_in A o k c || any A.size (λ d. reached_in A o k d && next_names A o d c)

-- as many rounds as there are cells find all that are reached
unfoldable pub reached : Automaton → (o c : ℕ) → Bool
reached A o c = reached_in A o A.size c

-- the kept cells, in their order
unfoldable pub kept : Automaton → (o : ℕ) → List ℕ
kept A o = select A.size (reached A o)

-- a kept cell's new number: how many kept cells are below it; no cell stays none
unfoldable pub renumbered : Automaton → (o c : ℕ) → ℕ
renumbered A o c = cond (eqb c no_cell) no_cell (count c (reached A o))

-- the automaton of the kept cells: sets and actions stay, first and next cells are renumbered
unfoldable pub trim : Automaton → (o : ℕ) → Automaton
trim A o =
    let l = kept A o in
    record {
      size = length l;
      set = λ c. A.set (get_or l c 0);
      action = λ c. A.action (get_or l c 0);
      begins = λ j. renumbered A o (A.begins j);
      next = λ c j. renumbered A o (A.next (get_or l c 0) j);
    }

-- the trimmed card: the words of that automaton, for as many actions and observations
unfoldable pub trimmed : List ℕ → List ℕ
trimmed w = card_words (trim (automaton w) (card_observations w)) (card_actions w) (card_observations w)
