-- What the words of a table mean, and the words of a card (document 01, "Words"; parked states: document 02, change 2).
-- Assumes nothing.
use Rattle.std.specs.Prelude.{cond, List, [], ◌∷◌, ◌++◌, ℕ, ◌+◌, ◌*◌, get_or}
use Rattle.sets.specs.Bounded.{gather}
use Rattle.games.specs.Format.{kind_card, kind_first, kind_cell, kind_next}
use Rattle.games.specs.Fields.{low_field, word}
use Rattle.games.specs.Places.{shape_of, place_of, shown, move}
use Rattle.games.specs.Game.{Game}
use Rattle.games.specs.Automaton.{Automaton, card}
use Rattle.games.specs.declared.Place.{Place}
use Rattle.games.specs.declared.Place.TheVariants.{Start, Bad, Parked}

-- the mask of a word, by what stands there
abbrev pub mask_at : List ℕ → Place → ℕ
mask_at w x = low_field (get_or w (place_of (shape_of (get_or w 0 0)) x) 0)

-- the parked states; none where the table doesn't mark them
abbrev pub parked_in : List ℕ → ℕ
parked_in w = cond (shape_of (get_or w 0 0)).marked (mask_at w Parked) 0

-- what a table's words mean
unfoldable pub game : List ℕ → Game
game w =
    let s = shape_of (get_or w 0 0) in
    record {
      states = s.states;
      actions = s.actions;
      observations = s.observations;
      start = mask_at w Start;
      bad = mask_at w Bad;
      parked = parked_in w;
      shown = λ j. mask_at w (shown j);
      successors = λ a i. mask_at w (move a i);
    }

-- a card for o observations: its front, that is the head and the first words; for each cell a part, its own word and its next words
abbrev pub front_length : (observations : ℕ) → ℕ
front_length o = 1 + o

abbrev pub part_length : (observations : ℕ) → ℕ
part_length o = 1 + o

abbrev pub card_length : (cells observations : ℕ) → ℕ
card_length m o = front_length o + m * part_length o

-- the head of a card
abbrev pub card_head : (cells observations actions : ℕ) → ℕ
card_head m o a = word kind_card m o a

-- the words of a card for a actions and o observations: head; first cells; for each cell its set and action, and its next cells
unfoldable pub cell_words : Automaton → ℕ → ℕ → List ℕ
cell_words A o c = word kind_cell (A.set c) 0 (A.action c) ∷ gather o (λ j. word kind_next (A.next c j) j 0 ∷ [])

unfoldable pub card_words : Automaton → (actions observations : ℕ) → List ℕ
card_words A a o = card_head A.size o a ∷ gather o (λ j. word kind_first (A.begins j) j 0 ∷ []) ++ gather A.size (cell_words A o)

-- the words of the card of a yes
abbrev pub card_of : Game → List ℕ
card_of g = card_words (card g) g.actions g.observations
