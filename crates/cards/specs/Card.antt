-- The words of a card (document 01, "Words"): where each stands, what they mean, and which words are a card (refusal 13).
-- Assumes nothing.
use Rattle.std.specs.Prelude.{◌≡◌, ℕ, ◌+◌, ◌-◌, ◌/◌, ◌%◌, ◌<◌, ◌≤◌, Bool, cond, not, ◌&&◌, ◌||◌, ◌⊎◌, List, length, ◌==◌, nat_lt, slice_index}
use Rattle.sets.specs.Bounded.{first, at_found}
use Rattle.games.specs.Automaton.{Automaton, no_cell}
use Rattle.games.specs.Format.{within, max_actions, max_observations, max_sets, max_cells, kind_first, kind_cell, kind_next}
use Rattle.games.specs.Fields.{low_field, number_field, action_field, word}
use Rattle.games.specs.Words.{front_length, part_length, card_length, card_head}
use Rattle.games.specs.Answers.{Checked}
use Rattle.games.specs.Answers.{refused}
use Rattle.games.specs.declared.Reason.TheVariants as reason
use Rattle.std.specs.Prelude.{Ok}

-- the places of a card's words, for o observations: the head; the first cell by observation; a cell's part; its next cell by observation
abbrev pub head_place : ℕ
head_place = 0

abbrev pub first_place : ℕ → ℕ
first_place j = 1 + j

abbrev pub cell_place : (o c : ℕ) → ℕ
cell_place o c = card_length c o

abbrev pub next_place : (o c j : ℕ) → ℕ
next_place o c j = cell_place o c + 1 + j

-- what stands at a place: the head, a first word, a cell's own word, a next word
pub data Spot : Type 0 where
  at_head : Spot
  at_first : (observation : ℕ) → Spot
  at_cell : (cell : ℕ) → Spot
  at_next : (cell observation : ℕ) → Spot

-- word number i behind the front: each cell has a part, its own word and then its next words
unfoldable pub part_spot : (o i : ℕ) → Spot
part_spot o i =
    let c = i / part_length o in
    let r = i % part_length o in
    cond (r == 0) (at_cell c) (at_next c (r - 1))

-- place p: the head, then a first word for each observation, then the words of the cells
unfoldable pub spot_at : (o p : ℕ) → Spot
spot_at o p = cond (p == head_place) at_head (cond (nat_lt p (front_length o)) (at_first (p - 1)) (part_spot o (p - front_length o)))

-- the numbers of the head: cells, observations and actions
abbrev pub card_cells : List ℕ → ℕ
card_cells w = low_field (slice_index w head_place)

abbrev pub card_observations : List ℕ → ℕ
card_observations w = number_field (slice_index w head_place)

abbrev pub card_actions : List ℕ → ℕ
card_actions w = action_field (slice_index w head_place)

-- what a card's words mean
unfoldable pub automaton : List ℕ → Automaton
automaton w =
    let o = card_observations w in
    record {
      size = card_cells w;
      set = λ c. low_field (slice_index w (cell_place o c));
      action = λ c. action_field (slice_index w (cell_place o c));
      begins = λ j. low_field (slice_index w (first_place j));
      next = λ c j. low_field (slice_index w (next_place o c j));
    }

-- a head: its kind, spare bits 0, its three numbers within the limits
unfoldable pub head_fits : ℕ → Bool
head_fits x =
    (x == card_head (low_field x) (number_field x) (action_field x))
    && within (low_field x) max_cells
    && within (number_field x) max_observations
    && within (action_field x) max_actions

-- a first or next word (the kind says which) for observation j: its low field names one of the m cells or is `no_cell`
unfoldable pub cell_named : (kind m j : ℕ) → ℕ → Bool
cell_named k m j x = x == word k (low_field x) j 0 && (nat_lt (low_field x) m || low_field x == no_cell)

-- a cell's own word: its set is one of at most `max_states` states, its action below a
unfoldable pub cell_fits : (a : ℕ) → ℕ → Bool
cell_fits a x = x == word kind_cell (low_field x) 0 (action_field x) && nat_lt (low_field x) max_sets && nat_lt (action_field x) a

-- the word is right for where it stands
abbrev pub fits_at : List ℕ → Spot → ℕ → Bool
fits_at w at_head x = head_fits x
fits_at w (at_first j) x = cell_named kind_first (card_cells w) j x
fits_at w (at_cell c) x = cell_fits (card_actions w) x
fits_at w (at_next c j) x = cell_named kind_next (card_cells w) j x

unfoldable pub word_fits : List ℕ → ℕ → Bool
word_fits w p = fits_at w (spot_at (card_observations w) p) (slice_index w p)

-- the lowest wrong word stops the check
unfoldable pub words_checked : List ℕ → Checked
words_checked w = at_found (first (length w) (λ p. not (word_fits w p))) (refused reason.NoCard) (Ok tt)

-- refusal 13: no word, or a wrong head, at place 0; the length; the lowest wrong word
unfoldable pub checked : List ℕ → Checked
checked w =
    cond (length w == 0) (refused reason.NoCard 0)
    (cond (not (head_fits (slice_index w head_place))) (refused reason.NoCard head_place)
    (cond (not (length w == card_length (card_cells w) (card_observations w))) (refused reason.NoCard (length w))
    (words_checked w)))

-- a first or next cell: one of the automaton's, or none
abbrev pub Named : Automaton → ℕ → Type 0
Named A c = (c < A.size) ⊎ (c ≡ no_cell)

-- an automaton that a card for a actions and o observations can hold
pub record Fitting (A : Automaton) (a o : ℕ) : Type 0 where
  pub some_cell : 1 ≤ A.size
  pub cells : A.size ≤ max_cells
  pub some_action : 1 ≤ a
  pub actions : a ≤ max_actions
  pub some_observation : 1 ≤ o
  pub observations : o ≤ max_observations
  pub set_below : (c : ℕ) → c < A.size → A.set c < max_sets
  pub action_below : (c : ℕ) → c < A.size → A.action c < a
  pub begins_named : (j : ℕ) → j < o → Named A (A.begins j)
  pub next_named : (c j : ℕ) → c < A.size → j < o → Named A (A.next c j)
