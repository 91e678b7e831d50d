-- What the functions of a card's check promise each other.
-- Assumes nothing.
use Rattle.std.specs.Prelude.{◌≡◌, ℕ, ◌+◌, ◌<◌, ◌≤◌, Bool, true, false, List, length, slice_index}
use Rattle.games.specs.Fields.{low_field, number_field, action_field}
use Rattle.games.specs.Words.{card_length}
use Rattle.cards.specs.Card.{head_place, card_cells, card_observations, head_fits, cell_named, word_fits}
use Rattle.cards.specs.declared.shape.Head.{Head}

-- the numbers of a head
pub record HeadOf (x : ℕ) (h : Head) : Type 0 where
  pub cells : h.cells ≡ low_field x
  pub observations : h.observations ≡ number_field x
  pub actions : h.actions ≡ action_field x

-- the head is right, and the words are as many as it asks for
pub record Shaped (w : List ℕ) : Type 0 where
  pub head : head_fits (slice_index w head_place) ≡ true
  pub long : length w ≡ card_length (card_cells w) (card_observations w)

-- of n places, those below p pass the test
pub record Pass (test : ℕ → Bool) (n p : ℕ) : Type 0 where
  pub within : p ≤ n
  pub right : (q : ℕ) → q < p → test q ≡ true

-- the words below place p are right
abbrev pub FitsBelow : List ℕ → ℕ → Type 0
FitsBelow w p = Pass (word_fits w) (length w) p

-- the word at place `at` + j is a first or next word (the kind says which) for observation j
abbrev pub names : List ℕ → (kind at j : ℕ) → Bool
names w k at j = cell_named k (card_cells w) j (slice_index w (at + j))

-- of n tests in a row, the first r pass, and the next does not, if there is one
pub record FirstWrong (test : ℕ → Bool) (n r : ℕ) : Type 0 where
  pub most : r ≤ n
  pub right : (j : ℕ) → j < r → test j ≡ true
  pub wrong : r < n → test r ≡ false

-- so many words from a place on are first or next words, up to word r
abbrev pub RightNames : List ℕ → (kind at count r : ℕ) → Type 0
RightNames w k at n r = FirstWrong (names w k at) n r
