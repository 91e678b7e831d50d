-- Laws of the words written: the card's front.
-- Assumes nothing.
use mathlib.Core.Path.{◌≡◌, refl, ap, ap₂, ◌∙◌}
use mathlib.Core.List.{List, [], ◌∷◌}
use Prim.Native.Nat.{ℕ, ◌+◌}
use lib.ListN.{length}
use Rattle.sets.specs.Bounded.{gather}
use Rattle.games.specs.Format.{kind_first}
use Rattle.games.specs.Game.{Game}
use Rattle.games.specs.Verdict.{start_sets, start_set, cells}
use Rattle.games.specs.Automaton.{holding}
use Rattle.games.specs.Fields.{word}
use Rattle.games.specs.Words.{front_length, card_head}
use Rattle.writing.specs.Writing.{front_words}

-- one first word for each start set
pub sets_front : (g : Game) → 1 + start_sets g ≡ front_length g.observations
unfolding start_sets
sets_front g = refl

-- the first word of start set j
abbrev pub first_word : Game → List ℕ → ℕ → ℕ
first_word g l j = word kind_first (holding l (start_set g j)) j 0

pub front_is : (g : Game) (l : List ℕ) → l ≡ cells g → (n x : ℕ) → n ≡ start_sets g → x ≡ card_head (length l) g.observations g.actions → x ∷ gather n (λ j. first_word g l j ∷ []) ≡ front_words g
unfolding front_words
front_is g l e n x h i =
    ap₂ (λ (m : ℕ) (k : List ℕ). x ∷ gather m (λ j. first_word g k j ∷ [])) h e
    ∙ ap (λ (y : ℕ). y ∷ gather (start_sets g) (λ j. first_word g (cells g) j ∷ [])) (i ∙ ap (λ (k : List ℕ). card_head (length k) g.observations g.actions) e)
