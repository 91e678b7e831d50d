-- Laws of the whole card: it is its front and the parts of the settled cells.
-- Assumes nothing.
use mathlib.Core.Path.{◌≡◌, sym, ap, ◌∙◌, subst}
use mathlib.Core.List.{List, ◌++◌}
use Prim.Native.Nat.{ℕ, ◌<◌}
use native.Mathlib.Omega.{arith}
use lib.ListN.{length, get_or}
use Rattle.sets.specs.Bounded.{gather}
use Rattle.games.specs.Game.{Game, Accepted}
use Rattle.games.specs.Verdict.{start_sets, cells}
use Rattle.games.specs.Automaton.{card}
use Rattle.games.specs.Words.{front_length, part_length, cell_words, card_words, card_of}
use Rattle.games.proofs.Winning.{cell_settled}
use Rattle.cards.proofs.Parts.{row_length}
use Rattle.families.specs.Bits.{sets}
use Rattle.index.specs.Index.{Noted}
use Rattle.index.proofs.Noting.{noted_cell}
use Rattle.writing.specs.Writing.{SettledSet, front_words, set_words}
use Rattle.writing.proofs.Words.{sets_front}

-- the part of cell i of a list
abbrev pub listed_words : Game → List ℕ → ℕ → List ℕ
listed_words g l i = set_words g (get_or l i 0)

pub set_words_length : (g : Game) (s : ℕ) → length (set_words g s) ≡ part_length g.observations
unfolding set_words
set_words_length g s = row_length g.observations _

pub front_words_length : (g : Game) → length (front_words g) ≡ front_length g.observations
unfolding front_words
front_words_length g = row_length (start_sets g) _ ∙ sets_front g

-- the card is its front and the words of each cell
pub card_is : (g : Game) (l : List ℕ) → l ≡ cells g → (n : ℕ) → n ≡ length l → front_words g ++ gather n (listed_words g l) ≡ card_of g
unfolding front_words set_words card_words cell_words card start_sets
card_is g l e n many =
    ap (λ (m : ℕ). front_words g ++ gather m (listed_words g l)) many
    ∙ ap (λ (k : List ℕ). front_words g ++ gather (length k) (listed_words g k)) e

-- the noted word of a cell is its set
module _ (g : Game) (A : Accepted g) (tops : List ℕ) (listed : sets tops ≡ cells g) (base : ℕ) (work : List ℕ) (noted : Noted tops base work) (n c : ℕ) (many : n ≡ length (sets tops)) (more : c < n) where
  inside : c < length (sets tops)
  inside = omega arith

  read : get_or work c 0 ≡ get_or (sets tops) c 0
  read = noted_cell tops base work noted c inside

  pub noted_settled : SettledSet g (get_or work c 0)
  noted_settled =
      subst (SettledSet g) (sym read)
      (subst (λ (k : List ℕ). c < length k → SettledSet g (get_or k c 0)) (sym listed)
      (λ b. let w = cell_settled g A c b in record { below = w.0; is_settled = w.1 }) inside)

  pub noted_words : set_words g (get_or work c 0) ≡ listed_words g (sets tops) c
  noted_words = ap (set_words g) read
