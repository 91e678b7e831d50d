-- The condition on each word of a card, by where it stands, and by the cell that it names.
-- Assumes nothing.
use mathlib.Core.Path.{◌≡◌, ap}
use mathlib.Core.Bool.{true}
use mathlib.Core.List.{List}
use Prim.Native.Nat.{ℕ, ◌<◌}
use native.Mathlib.Omega.{arith}
use lib.Dec.{eqb}
use borrow.Author.Tests.{eq-eqb, ne_eqb}
use Rattle.sets.specs.Mask.{subset}
use Rattle.games.specs.Game.{Game}
use Rattle.games.specs.Automaton.{Automaton, no_cell}
use Rattle.cards.specs.Card.{first_place, cell_place, next_place, Spot, at_head, at_first, at_cell, at_next, spot_at, card_observations, automaton}
use Rattle.cards.proofs.Spots.{spot_head, spot_first, spot_cell, spot_next}
use Rattle.cards.specs.Run.{led}
use Rattle.certificates.specs.Judging.{lies_in}
use Rattle.certificates.specs.Certificate.{lies, first_holds, cell_holds, next_holds, spot_holds, word_holds}

module _ (g : Game) (k : List ℕ) where
  abbrev A : Automaton
  A = automaton k

  abbrev o : ℕ
  o = card_observations k

  at_spot : (p : ℕ) (x : Spot) → spot_at o p ≡ x → word_holds g k p ≡ spot_holds g A x
  unfolding word_holds
  at_spot p x e = ap (spot_holds g A) e

  pub head_word_lem : (p : ℕ) → p ≡ 0 → word_holds g k p ≡ true
  head_word_lem p e = at_spot p at_head (spot_head o p e)

  pub first_word : (j : ℕ) → j < o → word_holds g k (first_place j) ≡ first_holds g A j
  first_word j l = at_spot (first_place j) (at_first j) (spot_first o j l)

  pub cell_word : (c : ℕ) → word_holds g k (cell_place o c) ≡ cell_holds g A c
  cell_word c = at_spot (cell_place o c) (at_cell c) (spot_cell o c)

  pub next_word_lem : (c j : ℕ) → j < o → word_holds g k (next_place o c j) ≡ next_holds g A c j
  next_word_lem c j l = at_spot (next_place o c j) (at_next c j) (spot_next o c j l)

-- ---- states lie in the cell named

module _ (A : Automaton) (s c : ℕ) where
  pub lies_none : c ≡ no_cell → eqb s 0 ≡ lies A s c
  unfolding lies
  lies_none e = rw (eq-eqb c no_cell e)

  pub lies_some : (t : ℕ) → (c ≡ no_cell → ⊥) → t ≡ A.set c → subset s t ≡ lies A s c
  unfolding lies
  lies_some t n e = rw (ne_eqb c no_cell n, e)

  -- the same of the cell that a word leads to
  pub lies_led : lies_in A s (led c) ≡ lies A s c
  unfolding lies
  lies_led = grind arith
