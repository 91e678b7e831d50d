-- The words that are written of an automaton that meets the conditions are certified.
-- Assumes nothing.
use mathlib.Core.Path.{◌≡◌, refl, sym, ap, subst, ◌∙◌}
use mathlib.Core.Logic.{⊎_elim}
use mathlib.Core.Bool.{true, cond}
use mathlib.Core.List.{List}
use Prim.Native.Nat.{ℕ, ◌<◌}
use native.Mathlib.Omega.{arith}
use lib.Dec.{eqb}
use lib.ListN.{length}
use borrow.Author.Tests.{eq-eqb}
use Rattle.sets.specs.Mask.{subset}
use Rattle.sets.specs.Bounded.{Found, at_found}
use Rattle.games.specs.Answers.{unless}
use Rattle.games.specs.Game.{Game}
use Rattle.games.specs.Step.{after}
use Rattle.games.specs.Verdict.{start_set}
use Rattle.games.specs.Automaton.{Automaton, no_cell}
use Rattle.games.specs.Words.{game, card_words}
use Rattle.games.specs.Answers.{Checked}
use Rattle.games.specs.Answers.{refused}
use Rattle.tables.specs.Check.{checked as table_checked}
use Rattle.cards.specs.Card.{first_place, cell_place, next_place, Spot, at_head, at_first, at_cell, at_next, spot_at, automaton, Named, Fitting}
use Rattle.cards.proofs.Spots.{spot_head, spot_first, spot_cell, spot_next, every_place}
use Rattle.cards.proofs.Passing.{pass_all}
use Rattle.cards.proofs.Written.{Agree, card_long, written_checked, written_agrees, written_actions, written_observations}
use Rattle.pairs.specs.Pair.{agree}
use Rattle.pairs.proofs.Pairing.{fine_pair}
use Rattle.certificates.specs.Certificate.{lies, first_holds, cell_holds, next_holds, spot_holds, word_holds, words_certified, certified}
use Rattle.certificates.proofs.Words.{lies_none}
use Rattle.games.specs.declared.Reason.TheVariants as reason
use Rattle.std.specs.Prelude.{Ok, Err}

-- the conditions, over an automaton
pub record Conditions (g : Game) (A : Automaton) : Type 0 where
  pub firsts : (j : ℕ) → j < g.observations → first_holds g A j ≡ true
  pub cells : (c : ℕ) → c < A.size → cell_holds g A c ≡ true
  pub nexts : (c j : ℕ) → c < A.size → j < g.observations → next_holds g A c j ≡ true

-- ---- two automata with the same cells

module _ (g : Game) (A B : Automaton) (E : Agree B A g.observations) where
  outside : (c : ℕ) → c < A.size → c < B.size
  outside c l = subst (λ (n : ℕ). c < n) (sym E.size_same) l

  same_lies : (s c d : ℕ) → c ≡ d → Named A d → lies A s d ≡ true → lies B s c ≡ true
  unfolding lies
  same_lies s c d e n h =
      ap (lies B s) e
      ∙ ⊎_elim (λ l. ap (λ (t : ℕ). cond (eqb d no_cell) (eqb s 0) (subset s t)) (E.set_same d (outside d l)))
      (λ f. sym (lies_none B s d f) ∙ lies_none A s d f)
      n
      ∙ h

  same_first : (j : ℕ) → j < g.observations → Named A (A.begins j) → first_holds g A j ≡ true → first_holds g B j ≡ true
  unfolding first_holds
  same_first j l n h = same_lies (start_set g j) (B.begins j) (A.begins j) (E.begins_same j l) n h

  same_cell : (c : ℕ) → c < A.size → cell_holds g A c ≡ true → cell_holds g B c ≡ true
  unfolding cell_holds
  same_cell c l h = rw (E.set_same c (outside c l), E.action_same c (outside c l)) h

  same_next : (c j : ℕ) → c < A.size → j < g.observations → Named A (A.next c j) → next_holds g A c j ≡ true → next_holds g B c j ≡ true
  unfolding next_holds
  same_next c j l m n h =
      rw (E.set_same c (outside c l), E.action_same c (outside c l))
      (same_lies (after g (A.set c) (A.action c) j) (B.next c j) (A.next c j) (E.next_same c j (outside c l) m) n h)

-- ---- the words of an automaton

module _ (w : List ℕ) (fine : table_checked w ≡ Ok tt) (A : Automaton) (F : Fitting A (game w).actions (game w).observations) (C : Conditions (game w) A) where
  abbrev g : Game
  g = game w

  abbrev o : ℕ
  o = g.observations

  abbrev words : List ℕ
  words = card_words A g.actions o

  E : Agree (automaton words) A o
  E = written_agrees A g.actions o F

  at_spot : (p : ℕ) (x : Spot) → spot_at o p ≡ x → spot_holds g (automaton words) x ≡ true → word_holds g words p ≡ true
  unfolding word_holds
  at_spot p x e h =
      ap (λ (n : ℕ). spot_holds g (automaton words) (spot_at n p)) (written_observations A g.actions o F) ∙ ap (spot_holds g (automaton words)) e ∙ h

  every : (p : ℕ) → p < length words → word_holds g words p ≡ true
  every p l =
      every_place A.size o (λ q. word_holds g words q ≡ true)
      (at_spot 0 at_head (spot_head o 0 refl) refl)
      (λ j b. at_spot (first_place j) (at_first j) (spot_first o j b) (same_first g A (automaton words) E j b (F.begins_named j b) (C.firsts j b)))
      (λ c b. at_spot (cell_place o c) (at_cell c) (spot_cell o c) (same_cell g A (automaton words) E c b (C.cells c b)))
      (λ c j b m. at_spot (next_place o c j) (at_next c j) (spot_next o c j m) (same_next g A (automaton words) E c j b m (F.next_named c j b m) (C.nexts c j b m)))
      p (omega (arith, card_long A g.actions o))

  words_fine : words_certified g words ≡ Ok tt
  unfolding words_certified
  words_fine =
      ap (λ (f : Found). at_found f (refused reason.NotSafe) (Ok tt)) (pass_all (word_holds g words) (length words) (record { within = omega arith; right = every }))

  same_numbers : agree w words ≡ true
  unfolding agree
  same_numbers = rw (eq-eqb _ _ (written_actions A g.actions o F), eq-eqb _ _ (written_observations A g.actions o F))

  pub written_certified : certified w words ≡ Ok tt
  unfolding certified
  written_certified =
      ap (λ (c : Checked). unless c Err (words_certified g words)) (sym (fine_pair w words fine (written_checked A g.actions o F) same_numbers)) ∙ words_fine
