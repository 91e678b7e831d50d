-- A card that is certified against a table stays certified when it is trimmed, and so it is safe.
-- Assumes nothing.
use mathlib.Core.Path.{◌≡◌, refl, sym, ap, ap₂, ◌∙◌, subst}
use mathlib.Core.Logic.{⊎_elim}
use mathlib.Core.Bool.{true}
use mathlib.Core.List.{List}
use Prim.Native.Nat.{ℕ, ◌<◌}
use native.Mathlib.Omega.{arith}
use lib.ListN.{get_or}
use Rattle.games.specs.Game.{Game}
use Rattle.games.specs.Step.{after}
use Rattle.games.specs.Verdict.{start_set}
use Rattle.games.specs.Automaton.{Automaton, no_cell}
use Rattle.games.specs.Words.{game, card_words}
use Rattle.cards.specs.Card.{card_actions, automaton, Named, Fitting}
use Rattle.cards.proofs.Checked.{fitting}
use Rattle.pairs.specs.Pair.{Paired}
use Rattle.certificates.specs.Certificate.{lies, first_holds, cell_holds, next_holds, certified, Safe}
use Rattle.certificates.proofs.Words.{lies_none, lies_some}
use Rattle.certificates.proofs.Written.{Conditions, written_certified}
use Rattle.certificates.proofs.Certified.{certified_pair, certified_conditions, certified_safe}
use Rattle.trimming.specs.Trim.{reached, kept, renumbered, trim, trimmed}
use Rattle.trimming.proofs.Reaching.{reached_first, reached_next}
use Rattle.trimming.proofs.Numbers.{new_none, no_none, new_below, kept_few, old_new}
use Rattle.trimming.proofs.Trimmed.{trim_old, trim_set, trim_begins, trim_action, trim_next, trim_fits}
use Rattle.std.specs.Prelude.{Ok}

-- ---- the conditions on the words, over the automaton: they hold of what is trimmed

module _ (g : Game) (A : Automaton) (a : ℕ) (F : Fitting A a g.observations) (C : Conditions g A) where
  abbrev o : ℕ
  o = g.observations

  -- a reached cell's new number is a cell's
  new_cell : (c : ℕ) → c < A.size → reached A o c ≡ true → renumbered A o c ≡ no_cell → ⊥
  new_cell c l r z = omega (arith, new_below A o F.cells c l r, kept_few A o, F.cells)

  lies_new : (s c : ℕ) → Named A c → (c < A.size → reached A o c ≡ true) → lies A s c ≡ true → lies (trim A o) s (renumbered A o c) ≡ true
  lies_new s c n r h =
      let d = renumbered A o c in
      ⊎_elim
      (λ l.
      let same : A.set c ≡ (trim A o).set d = sym (trim_set A o d ∙ ap A.set (old_new A o F.cells c l (r l))) in
      sym (lies_some (trim A o) s d (A.set c) (new_cell c l (r l)) same) ∙ lies_some A s c (A.set c) (no_none A o F.cells c l) refl ∙ h)
      (λ z. sym (lies_none (trim A o) s d (new_none A o c z)) ∙ lies_none A s c z ∙ h)
      n

  pub trim_conditions : Conditions g (trim A o)
  unfolding first_holds cell_holds next_holds
  trim_conditions =
      record {
        firsts = λ j l.
            rw (trim_begins A o j)
            (lies_new (start_set g j) (A.begins j) (F.begins_named j l) (λ b. reached_first A o (A.begins j) j l refl) (C.firsts j l));
        cells = λ i l. rw (trim_set A o i, trim_action A o i) (C.cells (get_or (kept A o) i 0) (trim_old A o i l).0);
        nexts = λ i j l k.
            let c = get_or (kept A o) i 0 in
            let old = trim_old A o i l in
            rw (trim_set A o i, trim_action A o i, trim_next A o i j)
            (lies_new (after g (A.set c) (A.action c) j) (A.next c j) (F.next_named c j old.0 k)
            (λ b. reached_next A o c (A.next c j) j old.0 old.1 k refl b) (C.nexts c j old.0 k));
      }

-- ---- the trimmed card

module _ (t w : List ℕ) (fine : certified t w ≡ Ok tt) where
  P : Paired t w
  P = certified_pair t w fine

  F : Fitting (automaton w) (game t).actions (game t).observations
  F = subst (λ (a : ℕ). Fitting (automaton w) a (game t).observations) P.actions (subst (Fitting (automaton w) (card_actions w)) P.observations (fitting w P.card_fine))

  words_same : trimmed w ≡ card_words (trim (automaton w) (game t).observations) (game t).actions (game t).observations
  unfolding trimmed
  words_same = ap₂ (λ (a n : ℕ). card_words (trim (automaton w) n) a n) P.actions P.observations

  pub trimmed_certified : certified t (trimmed w) ≡ Ok tt
  trimmed_certified =
      ap (certified t) words_same
      ∙ written_certified t P.table_fine (trim (automaton w) (game t).observations) (trim_fits (automaton w) (game t).actions (game t).observations F)
      (trim_conditions (game t) (automaton w) (game t).actions F (certified_conditions t w fine))

  pub trimmed_safe : Safe (game t) (trimmed w)
  trimmed_safe = certified_safe t (trimmed w) trimmed_certified
