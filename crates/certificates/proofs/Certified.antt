-- A certified card meets the conditions of its game; it covers the plays, so it keeps every play clear and controls the station.
-- Assumes nothing.
use mathlib.Core.Path.{◌≡◌, refl, sym, subst, ◌∙◌}
use mathlib.Core.Bool.{Bool, true, false, not}
use mathlib.Core.List.{List}
use Prim.Native.Nat.{ℕ, ◌^◌, ◌<◌}
use native.Mathlib.Omega.{arith}
use lib.Dec.{ltb}
use lib.ListN.{length}
use borrow.Author.Tests.{eqb-true, ltb-true, not-false}
use Rattle.sets.specs.Mask.{member}
use Rattle.sets.specs.Bounded.{first}
use Rattle.sets.proofs.Logic.{clash, and_left, and_right}
use Rattle.sets.proofs.Bounded.{first_nothing}
use Rattle.sets.proofs.Mask.{member_zero, member_below, subset_member}
use Rattle.games.specs.Game.{Game}
use Rattle.games.specs.Step.{safe, enabled_at, after}
use Rattle.games.specs.Verdict.{start_set}
use Rattle.games.specs.Automaton.{Automaton, no_cell}
use Rattle.games.specs.Words.{game}
use Rattle.games.specs.Answers.{refused}
use Rattle.games.proofs.Answers.{then_fine, never, found_none}
use Rattle.games.proofs.Steps.{safe_at, enabled_at_is, after_intro}
use Rattle.games.proofs.Starts.{start_member}
use Rattle.games.proofs.Winning.{Covers}
use Rattle.tables.proofs.Checks.{accepted}
use Rattle.cards.specs.Card.{first_place, cell_place, next_place, card_cells, card_observations, automaton, checked as card_checked, Named}
use Rattle.cards.specs.Kept.{Kept}
use Rattle.cards.proofs.Checked.{fitting, first_in, cell_in, next_in}
use Rattle.cards.proofs.Running.{size_of, named_cell}
use Rattle.cards.proofs.Runs.{covering_kept}
use Rattle.pairs.specs.Pair.{checked, Paired}
use Rattle.pairs.proofs.Pairing.{paired, action_in}
use Rattle.runner.proofs.Control.{kept_controls}
use Rattle.certificates.specs.Certificate.{lies, first_holds, set_fits, cell_holds, next_holds, word_holds, words_certified, certified, Safe}
use Rattle.certificates.proofs.Words.{first_word, cell_word, next_word_lem, lies_none, lies_some}
use Rattle.certificates.proofs.Written.{Conditions}
use Rattle.games.specs.declared.Reason.TheVariants as reason
use Rattle.std.specs.Prelude.{Ok}

-- ---- a word's condition

-- a set that fits
module _ (g : Game) (s : ℕ) (fits : set_fits g s ≡ true) where
  fit_safe : safe g s ≡ true
  unfolding set_fits
  fit_safe = and_right (ltb s (2 ^ g.states)) (safe g s) fits

  pub fit_below : s < 2 ^ g.states
  unfolding set_fits
  fit_below = ltb-true s (2 ^ g.states) (and_left (ltb s (2 ^ g.states)) (safe g s) fits)

-- states that lie in a cell named: a member of them is held by a cell, which is one of the automaton's
module _ (A : Automaton) (s c i : ℕ) (lie : lies A s c ≡ true) (m : member s i ≡ true) where
  somewhere : c ≡ no_cell → ⊥
  somewhere e = clash m (subst (λ (t : ℕ). member t i ≡ false) (sym (eqb-true s 0 (lies_none A s c e ∙ lie))) (member_zero i))

  held : member (A.set c) i ≡ true
  held = subset_member s (A.set c) (lies_some A s c (A.set c) somewhere refl ∙ lie) i m

  inside : Named A c → (c < A.size) × (member (A.set c) i ≡ true)
  inside n = (named_cell A c n somewhere, held)

-- ---- a certified card

module _ (w k : List ℕ) (fine : certified w k ≡ Ok tt) where
  abbrev g : Game
  g = game w

  abbrev A : Automaton
  A = automaton k

  abbrev o : ℕ
  o = card_observations k

  passed : (checked w k ≡ Ok tt) × (words_certified g k ≡ Ok tt)
  unfolding certified
  passed = then_fine (checked w k) (words_certified g k) fine

  -- it goes with its table
  pub certified_pair : Paired w k
  certified_pair = paired w k passed.0

  right : card_checked k ≡ Ok tt
  right = certified_pair.card_fine

  word : (p : ℕ) → p < length k → word_holds g k p ≡ true
  unfolding words_certified
  word p l =
      let wrong : ℕ → Bool = λ q. not (word_holds g k q) in
      not-false (word_holds g k p) (first_nothing (length k) wrong (found_none (first (length k) wrong) (refused reason.NotSafe) (λ i r. never reason.NotSafe i r) passed.1) p l)

  seen : (j : ℕ) → j < g.observations → j < o
  seen j l = omega (arith, certified_pair.observations)

  own : (c : ℕ) → c < A.size → c < card_cells k
  own c l = subst (λ (n : ℕ). c < n) (size_of k) l

  -- and meets the conditions of its game
  pub certified_conditions : Conditions g A
  certified_conditions =
      record {
        firsts = λ j l. sym (first_word g k j (seen j l)) ∙ word (first_place j) (first_in k right j (seen j l));
        cells = λ c l. sym (cell_word g k c) ∙ word (cell_place o c) (cell_in k right c (own c l));
        nexts = λ c j l m. sym (next_word_lem g k c j (seen j m)) ∙ word (next_place o c j) (next_in k right c j (own c l) (seen j m));
      }

  -- ---- what a cell's word says

  cell_enabled : (c : ℕ) → c < A.size → enabled_at g (A.set c) (A.action c) ≡ true
  unfolding cell_holds
  cell_enabled c l = and_right (set_fits g (A.set c)) (enabled_at g (A.set c) (A.action c)) (certified_conditions.cells c l)

  cell_fits_lem : (c : ℕ) → c < A.size → set_fits g (A.set c) ≡ true
  unfolding cell_holds
  cell_fits_lem c l = and_left (set_fits g (A.set c)) (enabled_at g (A.set c) (A.action c)) (certified_conditions.cells c l)

  cell_safe : (c : ℕ) → c < A.size → safe g (A.set c) ≡ true
  cell_safe c l = fit_safe g (A.set c) (cell_fits_lem c l)

  cell_set_below : (c : ℕ) → c < A.size → A.set c < 2 ^ g.states
  cell_set_below c l = fit_below g (A.set c) (cell_fits_lem c l)

  -- ---- the card covers the plays

  pub certified_covers : Covers g A
  unfolding first_holds next_holds
  certified_covers =
      let F = fitting k right in
      let C = certified_conditions in
      record {
        begins_in = λ i j m shows.
            let b = start_member g i j m shows in
            inside A (start_set g j) (A.begins j) i (C.firsts j shows.0) b.1 (F.begins_named j (seen j shows.0));
        survives = λ c i l m. (
          safe_at g (A.set c) (cell_safe c l) i m,
          enabled_at_is g (A.set c) (A.action c) (cell_enabled c l) i (member_below g.states (A.set c) i (cell_set_below c l) m) m,
        );
        next_in = λ c i i' j l m e shows.
            let n = member_below g.states (A.set c) i (cell_set_below c l) m in
            inside A (after g (A.set c) (A.action c) j) (A.next c j) i' (C.nexts c j l shows.0) (after_intro g (A.set c) (A.action c) j i i' n m e shows.1) (F.next_named c j l (seen j shows.0));
        gives = λ c l. action_in w k certified_pair c (A.action c) (own c l) refl;
      }

  -- so it keeps every play clear, is never refused on a play under it, and a runner that holds it is not
  pub certified_kept : Kept g k
  certified_kept = covering_kept g (accepted w certified_pair.table_fine) k right certified_pair.observations certified_covers

  pub certified_safe : Safe g k
  certified_safe = record { kept = certified_kept; controls = kept_controls g k certified_kept }
