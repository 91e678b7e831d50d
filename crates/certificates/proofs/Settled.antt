-- The card of a yes meets the conditions.
-- Assumes nothing.
use mathlib.Core.Path.{◌≡◌, refl, sym, ◌∙◌}
use mathlib.Core.Logic.{⊎_elim}
use mathlib.Core.Bool.{true}
use Prim.Native.Nat.{ℕ, ◌^◌, ◌≤◌, ◌<◌}
use native.Mathlib.Omega.{arith}
use lib.Dec.{eqb}
use lib.ListN.{length, get_or}
use borrow.Author.Tests.{eqb-true, eqb-false, lt-ltb}
use Rattle.sets.proofs.Logic.{decided, and_intro}
use Rattle.sets.proofs.Mask.{lowest as lowest-member}
use Rattle.games.specs.Format.{max_cells}
use Rattle.games.specs.Game.{Game, Accepted}
use Rattle.games.specs.Step.{after, meets, lowest}
use Rattle.games.specs.Verdict.{start_sets, start_set, starts_in, settled, cells}
use Rattle.games.specs.Automaton.{holding, chosen, card}
use Rattle.games.proofs.Steps.{after_below, step_safe, meets_enabled, meets_after}
use Rattle.games.proofs.Starts.{start_below, starts_at}
use Rattle.games.proofs.Lasting.{lowest_meets}
use Rattle.games.proofs.Settling.{cells_hold}
use Rattle.games.proofs.Holding.{holding_empty, held_by}
use Rattle.games.proofs.Winning.{cell_settled, cell_step}
use Rattle.certificates.specs.Certificate.{lies, first_holds, set_fits, cell_holds, next_holds}
use Rattle.certificates.proofs.Words.{lies_none, lies_some}
use Rattle.certificates.proofs.Written.{Conditions}

module _ (g : Game) (A : Accepted g) (few : length (cells g) ≤ max_cells) where
  -- a settled set lies in the cell that is named for it
  lies_named : (s : ℕ) → s < 2 ^ g.states → settled g s ≡ true → lies (card g) s (holding (cells g) s) ≡ true
  unfolding card
  lies_named s below h =
      let c = holding (cells g) s in
      ⊎_elim
      (λ e. sym (lies_none (card g) s c (holding_empty (cells g) s (eqb-true s 0 e))) ∙ e)
      (λ e.
      let i = lowest-member g.states s below (eqb-false s 0 e) in
      let w = held_by (cells g) s _ (cells_hold g A s below ∙ h) i.1 in
      sym (lies_some (card g) s c (get_or (cells g) c 0) (λ f. omega (arith, w.below)) refl) ∙ w.holds_it)
      (decided (eqb s 0))

  -- ---- a cell's action meets the step

  module _ (c : ℕ) (l : c < length (cells g)) where
    abbrev s : ℕ
    s = get_or (cells g) c 0

    abbrev a : ℕ
    a = lowest g (settled g) s

    cell_meets : meets g (settled g) s a ≡ true
    cell_meets = lowest_meets g A (settled g) s (cell_step g A c l)

    cell_holds_lem : cell_holds g (card g) c ≡ true
    unfolding cell_holds set_fits card chosen
    cell_holds_lem =
        and_intro
        (and_intro (lt-ltb s (2 ^ g.states) (cell_settled g A c l).0) (step_safe g (settled g) s (cell_step g A c l)))
        (meets_enabled g (settled g) s a cell_meets)

    next_holds_lem : (j : ℕ) → j < g.observations → next_holds g (card g) c j ≡ true
    unfolding next_holds card chosen
    next_holds_lem j b = lies_named (after g s a j) (after_below g A s a j b) (meets_after g (settled g) s a cell_meets j b)

  module _ (won : starts_in g (settled g) ≡ true) where
    first_holds_lem : (j : ℕ) → j < g.observations → first_holds g (card g) j ≡ true
    unfolding first_holds card start_sets
    first_holds_lem j b = lies_named (start_set g j) (start_below g A j) (starts_at g (settled g) won j b)

    pub card_conditions : Conditions g (card g)
    unfolding card
    card_conditions = record { firsts = first_holds_lem; cells = cell_holds_lem; nexts = λ c j l b. next_holds_lem c l j b }
