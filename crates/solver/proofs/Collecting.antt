-- The settled family's maximal sets are the cells.
-- Assumes nothing.
use mathlib.Core.Path.{◌≡◌, sym, ap, ◌∙◌, subst}
use mathlib.Core.List.{List}
use Prim.Native.Nat.{ℕ, ◌≤◌}
use Rattle.sets.specs.Family.{maximal}
use Rattle.sets.proofs.Family.{maximal_ext}
use Rattle.families.specs.Bits.{has, sets, Bits, Closed}
use Rattle.games.specs.Format.{max_states}
use Rattle.games.specs.Game.{Game, Accepted}
use Rattle.games.specs.Step.{antichain, settling}
use Rattle.games.specs.Verdict.{settled, cells}
use Rattle.search.proofs.Searching.{good_stage}

module _ (g : Game) (family : List ℕ) (w : Bits g.states (settled g) family) (n : ℕ) (is : n ≡ g.states) where
  -- the settled family has the subsets of its sets
  pub settled_closed : Accepted g → g.states ≤ max_states → Closed n family
  unfolding settled
  settled_closed A few =
      let s = good_stage g A (settling g) family w in
      record {
        states = subst (λ (m : ℕ). m ≤ max_states) (sym is) few;
        size = rw is w.size;
        within = rw is w.within;
        down = s.down;
      }

  -- its maximal sets are the cells
  pub cells_listed : (tops : List ℕ) → sets tops ≡ maximal n (has family) → sets tops ≡ cells g
  unfolding cells antichain settled
  cells_listed tops are = are ∙ ap (λ (m : ℕ). maximal m (has family)) is ∙ maximal_ext g.states (has family) (settled g) w.at
