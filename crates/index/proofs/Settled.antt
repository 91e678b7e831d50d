-- The index of the settled family.
-- Assumes nothing.
use mathlib.Core.Path.{◌≡◌, sym, ap, ◌∙◌, subst}
use mathlib.Core.Bool.{true}
use mathlib.Core.List.{List, Memᴰ}
use Prim.Native.Nat.{ℕ, ◌^◌, ◌≤◌, ◌<◌}
use native.Mathlib.Nat.{lt_of_le_of_lt}
use native.Mathlib.Omega.{arith}
use lib.ListN.{length}
use lib.Pow.{pow_mono, pow_pos}
use Rattle.sets.specs.Family.{holds}
use Rattle.sets.proofs.Logic.{same_truth}
use Rattle.sets.proofs.Mask.{subset_le}
use Rattle.sets.proofs.Family.{holds_found, mem_maximal, maximal_length}
use Rattle.families.specs.Bits.{has, sets, Bits}
use Rattle.families.proofs.Lanes.{few_lanes}
use Rattle.games.specs.Format.{max_states}
use Rattle.games.specs.Game.{Game, Accepted}
use Rattle.games.specs.Step.{antichain, settling}
use Rattle.games.specs.Verdict.{settled, cells}
use Rattle.games.proofs.Steps.{good_empty}
use Rattle.games.proofs.Settling.{cells_hold}
use Rattle.index.proofs.Sizes.{has_listed}
use Rattle.index.specs.Index.{Layers, Masks, Index}

-- there are at most 2 ^ n cells
pub cells_few : (g : Game) → length (cells g) ≤ 2 ^ g.states
unfolding cells antichain
cells_few g = maximal_length g.states _

-- a cell's set is of n states
pub cell_below : (g : Game) (tops : List ℕ) → sets tops ≡ cells g → (s : ℕ) → has tops s ≡ true → s < 2 ^ g.states
unfolding cells antichain
cell_below g tops e s h = (mem_maximal g.states _ s (subst (Memᴰ s) e (has_listed tops s h))).0

module _ (g : Game) (A : Accepted g) where
  -- a set that a cell's set holds is of n states
  held_below : (t : ℕ) → holds (cells g) t ≡ true → t < 2 ^ g.states
  unfolding cells antichain
  held_below t h =
      let w = holds_found (cells g) t h in
      lt_of_le_of_lt (subset_le t w.0 w.2) (mem_maximal g.states _ w.0 w.1).0

  module _ (family : List ℕ) (w : Bits g.states (settled g) family) where
    family_held : (t : ℕ) → has family t ≡ holds (cells g) t
    family_held t =
        same_truth (has family t) (holds (cells g) t)
        (λ h. let b = w.within t h in cells_hold g A t b ∙ sym (w.at t b) ∙ h)
        (λ h. let b = held_below t h in w.at t b ∙ sym (cells_hold g A t b) ∙ h)

    pub settled_index : g.states ≤ max_states → (tops layers masks : List ℕ) → sets tops ≡ cells g → length tops ≡ length family → Layers (sets tops) layers → Masks masks → Index family tops layers masks
    unfolding settled
    settled_index few tops layers masks e same l m =
        record {
          cells_few = omega (arith, ap length e, cells_few g, pow_mono few);
          same_lanes = sym same;
          same = λ t. family_held t ∙ ap (λ (k : List ℕ). holds k t) (sym e);
          some = ap (λ (k : List ℕ). holds k 0) e ∙ cells_hold g A 0 (pow_pos g.states) ∙ good_empty g A (settling g);
          searched = record { few = few_lanes g.states tops few (same ∙ w.size); layered = l; masked = m };
        }
