-- Room for the largest family has room for the lanes of a table's sets.
-- Assumes nothing.
use mathlib.Core.Path.{◌≡◌, sym, ap, ◌∙◌, subst}
use mathlib.Core.List.{List}
use Prim.Native.Nat.{ℕ, ◌≤◌}
use lib.ListN.{length, take, replicate, length-replicate}
use lib.Seq.{length-take-le}
use Rattle.families.specs.Bits.{lanes, max_lanes}
use Rattle.games.specs.Words.{game}
use Rattle.tables.specs.Layout.{Sized}
use Rattle.search.proofs.Turns.{table_lanes}

module _ (w : List ℕ) (sized : Sized w) (n k : ℕ) (states : n ≡ (game w).states) (are : k ≡ lanes n) (room : List ℕ) (empty : room ≡ replicate max_lanes 0) where
  lanes_are : k ≡ lanes (game w).states
  lanes_are = are ∙ ap lanes states

  pub lanes_within : k ≤ length room
  lanes_within = subst (λ (m : ℕ). k ≤ m) (sym (ap length empty ∙ length-replicate {A = ℕ} max_lanes 0)) (subst (λ (m : ℕ). m ≤ max_lanes) (sym lanes_are) (table_lanes w sized))

  pub lanes_front : k ≡ length (take k room)
  lanes_front = sym (length-take-le k room lanes_within)

  pub lanes_taken : length (take k room) ≡ lanes (game w).states
  lanes_taken = sym lanes_front ∙ lanes_are
