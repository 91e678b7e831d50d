-- What one turn of the loops over observations, actions and sets shows, over plain variables.
-- Assumes nothing.
use mathlib.Core.Path.{◌≡◌, sym, ap, ◌∙◌}
use mathlib.Core.Bool.{true}
use mathlib.Core.List.{List}
use Prim.Native.Nat.{ℕ, ◌≤◌}
use lib.Dec.{eqb}
use borrow.Author.Tests.{eq-eqb, ne_eqb}
use Rattle.sets.specs.Mask.{common}
use Rattle.sets.specs.Bounded.{all, any}
use Rattle.sets.specs.Family.{Family, DownClosed}
use Rattle.sets.proofs.Logic.{and_false_left}
use Rattle.sets.proofs.Bounded.{all_intro}
use Rattle.sets.proofs.Mask.{common_subset_left}
use Rattle.families.specs.Bits.{max_lanes, lanes}
use Rattle.families.proofs.Lanes.{lanes_few}
use Rattle.games.specs.Game.{Game}
use Rattle.games.specs.Step.{safe, meets, step}
use Rattle.games.specs.Verdict.{start_sets, start_set, starts_in}
use Rattle.games.specs.Words.{game}
use Rattle.tables.specs.Layout.{Sized}
use Rattle.tables.proofs.Bounds.{few_states}
use Rattle.moves.specs.Halves.{shown_in}

module _ (g : Game) (F : Family) (u : ℕ) where
  -- where the family has all of u and the subsets of its sets, every observation passes
  pub shown_whole : DownClosed F → F u ≡ true → true ≡ shown_in g F u
  unfolding shown_in
  shown_whole down h = sym (all_intro g.observations (λ j. F (common u (g.shown j))) (λ j l. down u (common u (g.shown j)) h (common_subset_left u (g.shown j))))

  pub shown_all : (o : ℕ) → o ≡ g.observations → all o (λ j. F (common u (g.shown j))) ≡ shown_in g F u
  unfolding shown_in
  shown_all o e = ap (λ (n : ℕ). all n (λ j. F (common u (g.shown j)))) e

module _ (g : Game) (F : Family) (s : ℕ) where
  pub step_bad : (common s g.bad ≡ 0 → ⊥) → eqb (common s g.bad) 0 ≡ step g F s
  unfolding step safe
  step_bad h = ne_eqb (common s g.bad) 0 h ∙ sym (and_false_left (any g.actions (meets g F s)) (ne_eqb (common s g.bad) 0 h))

  pub step_any : common s g.bad ≡ 0 → (n : ℕ) → n ≡ g.actions → any n (meets g F s) ≡ step g F s
  unfolding step safe
  step_any h n e = ap (λ (m : ℕ). any m (meets g F s)) e ∙ sym (rw (eq-eqb (common s g.bad) 0 h))

pub starts_each : (g : Game) (F : Family) (n : ℕ) → n ≡ start_sets g → all n (λ j. F (start_set g j)) ≡ starts_in g F
unfolding starts_in
starts_each g F n e = ap (λ (m : ℕ). all m (λ j. F (start_set g j))) e

-- there are few lanes
pub table_lanes : (w : List ℕ) → Sized w → lanes (game w).states ≤ max_lanes
table_lanes w z = lanes_few (game w).states (few_states w z)
