-- Laws of the answer: the cell with the tightest set is the one named, its number is how many are below it, and what the answer says.
-- Assumes nothing.
use mathlib.Core.Path.{◌≡◌, refl, sym, ap, ◌∙◌, subst}
use mathlib.Core.Logic.{⊎_elim}
use mathlib.Core.Bool.{true, false}
use mathlib.Core.List.{List}
use Prim.Native.Nat.{ℕ, ◌*◌, ◌≤◌, ◌<◌}
use native.Mathlib.Omega.{arith}
use lib.ListN.{length, get_or}
use Rattle.sets.specs.Mask.{subset}
use Rattle.sets.specs.Bounded.{count}
use Rattle.sets.specs.Family.{holds}
use Rattle.sets.proofs.Logic.{decided, refuted}
use Rattle.sets.proofs.Bounded.{count_up, count_past, select_at, select_count}
use Rattle.families.specs.Bits.{lane_sets, has, sets}
use Rattle.families.proofs.Words.{sets_count}
use Rattle.games.specs.declared.Cell.{Cell}
use Rattle.games.specs.Automaton.{state_count, holding}
use Rattle.games.specs.Tightest.{Tightest}
use Rattle.games.proofs.Holding.{holding_unheld}
use Rattle.std.specs.Prelude.{Option, Some, None}
use Rattle.index.specs.Index.{held_by, named, TightestSet}
use Rattle.index.proofs.Sizes.{has_below, listed_has}

-- ---- a cell's number

module _ (tops : List ℕ) where
  abbrev all : ℕ
  all = length tops * lane_sets

  -- a set of the family stands in the list, at the place that is how many are below it
  pub place_lt : (s : ℕ) → has tops s ≡ true → count s (has tops) < length (sets tops)
  place_lt s h = omega (arith, sets_count tops, count_past s all (has tops) (has_below tops s h) h)

  pub place_at : (s : ℕ) → has tops s ≡ true → get_or (sets tops) (count s (has tops)) 0 ≡ s
  unfolding sets
  place_at s h = select_at s all (has tops) (has_below tops s h) h

  -- a cell's number is how many are below it
  pub place_is : (c : ℕ) → c < length (sets tops) → count (get_or (sets tops) c 0) (has tops) ≡ c
  unfolding sets
  place_is c l = select_count all (has tops) c (omega (arith, sets_count tops))

  -- the tightest set is that of the tightest cell
  pub tightest_cell : (t s : ℕ) → TightestSet tops t s → Tightest (sets tops) t (count s (has tops))
  tightest_cell t s w =
      let is = place_at s w.is_cell in
      record {
        is_cell = place_lt s w.is_cell;
        holds_it = subst (λ (x : ℕ). subset t x ≡ true) (sym is) w.holds_it;
        fewest = λ d l b. subst (λ (x : ℕ). state_count x ≤ state_count (get_or (sets tops) d 0)) (sym is) (w.fewest (get_or (sets tops) d 0) (listed_has tops d l) b);
        lowest = λ d l b e.
            let u = get_or (sets tops) d 0 in
            omega (arith, count_up s u (has tops) (w.lowest u (listed_has tops d l) b (e ∙ ap state_count is)), place_is d l);
      }

-- ---- the answer

module _ (l : List ℕ) (s : ℕ) where
  pub held_nowhere : holds l s ≡ false → None ≡ held_by l s
  unfolding held_by
  held_nowhere h = rw h

  pub held_cell : (c : ℕ) → holds l s ≡ true → holding l s ≡ c → Some (record { 0 = c }) ≡ held_by l s
  unfolding held_by
  held_cell c h e = rw (h, e)

  module _ (r : Option Cell) (is : r ≡ held_by l s) where
    pub nowhere_unheld : r ≡ None → holds l s ≡ false
    nowhere_unheld e =
        refuted (holds l s)
        (λ h. let w = held_cell (holding l s) h refl in let z : ◌≡◌ {A = ℕ} 0 1 = cc in absurd (omega arith))

    pub by_holding : (c : Cell) → r ≡ Some c → (holds l s ≡ true) × (c.0 ≡ holding l s)
    by_holding c e =
        ⊎_elim
        (λ h. (h, let w = held_cell (holding l s) h refl in let same : c ≡ record { 0 = holding l s } = cc in ap (λ (x : Cell). x.0) same))
        (λ h. let w = held_nowhere h in let z : ◌≡◌ {A = ℕ} 0 1 = cc in absurd (omega arith))
        (decided (holds l s))

  pub named_holding : named (held_by l s) ≡ holding l s
  named_holding =
      ⊎_elim (λ h. ap named (sym (held_cell (holding l s) h refl)))
      (λ h. ap named (sym (held_nowhere h)) ∙ sym (holding_unheld l s h)) (decided (holds l s))
