-- A machine with one line more: what it says, and that a card can hold it.
-- Assumes nothing.
use mathlib.Core.Path.{◌≡◌, refl, ◌∙◌}
use mathlib.Core.Logic.{inl, inr}
use mathlib.Core.Bool.{Bool, true, false, cond, ◌&&◌}
use mathlib.Core.List.{[]}
use Prim.Native.Nat.{ℕ, zero, suc, ◌≤◌, ◌<◌}
use native.Mathlib.Omega.{arith}
use lib.Dec.{eqb}
use borrow.Author.Tests.{eq-eqb, ne_eqb, eqb-true}
use Rattle.sets.proofs.Logic.{refuted, and_left, and_right}
use Rattle.games.specs.Format.{max_actions, max_observations, max_sets, max_cells}
use Rattle.games.specs.Automaton.{Automaton, no_cell}
use Rattle.cards.specs.Card.{Named, Fitting}
use Rattle.kiss.specs.Text.{target, line_text, slot_text}
use Rattle.kiss.specs.Profile.{blank, with_line}

-- what holds of both values holds of the one picked
picked : (P : ℕ → Type 0) (t : Bool) (x y : ℕ) → P x → P y → P (cond t x y)
picked P true x y h g = h
picked P false x y h g = g

-- a state of a machine that a card can hold goes to a cell or to none
pub target_named : (A : Automaton) (a o q j : ℕ) → Fitting A a o → q ≤ A.size → j < o → Named A (target A q j)
unfolding target
target_named A a o zero j F l k = F.begins_named j k
target_named A a o (suc c) j F l k = F.next_named c j l k

-- nothing is said yet
pub fitting_blank : (m a o : ℕ) → 1 ≤ m → m ≤ max_cells → 1 ≤ a → a ≤ max_actions → 1 ≤ o → o ≤ max_observations → Fitting (blank m) a o
unfolding blank
fitting_blank m a o h₁ h₂ h₃ h₄ h₅ h₆ =
    record {
      some_cell = h₁;
      cells = h₂;
      some_action = h₃;
      actions = h₄;
      some_observation = h₅;
      observations = h₆;
      set_below = λ c l. omega arith;
      action_below = λ c l. omega arith;
      begins_named = λ j l. inr refl;
      next_named = λ c j l k. inr refl;
    }

pub blank_size : (m : ℕ) → (blank m).size ≡ m
unfolding blank
blank_size m = refl

pub blank_target : (m q j : ℕ) → target (blank m) q j ≡ no_cell
unfolding blank target
blank_target m zero j = refl
blank_target m (suc c) j = refl

pub blank_set : (m c : ℕ) → (blank m).set c ≡ 1
unfolding blank
blank_set m c = refl

pub blank_action : (m c : ℕ) → (blank m).action c ≡ 0
unfolding blank
blank_action m c = refl

module _ (B : Automaton) (s j n u : ℕ) where
  -- the line fits a card
  pub fitting_line : (a o : ℕ) → Fitting B a o → n < B.size → u < a → Fitting (with_line B s j n u) a o
  unfolding with_line
  fitting_line a o F l k =
      record {
        some_cell = F.some_cell;
        cells = F.cells;
        some_action = F.some_action;
        actions = F.actions;
        some_observation = F.some_observation;
        observations = F.observations;
        set_below = λ c h. picked (λ x. x < max_sets) (eqb c n) 0 (B.set c) (omega arith) (F.set_below c h);
        action_below = λ c h. picked (λ x. x < a) (eqb c n) u (B.action c) k (F.action_below c h);
        begins_named = λ i h. picked (Named B) (eqb s 0 && eqb i j) n (B.begins i) (inl l) (F.begins_named i h);
        next_named = λ c i h g. picked (Named B) (eqb s (suc c) && eqb i j) n (B.next c i) (inl l) (F.next_named c i h g);
      }

  pub line_size : (with_line B s j n u).size ≡ B.size
  unfolding with_line
  line_size = refl

  -- the cell that it enters is known, with its action; the others are as they were
  pub set_entered : (with_line B s j n u).set n ≡ 0
  unfolding with_line
  set_entered = rw (eq-eqb n n refl)

  pub set_other : (c : ℕ) → (c ≡ n → ⊥) → (with_line B s j n u).set c ≡ B.set c
  unfolding with_line
  set_other c h = rw (ne_eqb c n h)

  pub action_entered : (with_line B s j n u).action n ≡ u
  unfolding with_line
  action_entered = rw (eq-eqb n n refl)

  pub action_other : (c : ℕ) → (c ≡ n → ⊥) → (with_line B s j n u).action c ≡ B.action c
  unfolding with_line
  action_other c h = rw (ne_eqb c n h)

  -- where its state goes; the others go where they did
  target_picked : (q i : ℕ) → target (with_line B s j n u) q i ≡ cond (eqb s q && eqb i j) n (target B q i)
  unfolding with_line target
  target_picked zero i = refl
  target_picked (suc c) i = refl

  pub target_here : target (with_line B s j n u) s j ≡ n
  target_here = target_picked s j ∙ rw (eq-eqb s s refl, eq-eqb j j refl)

  neither : (q i : ℕ) → (s ≡ q → i ≡ j → ⊥) → (eqb s q && eqb i j) ≡ false
  neither q i h = refuted (eqb s q && eqb i j) (λ e. h (eqb-true s q (and_left (eqb s q) (eqb i j) e)) (eqb-true i j (and_right (eqb s q) (eqb i j) e)))

  pub target_other : (q i : ℕ) → (s ≡ q → i ≡ j → ⊥) → target (with_line B s j n u) q i ≡ target B q i
  target_other q i h = target_picked q i ∙ rw (neither q i h)

-- ---- the text of a slot: a line just where the slot leads to a cell

module _ (A : Automaton) (a o q j : ℕ) where
  pub slot_none : target A q j ≡ no_cell → slot_text A a o q j ≡ []
  unfolding slot_text
  slot_none e = rw (slot_text, eq-eqb (target A q j) no_cell e)

  pub slot_line : (target A q j ≡ no_cell → ⊥) → slot_text A a o q j ≡ line_text a o q j (target A q j) (A.action (target A q j))
  unfolding slot_text
  slot_line h = rw (slot_text, ne_eqb (target A q j) no_cell h)
