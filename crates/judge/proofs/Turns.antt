-- The two turns: what each answer of the action's turn and of the observation's turn says of the step.
-- Assumes nothing.
use mathlib.Core.Path.{◌≡◌, refl, sym, ap, ◌∙◌}
use mathlib.Core.Bool.{Bool, true, false, ◌&&◌}
use Prim.Native.Nat.{ℕ, zero, suc, ◌-◌}
use native.Mathlib.Numerals.{sub-one}
use borrow.Author.Tests.{eq-eqb, ne_eqb}
use Rattle.sets.specs.Mask.{common}
use Rattle.sets.specs.Bounded.{all, any}
use Rattle.sets.specs.Family.{Family}
use Rattle.sets.proofs.Logic.{and_false_left}
use Rattle.sets.proofs.Bounded.{all_intro}
use Rattle.games.specs.Game.{Game, Accepted}
use Rattle.games.specs.Step.{safe, post, after, meets, step, good}
use Rattle.games.proofs.Steps.{good_empty}
use Rattle.std.specs.Prelude.{Ok, Err}
use Rattle.games.specs.declared.State.{State}
use Rattle.walk.specs.Walk.{walked}
use Rattle.walk.proofs.Promise.{post_is, blocked_is}

module _ (g : Game) where
  -- ---- the action's turn, with k rounds to go

  -- every set is good for 0 rounds
  pub no_round : (k s : ℕ) → k ≡ 0 → true ≡ good g k s
  unfolding good
  no_round k s e = rw e

  -- nor does the empty set lose in any
  pub empty_good : Accepted g → (k s : ℕ) → s ≡ 0 → true ≡ good g k s
  empty_good A k s e = sym (ap (good g k) e ∙ good_empty g A k)

  -- with a round to go, good is one step
  one_round : (k s : ℕ) → (k ≡ 0 → ⊥) → good g k s ≡ step g (good g (k - 1)) s
  unfolding good
  one_round zero s e = absurd (e refl)
  one_round (suc k) s e = rw sub-one

  -- b is the bad set, and v the members of s in it
  module _ (k s b v : ℕ) (some : k ≡ 0 → ⊥) (bad : b ≡ g.bad) (part : v ≡ common s b) where
    -- a set with a bad state is not good
    pub bad_member : (v ≡ 0 → ⊥) → false ≡ good g k s
    unfolding step safe
    bad_member h = sym (one_round k s some ∙ and_false_left (any g.actions (meets g (good g (k - 1)) s)) (ne_eqb (common s g.bad) 0 (λ e. h (part ∙ ap (common s) bad ∙ e))))

    -- with none it is good where one action meets the step, which is what the other turn is asked
    pub by_actions : v ≡ 0 → (n : ℕ) {r : Bool} → n ≡ g.actions → r ≡ any n (meets g (good g (k - 1)) s) → r ≡ good g k s
    unfolding step safe
    by_actions e n all m = m ∙ ap (λ (i : ℕ). any i (meets g (good g (k - 1)) s)) all ∙ sym (one_round k s some ∙ ap (λ (c : Bool). c && any g.actions (meets g (good g (k - 1)) s)) (eq-eqb (common s g.bad) 0 (ap (common s) (sym bad) ∙ sym part ∙ e)))

  -- ---- the observation's turn: u is the walk's answer for s and a

  -- for the observation, the successors in u that show it are good for k rounds
  abbrev pub good_in : (rounds mask observation : ℕ) → Bool
  good_in k u o = good g k (common u (g.shown o))

  -- a blocked action does not meet the step
  pub action_blocked : (F : Family) (s a : ℕ) (i : State) → (walked g s a).post ≡ Err i → false ≡ meets g F s a
  unfolding meets
  action_blocked F s a i e = sym (and_false_left (all g.observations (λ o. F (after g s a o))) (blocked_is g a s i e))

  -- one that is not meets it where all observations pass, which is what the other turn is asked
  pub by_observations : (k s a u : ℕ) → (walked g s a).post ≡ Ok u → (n : ℕ) {r : Bool} → n ≡ g.observations → r ≡ all n (good_in k u) → r ≡ meets g (good g k) s a
  unfolding meets after
  by_observations k s a u e n each m =
      let w = post_is g a s u e in
      m ∙ ap (λ (i : ℕ). all i (good_in k u)) each ∙ ap (λ (v : ℕ). all g.observations (good_in k v)) w.1 ∙ sym (ap (λ (c : Bool). c && all g.observations (good_in k (post g s a))) w.0)

  -- and with no round after it they all do
  pub last_round : (k s a u : ℕ) → (walked g s a).post ≡ Ok u → k ≡ 0 → true ≡ meets g (good g k) s a
  last_round k s a u e z = by_observations k s a u e g.observations refl (sym (all_intro g.observations (good_in k u) (λ o l. sym (no_round k (common u (g.shown o)) z))))
