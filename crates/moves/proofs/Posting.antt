-- What an answer of `post` says of the set and the action, and whether the action meets the step.
-- Assumes nothing.
use mathlib.Core.Path.{◌≡◌, sym, ap, ◌∙◌, subst}
use mathlib.Core.Logic.{⊎_elim}
use mathlib.Core.Bool.{Bool, true, false, ◌&&◌}
use Prim.Native.Nat.{ℕ, ◌^◌, ◌<◌}
use native.Mathlib.Omega.{arith}
use Rattle.sets.specs.Mask.{common}
use Rattle.sets.specs.Bounded.{all}
use Rattle.sets.specs.Family.{Family}
use Rattle.sets.proofs.Logic.{decided, refuted, and_false_left}
use Rattle.sets.proofs.Mask.{union_over_lt}
use Rattle.games.specs.Game.{Game, Accepted}
use Rattle.games.specs.Step.{enabled_at, post, after, meets}
use Rattle.walk.proofs.Promise.{told, stops_not}
use Rattle.walk.specs.Promise.{TellsOf}
use Rattle.walk.specs.Walk.{walked}
use Rattle.games.specs.declared.State.{State}
use Rattle.std.specs.Prelude.{Option, Some, None, Result, Ok, Err}
use Rattle.std.specs.Result.{result_ok}
use Rattle.moves.specs.Halves.{posted, AsWalked, shown_in}

module _ (g : Game) (s a : ℕ) (r : Option ℕ) (is : r ≡ posted g s a) where
  pub posted_blocked : r ≡ None → enabled_at g s a ≡ false
  unfolding posted
  posted_blocked e =
      refuted (enabled_at g s a)
      (λ h. let w : posted g s a ≡ Some (post g s a) = rw h in let z : ◌≡◌ {A = ℕ} 0 1 = cc in absurd (omega arith))

  pub posted_post : (u : ℕ) → r ≡ Some u → (enabled_at g s a ≡ true) × (post g s a ≡ u)
  unfolding posted
  posted_post u e =
      ⊎_elim
      (λ h. (h, let w : posted g s a ≡ Some (post g s a) = rw h in (cc)))
      (λ h. let w : posted g s a ≡ None = rw h in let z : ◌≡◌ {A = ℕ} 0 1 = cc in absurd (omega arith))
      (decided (enabled_at g s a))

-- ---- the walk's answer

-- an answer that tells of the set and the action is the one of the half tables
told_posted : (g : Game) (s a : ℕ) (r : Result ℕ State) (c : ℕ) → TellsOf g s a r c → posted g s a ≡ result_ok r
unfolding posted
told_posted g s a (Ok u) c t = rw (t.enabled_at_is, t.successors)
told_posted g s a (Err i) c t = rw (stops_not g a s i.0 c t)

pub as_walked : (g : Game) → AsWalked g
as_walked g s a = let w = walked g s a in told_posted g s a w.post w.looked (told g a s)

-- the successors are states of the game
pub posted_below : (g : Game) → Accepted g → (s a : ℕ) → a < g.actions → (r : Option ℕ) → r ≡ posted g s a → (u : ℕ) → r ≡ Some u → u < 2 ^ g.states
unfolding post
posted_below g A s a b r is u e =
    subst (λ (v : ℕ). v < 2 ^ g.states) (posted_post g s a r is u e).1 (union_over_lt g.states s (g.successors a) g.states (λ i l. A.successors_below a i b l))

module _ (g : Game) (F : Family) (s a : ℕ) (r : Option ℕ) (is : r ≡ posted g s a) where
  -- the action meets the step where the sets after it are good
  pub meets_shown : (u : ℕ) → r ≡ Some u → shown_in g F u ≡ meets g F s a
  unfolding meets after shown_in
  meets_shown u e =
      let w = posted_post g s a r is u e in
      sym
      (ap (λ (b : Bool). b && all g.observations (λ o. F (common (post g s a) (g.shown o)))) w.0
      ∙ ap (λ (v : ℕ). all g.observations (λ o. F (common v (g.shown o)))) w.1)

  pub meets_blocked : r ≡ None → false ≡ meets g F s a
  unfolding meets
  meets_blocked e = sym (and_false_left (all g.observations (λ o. F (after g s a o))) (posted_blocked g s a r is e))
