-- Where all start sets are good for k, a strategy lasts k rounds: it remembers the rounds left and the set of states that the
-- observations leave possible.
-- Assumes nothing.
use mathlib.Core.Path.{◌≡◌, refl, sym, ap, subst}
use mathlib.Core.Logic.{⊎_elim}
use mathlib.Core.Bool.{true, false}
use mathlib.Core.List.{List}
use Prim.Native.Nat.{ℕ, suc, pred, ◌^◌, ◌<◌}
use Rattle.sets.specs.Mask.{member}
use Rattle.sets.specs.Bounded.{Found, or_else}
use Rattle.sets.specs.Family.{Family}
use Rattle.sets.proofs.Bounded.{first_cases, first_some, first_found}
use Rattle.sets.proofs.Mask.{member_below}
use Rattle.games.specs.Game.{Game, Accepted, Shows, enabled}
use Rattle.games.specs.Play.{Strategy, Lasts}
use Rattle.games.specs.Step.{after, meets, lowest, step, good}
use Rattle.games.specs.Verdict.{start_set, starts_in}
use Rattle.games.proofs.Steps.{safe_at, enabled_at_is, meets_enabled, meets_after, after_intro, after_below, step_safe, step_action}
use Rattle.games.proofs.Starts.{start_below, start_member, starts_at}
use Rattle.games.proofs.Memory.{memory, memory_lasts}

module _ (g : Game) (A : Accepted g) where
  pub lowest_below : (F : Family) (s : ℕ) → lowest g F s < g.actions
  unfolding lowest
  lowest_below F s =
      ⊎_elim (λ w. subst (λ (f : Found). or_else f 0 < g.actions) (sym w.0) A.some_action)
      (λ w. subst (λ (f : Found). or_else f 0 < g.actions) (sym w.1) w.2.0)
      (first_cases g.actions (meets g F s))

  pub lowest_meets : (F : Family) (s : ℕ) → step g F s ≡ true → meets g F s (lowest g F s) ≡ true
  unfolding lowest
  lowest_meets F s h =
      let w = step_action g F s h in
      let f = first_some g.actions (meets g F s) w.0 w.1 w.2 in
      subst (λ (x : Found). meets g F s (or_else x 0) ≡ true) (sym f.1) (first_found g.actions (meets g F s) f.0 f.1).1

  -- what a set of the step grants at a member: survival, and a next set of the family that holds each successor
  module _ (F : Family) (s : ℕ) (below : s < 2 ^ g.states) (h : step g F s ≡ true) (i : ℕ) (m : member s i ≡ true) where
    pub stepped_survives : (member g.bad i ≡ false) × (enabled g i (lowest g F s) ≡ true)
    stepped_survives = (
      safe_at g s (step_safe g F s h) i m,
      enabled_at_is g s (lowest g F s) (meets_enabled g F s (lowest g F s) (lowest_meets F s h)) i (member_below g.states s i below m) m,
    )

    pub stepped_in : (o : ℕ) → o < g.observations → F (after g s (lowest g F s) o) ≡ true
    stepped_in = meets_after g F s (lowest g F s) (lowest_meets F s h)

    pub stepped_member : (j o : ℕ) → member (g.successors (lowest g F s) i) j ≡ true → Shows g j o → member (after g s (lowest g F s) o) j ≡ true
    stepped_member j o e shows = after_intro g s (lowest g F s) o i j (member_below g.states s i below m) m e shows.1

  -- rounds left, and the states possible
  record Memo : Type 0 where
    left : ℕ
    set : ℕ

  action : Memo → ℕ
  action m = lowest g (good g (pred m.left)) m.set

  follow : Memo → ℕ → Memo
  follow m o = record { left = pred m.left; set = after g m.set (action m) o }

  record Kept (j : ℕ) (m : Memo) (i : ℕ) : Type 0 where
    left_is : m.left ≡ j
    below : m.set < 2 ^ g.states
    is_good : good g j m.set ≡ true
    held : member m.set i ≡ true

  kept_survives : (j : ℕ) (m : Memo) (i : ℕ) → Kept (suc j) m i → (member g.bad i ≡ false) × (enabled g i (action m) ≡ true)
  unfolding action good
  kept_survives j m i w =
      subst (λ (n : ℕ). (member g.bad i ≡ false) × (enabled g i (lowest g (good g (pred n)) m.set) ≡ true)) (sym w.left_is)
      (stepped_survives (good g j) m.set w.below w.is_good i w.held)

  kept_moves : (j : ℕ) (m : Memo) (i i' o : ℕ) → Kept (suc j) m i → member (g.successors (action m) i) i' ≡ true → Shows g i' o → Kept j (follow m o) i'
  unfolding action follow good
  kept_moves j m i i' o w e shows =
      let same : action m ≡ lowest g (good g j) m.set = ap (λ (n : ℕ). lowest g (good g (pred n)) m.set) w.left_is in
      record {
        left_is = ap pred w.left_is;
        below = after_below g A m.set (action m) o shows.0;
        is_good =
            subst (λ (a : ℕ). good g j (after g m.set a o) ≡ true) (sym same)
            (stepped_in (good g j) m.set w.below w.is_good i w.held o shows.0);
        held =
            subst (λ (a : ℕ). member (after g m.set a o) i' ≡ true) (sym same)
            (stepped_member (good g j) m.set w.below w.is_good i w.held i' o
            (subst (λ (a : ℕ). member (g.successors a i) i' ≡ true) same e) shows);
      }

  pub lasting : (k : ℕ) → starts_in g (good g k) ≡ true → (ρ : Strategy g) × Lasts g ρ k
  unfolding action
  lasting k h =
      let opening : ℕ → Memo = λ o. record { left = k; set = start_set g o } in
      let memo : List ℕ → Memo = memory (opening 0) opening follow in
      let ρ : Strategy g = record { pick = λ seen. action (memo seen); legal = λ seen. lowest_below (good g (pred (memo seen).left)) (memo seen).set } in (
        ρ,
        memory_lasts (opening 0) opening follow g action Kept kept_survives kept_moves k
            (λ i o m shows.
            let w = start_member g i o m shows in
            record { left_is = refl; below = start_below g A o; is_good = starts_at g (good g k) h o w.0; held = w.1 })
            ρ (λ p played acts. refl),
      )
