-- A set that isn't good for k rounds is lost under every strategy: the play is handed over.
-- Assumes nothing.
use mathlib.Core.Path.{◌≡◌, refl, sym, ap, subst}
use mathlib.Core.Logic.{◌⊎◌, ⊎_elim, inl, inr}
use mathlib.Core.Bool.{true, false, true≢false}
use mathlib.Core.List.{List, [], ◌∷◌, ◌++◌}
use Prim.Native.Nat.{ℕ, zero, suc, ◌+◌, ◌^◌, ◌≤◌, ◌<◌}
use native.Mathlib.Omega.{arith}
use Rattle.sets.specs.Mask.{member}
use Rattle.sets.specs.Bounded.{all, any}
use Rattle.sets.proofs.Logic.{clash, and_false_cases}
use Rattle.sets.proofs.Bounded.{all_fails, any_none}
use Rattle.games.specs.Game.{Game, Accepted, enabled}
use Rattle.games.specs.Play.{Strategy, Play, begin, more, last, seen, rounds, PlayOf, Under, Lasts}
use Rattle.games.specs.Step.{safe, enabled_at, after, meets, step, good}
use Rattle.games.specs.Verdict.{start_sets, start_set}
use Rattle.games.specs.Demands.{Lost}
use Rattle.games.proofs.Steps.{safe_fails, enabled_fails, after_found, after_shown, after_below}
use Rattle.games.proofs.Plays.{survives_last}
use Rattle.games.proofs.Starts.{start_below, start_state}

module _ (g : Game) (A : Accepted g) (ρ : Strategy g) where
  -- a play under the strategy that has shown h and is in state i in round r
  pub record Reaches (h : List ℕ) (r i : ℕ) : Type 0 where
    pub play : Play
    pub played : PlayOf g play
    pub under : Under ρ play
    pub shows : seen play ≡ h
    pub stands : last play ≡ i
    pub comes : rounds play ≡ r

  ends_here : (k r i : ℕ) (h : List ℕ) → r ≤ k → (w : Reaches h r i) → (member g.bad i ≡ true) ⊎ (enabled g i (ρ.pick h) ≡ false) → Lost g ρ k
  ends_here k r i h l w end =
      record {
        play = w.play;
        played = w.played;
        under = w.under;
        short = subst (λ (n : ℕ). n ≤ k) (sym w.comes) l;
        ends =
            subst (λ (j : ℕ). (member g.bad j ≡ true) ⊎ (enabled g j (ρ.pick (seen w.play)) ≡ false)) (sym w.stands)
            (subst (λ (l : List ℕ). (member g.bad i ≡ true) ⊎ (enabled g i (ρ.pick l) ≡ false)) (sym w.shows) end);
      }

  goes_on : (h : List ℕ) (r s o : ℕ) → o < g.observations → ((i : ℕ) → member s i ≡ true → Reaches h r i) → (j : ℕ) → member (after g s (ρ.pick h) o) j ≡ true → Reaches (h ++ (o ∷ [])) (suc r) j
  unfolding seen last rounds PlayOf Under
  goes_on h r s o l reach j m =
      let a = ρ.pick h in
      let w = after_found g s a o j m in
      let p = reach w.0 w.2 in
      record {
        play = more p.play a j o;
        played =
            (p.played, ρ.legal h, subst (λ (i : ℕ). member (g.successors a i) j ≡ true) (sym p.stands) w.3, (l, after_shown g s a o j m));
        under = (p.under, ap ρ.pick (sym p.shows));
        shows = ap (λ (l : List ℕ). l ++ (o ∷ [])) p.shows;
        stands = refl;
        comes = ap suc p.comes;
      }

  -- a set that isn't good for k + 1: a play is lost in this round, or one of the next sets isn't good for k
  this_or_next : (k n r : ℕ) (h : List ℕ) (s : ℕ) → s < 2 ^ g.states → r ≤ n → ((i : ℕ) → member s i ≡ true → Reaches h r i) → good g (suc k) s ≡ false → ((o : ℕ) → o < g.observations → good g k (after g s (ρ.pick h) o) ≡ false → Lost g ρ n) → Lost g ρ n
  unfolding good step meets
  this_or_next k n r h s l b reach no-good next =
      let a = ρ.pick h in
      ⊎_elim
      (λ e. let w = safe_fails g s l e in ends_here n r w.0 h b (reach w.0 w.2) (inl w.3))
      (λ e. ⊎_elim
      (λ f. let w = enabled_fails g s a f in ends_here n r w.0 h b (reach w.0 w.2) (inr w.3))
      (λ f. let w = all_fails g.observations (λ o. good g k (after g s a o)) f in next w.0 w.1 w.2)
      (and_false_cases (enabled_at g s a) (all g.observations (λ o. good g k (after g s a o))) (any_none g.actions (meets g (good g k) s) e a (ρ.legal h))))
      (and_false_cases (safe g s) (any g.actions (meets g (good g k) s)) no-good)

  -- s holds states that plays under the strategy have come to in round r, all with the same observations
  pub loses : (k n r : ℕ) (h : List ℕ) (s : ℕ) → s < 2 ^ g.states → r + k ≤ n → ((i : ℕ) → member s i ≡ true → Reaches h r i) → good g (suc k) s ≡ false → Lost g ρ n
  unfolding good
  loses zero n r h s l b reach no-good = this_or_next 0 n r h s l (omega arith) reach no-good (λ o m e. absurd (true≢false e))
  loses (suc k) n r h s l b reach no-good =
      this_or_next (suc k) n r h s l (omega arith) reach no-good
      (λ o m e. loses k n (suc r) (h ++ (o ∷ [])) (after g s (ρ.pick h) o) (after_below g A s (ρ.pick h) o m) (omega arith) (goes_on h r s o m reach) e)

  -- where a start set isn't good for k, a play of at most k rounds is lost
  pub start_lost : (k o : ℕ) → o < start_sets g → good g k (start_set g o) ≡ false → Lost g ρ k
  unfolding good seen last rounds PlayOf Under
  start_lost zero o l e = absurd (true≢false e)
  start_lost (suc k) o l e =
      loses k (suc k) 1 (o ∷ []) (start_set g o) (start_below g A o) (omega arith)
      (λ i m. record { play = begin i o; played = start_state g i o l m; under = tt; shows = refl; stands = refl; comes = refl })
      e

  pub lost_no_lasting : (k : ℕ) → Lost g ρ k → Lasts g ρ k → ⊥
  lost_no_lasting k w h =
      let s = survives_last g ρ k h w.play w.played w.under w.short in
      ⊎_elim (λ e. clash e s.0) (λ e. clash s.1 e) w.ends
