-- The verdict meets the demands.
-- Assumes nothing.
use mathlib.Core.Path.{◌≡◌, refl, sym, ◌∙◌, subst}
use mathlib.Core.Logic.{⊎_elim}
use mathlib.Core.Bool.{true, false, true≢false}
use Prim.Native.Nat.{ℕ, zero, suc}
use native.Mathlib.Omega.{arith}
use lib.ListN.{length}
use Rattle.sets.proofs.Logic.{decided}
use Rattle.games.specs.Game.{Game, Accepted}
use Rattle.games.specs.Play.{Strategy, Lasts}
use Rattle.games.specs.Step.{good, settling}
use Rattle.games.specs.Verdict.{Yes, No, starts_in, settled, cells, lost_round, verdict}
use Rattle.games.specs.Automaton.{card}
use Rattle.games.specs.Demands.{Lost, Third, Second, Decides}
use Rattle.games.proofs.Starts.{starts_all, starts_fail}
use Rattle.games.proofs.Losing.{start_lost, lost_no_lasting}
use Rattle.games.proofs.Lasting.{lasting}
use Rattle.games.proofs.Settling.{Drops, lost_round_lem}
use Rattle.games.proofs.Winning.{card_wins}

module _ (g : Game) where
  pub verdict_yes : starts_in g (settled g) ≡ true → verdict g ≡ Yes (settling g) (length (cells g))
  unfolding verdict
  verdict_yes h = rw h

  pub verdict_no : starts_in g (settled g) ≡ false → verdict g ≡ No (lost_round g)
  unfolding verdict
  verdict_no h = rw h

  yes_is_no : {A : Type 0} (t m k : ℕ) → Yes t m ≡ No k → A
  yes_is_no t m k e = let z : ◌≡◌ {A = ℕ} 0 1 = cc in absurd (omega arith)

  pub yes_starts : (t m : ℕ) → verdict g ≡ Yes t m → starts_in g (settled g) ≡ true
  yes_starts t m e = ⊎_elim (λ h. h) (λ h. yes_is_no t m (lost_round g) (sym e ∙ verdict_no h)) (decided (starts_in g (settled g)))

  pub no_starts : (k : ℕ) → verdict g ≡ No k → (starts_in g (settled g) ≡ false) × (k ≡ lost_round g)
  no_starts k e =
      ⊎_elim (λ h. yes_is_no (settling g) (length (cells g)) k (sym (verdict_yes h) ∙ e)) (λ h. (h, (cc (verdict_no h))))
      (decided (starts_in g (settled g)))

  module _ (A : Accepted g) where
    -- a round in which a start set drops out, and not before, meets the third demand
    pub drops_third : (k : ℕ) → Drops g k → Third g k
    unfolding good
    drops_third zero d = absurd (true≢false (sym (starts_all g (good g 0) (λ o l. refl)) ∙ d.drops))
    drops_third (suc k) d =
        let w = starts_fail g (good g (suc k)) d.drops in
        let lost : (ρ : Strategy g) → Lost g ρ (suc k) = λ ρ. start_lost g A ρ (suc k) w.0 w.1 w.2 in
        record {
          from_one = omega arith;
          lost = lost;
          no_strategy = λ ρ. lost_no_lasting g A ρ (suc k) (lost ρ);
          before = let p = lasting g A k (d.not_before k (omega arith)) in (p.0, subst (Lasts g p.0) (omega arith) p.1);
          below = d.below;
        }

    pub third : (k : ℕ) → verdict g ≡ No k → Third g k
    third k e =
        let w = no_starts k e in
        drops_third k (subst (Drops g) (sym w.1) (lost_round_lem g A w.0))

    pub second : (t m : ℕ) → verdict g ≡ Yes t m → Second g (card g)
    second t m e = card_wins g A (yes_starts t m e)

    pub decides : Decides g (verdict g) (card g)
    decides =
        record {
          yes_iff = (
            λ y. let s = second y.0 y.1 y.2 in (s.strategy.0, s.clear s.strategy.0 s.strategy.1),
            λ w. ⊎_elim (λ h. (settling g, length (cells g), verdict_yes h))
                (λ h. absurd ((third (lost_round g) (verdict_no h)).no_strategy w.0 (w.1 (lost_round g))))
                (decided (starts_in g (settled g))),
          );
          yes_card = second;
          no_round = third;
        }
