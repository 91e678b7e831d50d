-- Laws of plays: each round shows an observation, and is the last round of a play.
-- Assumes nothing.
use mathlib.Core.Path.{◌≡◌, refl, sym, ap, ◌∙◌, subst}
use mathlib.Core.Logic.{⊎_elim}
use mathlib.Core.Bool.{true, false}
use Prim.Native.Nat.{ℕ, suc, ◌≤◌, ◌<◌}
use native.Mathlib.Nat.{le_refl, le_trans}
use native.Mathlib.Omega.{arith}
use lib.Dec.{leb}
use lib.ListN.{length, length-append}
use borrow.Author.Tests.{lt-leb, leb-true, leb-false}
use Rattle.sets.proofs.Logic.{decided}
use Rattle.games.specs.Game.{Game}
use Rattle.games.specs.Play.{Strategy, Play, begin, more, seen, rounds, up_to, PlayOf, Under, Survives, Lasts}

pub rounds_from_one : (p : Play) → 1 ≤ rounds p
unfolding rounds
rounds_from_one (begin i o) = le_refl 1
rounds_from_one (more p a i o) = omega arith

-- a play shows an observation in each round
pub rounds_seen : (p : Play) → length (seen p) ≡ rounds p
unfolding seen rounds
rounds_seen (begin i o) = refl
rounds_seen (more p a i o) = length-append (seen p) _ ∙ omega (arith, rounds_seen p)

-- and so at least one
pub some_seen : (p : Play) → 0 < length (seen p)
some_seen p = omega (arith, rounds_seen p, rounds_from_one p)

up_to_early : (i : ℕ) (p : Play) (a j o : ℕ) → leb i (rounds p) ≡ true → up_to i (more p a j o) ≡ up_to i p
unfolding up_to
up_to_early i p a j o e = rw e

up_to_late : (i : ℕ) (p : Play) (a j o : ℕ) → leb i (rounds p) ≡ false → up_to i (more p a j o) ≡ more p a j o
unfolding up_to
up_to_late i p a j o e = rw e

pub up_to_whole : (p : Play) → up_to (rounds p) p ≡ p
unfolding up_to rounds
up_to_whole (begin i o) = refl
up_to_whole (more p a i o) = up_to_late (suc (rounds p)) p a i o (lt-leb (suc (rounds p)) (rounds p) (le_refl (suc (rounds p))))

pub rounds_up_to : (i : ℕ) (p : Play) → 1 ≤ i → i ≤ rounds p → rounds (up_to i p) ≡ i
unfolding up_to rounds
rounds_up_to i (begin j o) f l = omega arith
rounds_up_to i (more p a j o) f l =
    ⊎_elim (λ e. ap rounds (up_to_early i p a j o e) ∙ rounds_up_to i p f (leb-true i (rounds p) e))
    (λ e. let h = leb-false i (rounds p) e in ap rounds (up_to_late i p a j o e) ∙ omega arith)
    (decided (leb i (rounds p)))

-- a play that is cut short is a play, under the same strategy
pub up_to_play : (g : Game) (i : ℕ) (p : Play) → PlayOf g p → PlayOf g (up_to i p)
unfolding up_to PlayOf
up_to_play g i (begin j o) h = h
up_to_play g i (more p a j o) h =
    ⊎_elim (λ e. subst (PlayOf g) (sym (up_to_early i p a j o e)) (up_to_play g i p h.0))
    (λ e. subst (PlayOf g) (sym (up_to_late i p a j o e)) h)
    (decided (leb i (rounds p)))

pub up_to_under : {g : Game} (ρ : Strategy g) (i : ℕ) (p : Play) → Under ρ p → Under ρ (up_to i p)
unfolding up_to Under
up_to_under ρ i (begin j o) h = h
up_to_under ρ i (more p a j o) h =
    ⊎_elim (λ e. subst (Under ρ) (sym (up_to_early i p a j o e)) (up_to_under ρ i p h.0))
    (λ e. subst (Under ρ) (sym (up_to_late i p a j o e)) h)
    (decided (leb i (rounds p)))

module _ (g : Game) (ρ : Strategy g) where
  -- a strategy lasts k rounds where every play under it of at most k rounds survives its last
  pub lasts_by_last : (k : ℕ) → ((p : Play) → PlayOf g p → Under ρ p → rounds p ≤ k → Survives g ρ p) → Lasts g ρ k
  unfolding Lasts
  lasts_by_last k h p played under i f l m =
      h (up_to i p) (up_to_play g i p played) (up_to_under ρ i p under) (subst (λ (r : ℕ). r ≤ k) (sym (rounds_up_to i p f m)) l)

  pub survives_last : (k : ℕ) → Lasts g ρ k → (p : Play) → PlayOf g p → Under ρ p → rounds p ≤ k → Survives g ρ p
  unfolding Lasts
  survives_last k h p played under l =
      subst (Survives g ρ) (up_to_whole p) (h p played under (rounds p) (rounds_from_one p) l (le_refl (rounds p)))

  pub lasts_fewer : (j k : ℕ) → j ≤ k → Lasts g ρ k → Lasts g ρ j
  unfolding Lasts
  lasts_fewer j k l h p played under i f m r = h p played under i f (le_trans m l) r
