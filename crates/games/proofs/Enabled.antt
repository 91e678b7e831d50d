-- When an action is enabled in a state: the one place where `enabled` is taken apart.
-- Assumes nothing.
use mathlib.Core.Path.{◌≡◌, sym, ◌∙◌}
use mathlib.Core.Bool.{true, false}
use mathlib.Core.Logic.{⊎_elim}
use Prim.Native.Nat.{ℕ}
use borrow.Author.Tests.{eq-eqb, ne_eqb}
use Rattle.sets.specs.Mask.{member}
use Rattle.sets.proofs.Logic.{decided, or_left, or_right, or_false_intro}
use Rattle.sets.proofs.Mask.{member_zero}
use Rattle.games.specs.Game.{Game, has_successor, enabled}

module _ (g : Game) (i a : ℕ) where
  pub successor_some : (g.successors a i ≡ 0 → ⊥) → has_successor g i a ≡ true
  unfolding has_successor
  successor_some d = rw (ne_eqb (g.successors a i) 0 d)

  pub successor_none : g.successors a i ≡ 0 → has_successor g i a ≡ false
  unfolding has_successor
  successor_none e = rw (eq-eqb (g.successors a i) 0 e)

  pub enabled_parked : member g.parked i ≡ true → enabled g i a ≡ true
  unfolding enabled
  enabled_parked e = or_left (has_successor g i a) e

  pub enabled_moves : (g.successors a i ≡ 0 → ⊥) → enabled g i a ≡ true
  unfolding enabled
  enabled_moves d = or_right (member g.parked i) (successor_some d)

  pub enabled_still : g.successors a i ≡ 0 → enabled g i a ≡ member g.parked i
  unfolding enabled
  enabled_still e =
      ⊎_elim (λ m. or_left (has_successor g i a) m ∙ sym m) (λ m. or_false_intro m (successor_none e) ∙ sym m) (decided (member g.parked i))

  -- where no state is parked
  pub enabled_unparked : g.parked ≡ 0 → enabled g i a ≡ has_successor g i a
  unfolding enabled
  enabled_unparked e = rw (e, member_zero i)
