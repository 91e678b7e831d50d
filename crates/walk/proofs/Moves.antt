-- What one state comes to: by whether the action is enabled there, and back.
-- Assumes nothing.
use mathlib.Core.Path.{◌≡◌, refl, ap, ◌∙◌}
use mathlib.Core.Bool.{Bool, true, false, cond}
use Prim.Native.Nat.{ℕ}
use Rattle.sets.proofs.Mask.{member_below}
use Rattle.games.specs.Game.{Game, enabled}
use Rattle.games.proofs.Enabled.{enabled_parked}
use Rattle.std.specs.Prelude.{Some, None, is_some}
use Rattle.walk.specs.Walk.{moved}
use Rattle.walk.specs.Promise.{ParkedPass}

some_is : (b : Bool) (v : ℕ) → is_some (cond b (Some v) None) ≡ b
some_is true v = refl
some_is false v = refl

module _ (g : Game) (a i : ℕ) where
  pub moved_some : is_some (moved g a i) ≡ enabled g i a
  unfolding moved
  moved_some = some_is (enabled g i a) (g.successors a i)

  pub moved_enabled : enabled g i a ≡ true → moved g a i ≡ Some (g.successors a i)
  unfolding moved
  moved_enabled e = rw e

  pub moved_blocked : enabled g i a ≡ false → moved g a i ≡ None
  unfolding moved
  moved_blocked e = rw e

pub parked_pass : (g : Game) → ParkedPass g
parked_pass g A a i l p = moved_enabled g a i (enabled_parked g i a p) ∙ ap Some (A.parked_end a i l (member_below g.states g.parked i A.parked_below p) p)
