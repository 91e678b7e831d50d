-- What a check that answers `Ok` tells of its parts.
-- Assumes nothing.
use mathlib.Core.Path.{◌≡◌, refl}
use mathlib.Core.Bool.{Bool, true, false, cond}
use Prim.Native.Nat.{ℕ}
use Rattle.std.specs.Prelude.{Ok, Err}
use Rattle.sets.specs.Bounded.{Found, nothing, found, at_found}
use Rattle.games.specs.Answers.{Checked, refused, unless}
use Rattle.games.specs.declared.Reason.{Reason}
use Rattle.games.specs.declared.Refusal.{Refusal}

-- a refusal is not `Ok`
pub never_err : {A : Type 0} (r : Refusal) → ◌≡◌ {A = Checked} (Err r) (Ok tt) → A
never_err r e = cc

pub never : {A : Type 0} (k : Reason) (p : ℕ) → ◌≡◌ {A = Checked} (refused k p) (Ok tt) → A
never k p e = cc

pub then_fine : (c d : Checked) → unless c Err d ≡ Ok tt → (c ≡ Ok tt) × (d ≡ Ok tt)
then_fine (Ok tt) d e = (refl, e)
then_fine (Err r) d e = never_err r e

pub cond_fine : (b : Bool) (c : Checked) (k : Reason) (p : ℕ) → cond b c (refused k p) ≡ Ok tt → (b ≡ true) × (c ≡ Ok tt)
cond_fine true c k p e = (refl, e)
cond_fine false c k p e = never k p e

pub cond_passed : (b : Bool) (k : Reason) (p : ℕ) (c : Checked) → cond b (refused k p) c ≡ Ok tt → (b ≡ false) × (c ≡ Ok tt)
cond_passed true k p c e = never k p e
cond_passed false k p c e = (refl, e)

pub found_none : (f : Found) (r : ℕ → Checked) → ((i : ℕ) → r i ≡ Ok tt → ⊥) → at_found f r (Ok tt) ≡ Ok tt → f ≡ nothing
found_none nothing r h e = refl
found_none (found i) r h e = absurd (h i e)
