-- Laws of formats: what reading gives is right, and the place where a text departs is the first that can be.
-- Assumes nothing.
use Prim.{tt}
use mathlib.Core.Path.{◌≡◌, refl, sym, ap}
use mathlib.Core.Logic.{◌⊎◌, inl, inr, ⊎_elim}
use mathlib.Core.Bool.{Bool, true, false, cond}
use mathlib.Core.List.{List, [], ◌∷◌, ◌++◌}
use Prim.Native.Nat.{ℕ, suc, ◌+◌, ◌≤◌}
use native.Mathlib.Omega.{arith}
use lib.ListN.{length}
use Rattle.form.specs.Form.{Form, stop, byte, Outcome, read, departs, reads, Has, Live, Spells}

-- the text that was read
pub record Taken (F : Form) (s : ℕ → ℕ) (p : ℕ) (us : List ℕ) : Type 0 where
  pub text : List ℕ
  pub has : Has F text us
  pub spells : Spells s p text

-- a text of the format that goes with s up to the place q, and goes on there
pub record Nearest (F : Form) (s : ℕ → ℕ) (p q : ℕ) : Type 0 where
  pub front : List ℕ
  pub next : ℕ
  pub back : List ℕ
  pub numbers : List ℕ
  pub has : Has F (front ++ (next ∷ back)) numbers
  pub spells : Spells s p front
  pub long : q ≡ p + length front

not_read : {A : Type 0} (p : ℕ) (vs : List ℕ) → departs p ≡ read vs → A
not_read p vs e = let z : ◌≡◌ {A = ℕ} 0 1 = cc in absurd (omega arith)

-- one byte on, or none
cases : (t : Bool) (x y o : Outcome) → cond t x y ≡ o → ((t ≡ true) × (x ≡ o)) ⊎ (y ≡ o)
cases true x y o e = inl (refl, e)
cases false x y o e = inr e

one : (ok : ℕ → Bool) (next : ℕ → Form) (s : ℕ → ℕ) (p : ℕ) (o : Outcome) → reads (byte ok next) s p ≡ o → ((ok (s p) ≡ true) × (reads (next (s p)) s (suc p) ≡ o)) ⊎ (departs p ≡ o)
unfolding reads
one ok next s p o e = cases (ok (s p)) (reads (next (s p)) s (suc p)) (departs p) o e

same_place : (p q : ℕ) → departs p ≡ departs q → p ≡ q
same_place p q e = cc

-- what is read is a text of the format
pub taken : (F : Form) (s : ℕ → ℕ) (p : ℕ) (us : List ℕ) → reads F s p ≡ read us → Taken F s p us
unfolding reads Has Spells
taken (stop vs) s p us e = record { text = []; has = cc; spells = tt }
taken (byte ok next) s p us e =
    ⊎_elim
    (λ h. let r = taken (next (s p)) s (suc p) us h.1 in record { text = s p ∷ r.text; has = (h.0, r.has); spells = (refl, r.spells) })
    (λ h. not_read p us h) (one ok next s p (read us) e)

-- a text of the format is read
pub round : (F : Form) (s : ℕ → ℕ) (p : ℕ) (w us : List ℕ) → Has F w us → Spells s p w → reads F s p ≡ read us
unfolding reads Has Spells
round (stop vs) s p [] us h g = ap read h
round (stop vs) s p (b ∷ w) us h g = absurd h
round (byte ok next) s p [] us h g = absurd h
round (byte ok next) s p (b ∷ w) us h g = rw (reads, g.0, h.0) (round (next b) s (suc p) w us h.1 g.1)

-- the place lies ahead, and depends on no byte behind it
pub ahead : (F : Form) (s : ℕ → ℕ) (p q : ℕ) → reads F s p ≡ departs q → p ≤ q
unfolding reads
ahead (stop vs) s p q e = not_read q vs (sym e)
ahead (byte ok next) s p q e =
    ⊎_elim (λ h. let a = ahead (next (s p)) s (suc p) q h.1 in omega arith) (λ h. omega (arith, same_place p q h)) (one ok next s p (departs q) e)

pub local : (F : Form) (s s' : ℕ → ℕ) (p q : ℕ) → reads F s p ≡ departs q → ((j : ℕ) → j ≤ q → s j ≡ s' j) → reads F s' p ≡ departs q
unfolding reads
local (stop vs) s s' p q e a = e
local (byte ok next) s s' p q e a =
    rw (reads, ← a p (ahead (byte ok next) s p q e))
    (swap (ok (s p)) (reads (next (s p)) s (suc p)) (departs p) (reads (next (s p)) s' (suc p)) (departs q) e (λ h. local (next (s p)) s s' (suc p) q h a))
  where
    swap : (t : Bool) (x y x' o : Outcome) → cond t x y ≡ o → (x ≡ o → x' ≡ o) → cond t x' y ≡ o
    swap true x y x' o e f = f e
    swap false x y x' o e f = e

-- some text of a live format
pub record Some (F : Form) : Type 0 where
  pub text : List ℕ
  pub numbers : List ℕ
  pub has : Has F text numbers

pub some : (F : Form) → Live F → Some F
unfolding Has Live
some (stop vs) l = record { text = []; numbers = vs; has = refl }
some (byte ok next) l =
    let r = some (next l.0.0) (l.1 l.0.0 l.0.1) in
    record { text = l.0.0 ∷ r.text; numbers = r.numbers; has = (l.0.1, r.has) }

-- the bytes before the place begin some text of the format, which goes on there
pub nearest : (F : Form) (s : ℕ → ℕ) (p q : ℕ) → Live F → reads F s p ≡ departs q → Nearest F s p q
unfolding reads Has Live Spells
nearest (stop vs) s p q l e = not_read q vs (sym e)
nearest (byte ok next) s p q l e =
    ⊎_elim
    (λ h. let r = nearest (next (s p)) s (suc p) q (l.1 (s p) h.0) h.1 in
    let g = r.long in
    record { front = s p ∷ r.front; next = r.next; back = r.back; numbers = r.numbers; has = (h.0, r.has); spells = (refl, r.spells); long = omega arith })
    (λ h. let r = some (next l.0.0) (l.1 l.0.0 l.0.1) in
    record { front = []; next = l.0.0; back = r.text; numbers = r.numbers; has = (l.0.1, r.has); spells = tt; long = omega (arith, same_place p q h) })
    (one ok next s p (departs q) e)
