-- Tests: what `&&`, `||`, `not` and `Bool.beq` say of their parts; and two numbers compared.
-- Assumes nothing.
use mathlib.Core.Path.{◌≡◌, refl, sym, ◌∙◌}
use mathlib.Core.Logic.{◌⊎◌, inl, inr, ⊎_elim}
use mathlib.Core.Bool.{Bool, true, false, not, ◌&&◌, ◌||◌, beq, true≢false, false≢true}
use Prim.Native.Nat.{ℕ, ◌≤◌, ◌<◌}
use borrow.Author.Tests.{ltb-true, ltb-false}
use lib.Dec.{ltb}

-- a test holds or fails
pub decided : (b : Bool) → (b ≡ true) ⊎ (b ≡ false)
decided true = inl refl
decided false = inr refl

-- and not both
pub clash {ℓ} : {A : Type ℓ} {b : Bool} → b ≡ true → b ≡ false → A
clash p q = absurd (true≢false (sym p ∙ q))

-- a test that cannot hold fails
pub refuted : (b : Bool) → (b ≡ true → ⊥) → b ≡ false
refuted true h = absurd (h refl)
refuted false h = refl

-- a test that cannot fail holds
pub affirmed : (b : Bool) → (b ≡ false → ⊥) → b ≡ true
affirmed true h = refl
affirmed false h = absurd (h refl)

-- two tests that hold together are the same
pub same_truth : (a b : Bool) → (a ≡ true → b ≡ true) → (b ≡ true → a ≡ true) → a ≡ b
same_truth true b f g = sym (f refl)
same_truth false true f g = g refl
same_truth false false f g = refl

-- ---- and

-- both hold: the first does
pub and_left : (a b : Bool) → (a && b) ≡ true → a ≡ true
and_left true b e = refl
and_left false b e = e

-- both hold: the second does
pub and_right : (a b : Bool) → (a && b) ≡ true → b ≡ true
and_right true b e = e
and_right false b e = absurd (false≢true e)

-- four hold: each does
pub and_four : (a b c d : Bool) → (a && b && c && d) ≡ true → (a ≡ true) × (b ≡ true) × (c ≡ true) × (d ≡ true)
and_four a b c d e =
    let f = and_left (a && b && c) d e in
    let g = and_left (a && b) c f in
    (and_left a b g, and_right a b g, and_right (a && b) c f, and_right (a && b && c) d e)

-- each holds: both do
pub and_intro : {a b : Bool} → a ≡ true → b ≡ true → (a && b) ≡ true
and_intro {a = true} {b} p q = q
and_intro {a = false} {b} p q = p

-- not both hold: one fails
pub and_false_cases : (a b : Bool) → (a && b) ≡ false → (a ≡ false) ⊎ (b ≡ false)
and_false_cases true b e = inr e
and_false_cases false b e = inl refl

-- the first fails: not both hold
pub and_false_left : {a : Bool} (b : Bool) → a ≡ false → (a && b) ≡ false
and_false_left {a = true} b e = absurd (true≢false e)
and_false_left {a = false} b e = refl

-- the second fails: not both hold
pub and_false_right : (a : Bool) {b : Bool} → b ≡ false → (a && b) ≡ false
and_false_right true e = e
and_false_right false e = refl

-- ---- or

-- one of the two holds
pub or_cases : (a b : Bool) → (a || b) ≡ true → (a ≡ true) ⊎ (b ≡ true)
or_cases true b e = inl refl
or_cases false b e = inr e

-- the first holds: one does
pub or_left : {a : Bool} (b : Bool) → a ≡ true → (a || b) ≡ true
or_left {a = true} b e = refl
or_left {a = false} b e = absurd (false≢true e)

-- the second holds: one does
pub or_right : (a : Bool) {b : Bool} → b ≡ true → (a || b) ≡ true
or_right true e = refl
or_right false e = e

-- neither holds: the first fails
pub or_false_left : (a b : Bool) → (a || b) ≡ false → a ≡ false
or_false_left true b e = e
or_false_left false b e = refl

-- neither holds: the second fails
pub or_false_right : (a b : Bool) → (a || b) ≡ false → b ≡ false
or_false_right true b e = absurd (true≢false e)
or_false_right false b e = e

-- each fails: neither holds
pub or_false_intro : {a b : Bool} → a ≡ false → b ≡ false → (a || b) ≡ false
or_false_intro {a = true} {b} p q = p
or_false_intro {a = false} {b} p q = q

-- ---- not; `not-true` and `not-false` of `borrow.Author.Tests` go the other way

-- a test that holds, negated
pub true_not : {b : Bool} → b ≡ true → not b ≡ false
true_not {b = true} e = refl
true_not {b = false} e = sym e

-- a test that fails, negated
pub false_not : {b : Bool} → b ≡ false → not b ≡ true
false_not {b = true} e = sym e
false_not {b = false} e = refl

-- ---- `not a || b`: where a holds, b does

-- the test from the implication
pub implies_intro : (a b : Bool) → (a ≡ true → b ≡ true) → (not a || b) ≡ true
implies_intro true b f = f refl
implies_intro false b f = refl

-- the implication from the test
pub implies_at : (a b : Bool) → (not a || b) ≡ true → a ≡ true → b ≡ true
implies_at true b e p = e
implies_at false b e p = absurd (false≢true p)

-- where it fails, a holds and b does not
pub implies_fails : (a b : Bool) → (not a || b) ≡ false → (a ≡ true) × (b ≡ false)
implies_fails true b e = (refl, e)
implies_fails false b e = absurd (true≢false e)

-- ---- `Bool.beq`

-- the test holds: they are equal
pub beq_same : (a b : Bool) → beq a b ≡ true → a ≡ b
beq_same true true e = refl
beq_same true false e = sym e
beq_same false true e = e
beq_same false false e = refl

-- they are equal: the test holds
pub same_beq : {a b : Bool} → a ≡ b → beq a b ≡ true
same_beq {a = true} {b = true} e = refl
same_beq {a = true} {b = false} e = sym e
same_beq {a = false} {b = true} e = e
same_beq {a = false} {b = false} e = refl

-- the test fails: they differ
pub beq_differ : (a b : Bool) → beq a b ≡ false → a ≡ b → ⊥
beq_differ a b e q = clash (same_beq q) e

-- ---- two numbers

-- the first is below the second, or not
pub lt_or_le : (a b : ℕ) → (a < b) ⊎ (b ≤ a)
lt_or_le a b = ⊎_elim (λ e. inl (ltb-true a b e)) (λ e. inr (ltb-false a b e)) (decided (ltb a b))
