-- What a whole text spells.
-- Assumes nothing.
use Prim.{Unit, tt}
use mathlib.Core.Path.{◌≡◌, refl}
use mathlib.Core.List.{List, [], ◌∷◌, ◌++◌}
use Prim.Native.Nat.{ℕ, zero, suc, ◌/◌, ◌%◌, ◌^◌, ◌≤◌, ◌<◌}
use native.Mathlib.Nat.{mod-lt, div-lt_iff_lt-mul}
use native.Mathlib.Omega.{arith}
use lib.ListN.{set}
use lib.Seq.{get_or-set_other}
use Rattle.form.specs.Form.{Form, departs, reads, Spells, byte_at, digits}
use Rattle.form.proofs.Laws.{local}
use Rattle.form.proofs.Texts.{weight}

-- every element is a byte
unfoldable pub Small : List ℕ → Type 0
Small [] = Unit {0}
Small (b ∷ w) = (b < 256) × Small w

pub small_append : (a b : List ℕ) → Small a → Small b → Small (a ++ b)
unfolding Small
small_append [] b h g = g
small_append (x ∷ a) b h g = (h.0, small_append a b h.1 g)

pub small_front : (a b : List ℕ) → Small (a ++ b) → Small a
unfolding Small
small_front [] b h = tt
small_front (x ∷ a) b h = (h.0, small_front a b h.1)

pub small_digits : (base r x : ℕ) → base ≤ 10 → x < base ^ r → Small (digits base r x)
unfolding Small digits
small_digits base zero x l h = tt
small_digits base (suc r) x l h =
    let k = weight base r x h in
    let d : x / base ^ r < base = (div-lt_iff_lt-mul k.1).1 k.0 in
    (omega arith, small_digits base r (x % base ^ r) l (mod-lt x k.1))

shift_in : (x : ℕ) (t : List ℕ) (p : ℕ) (w : List ℕ) → Spells (byte_at t) p w → Spells (byte_at (x ∷ t)) (suc p) w
unfolding Spells byte_at
shift_in x t p [] h = tt
shift_in x t p (b ∷ w) h = (h.0, shift_in x t (suc p) w h.1)

shift_out : (x : ℕ) (t : List ℕ) (p : ℕ) (w : List ℕ) → Spells (byte_at (x ∷ t)) (suc p) w → Spells (byte_at t) p w
unfolding Spells byte_at
shift_out x t p [] h = tt
shift_out x t p (b ∷ w) h = (h.0, shift_out x t (suc p) w h.1)

-- a text, and then its end
pub spells_self : (w : List ℕ) → Spells (byte_at w) 0 (w ++ (256 ∷ []))
unfolding Spells byte_at
spells_self [] = (refl, tt)
spells_self (b ∷ w) = (refl, shift_in b w 0 (w ++ (256 ∷ [])) (spells_self w))

-- a text that spells the bytes w begins so
pub record Begins (t w : List ℕ) : Type 0 where
  pub rest : List ℕ
  pub text : t ≡ w ++ rest

pub begins : (t w : List ℕ) → Small w → Spells (byte_at t) 0 w → Begins t w
unfolding Spells byte_at Small
begins t [] s h = record { rest = t; text = refl }
begins [] (b ∷ w) s h = let e : 256 ≡ b = h.0 in absurd (omega (arith, s.0))
begins (x ∷ t) (b ∷ w) s h =
    let r = begins t w s.1 (shift_out x t 0 w h.1) in
    let e : x ≡ b = h.0 in
    let f = r.text in
    record { rest = r.rest; text = cc }

pub whole : (t w : List ℕ) → Small t → Small w → Spells (byte_at t) 0 (w ++ (256 ∷ [])) → t ≡ w
unfolding Spells byte_at Small
whole [] [] a b h = refl
whole (x ∷ t) [] a b h = let e : x ≡ 256 = h.0 in absurd (omega (arith, a.0))
whole [] (y ∷ w) a b h = let e : 256 ≡ y = h.0 in absurd (omega (arith, b.0))
whole (x ∷ t) (y ∷ w) a b h =
    let e : x ≡ y = h.0 in
    let f = whole t w a.1 b.1 (shift_out x t 0 (w ++ (256 ∷ [])) h.1) in
    cc

-- one byte changed at i: a place before i stays
pub changed : (F : Form) (t : List ℕ) (i b q : ℕ) → reads F (byte_at (set t i b)) 0 ≡ departs q → q < i → reads F (byte_at t) 0 ≡ departs q
unfolding byte_at
changed F t i b q e l = local F (byte_at (set t i b)) (byte_at t) 0 q e (λ j k. get_or-set_other t i j b 256 (λ z. let y : j ≡ i = z in omega arith))
