-- A number read at once: its digits one behind the other, and where they stand in a text, what a number of that many digits reads.
-- Assumes nothing.
use Prim.{tt}
use mathlib.Core.Path.{◌≡◌, refl, sym, ap, ap₂, subst, ◌∙◌}
use mathlib.Core.List.{List, [], ◌∷◌, ◌++◌}
use Prim.Native.Nat.{ℕ, zero, suc, ◌+◌, ◌*◌, ◌-◌, ◌/◌, ◌%◌, ◌^◌, ◌≤◌, ◌<◌}
use native.Mathlib.Nat.{pow-suc, pow-zero, div-add-mod', mod-lt, div-one, add-mul, mul_assoc, mul-le-mul, mul-le-mul_right, suc-mul, pow-le-pow_right}
use native.Mathlib.Numerals.{add-one}
use native.Mathlib.Omega.{arith}
use lib.ListN.{length}
use Rattle.form.specs.Form.{Form, reads, Spells, numeral, digits, byte_at}
use Rattle.form.specs.Places.{Said}
use Rattle.form.proofs.Steps.{number_hit, past_end}
use Rattle.form.proofs.Texts.{weight, glued, first_digit, over}

-- ---- one digit more

-- v, and a digit d behind it
more_split : (base W h l d : ℕ) → (h * W + l) * base + d ≡ h * (W * base) + (l * base + d)
more_split base W h l d = rw (add-mul (h * W) l base, mul_assoc h W base) (omega arith)

more_below : (base W l d : ℕ) → l < W → d < base → l * base + d < W * base
more_below base W l d a b =
    let e : suc l * base ≤ W * base = mul-le-mul_right base a in
    omega (arith, suc-mul l base)

pub digits_more : (base r v d : ℕ) → v < base ^ r → d < base → digits base (suc r) (v * base + d) ≡ digits base r v ++ ((48 + d) ∷ [])
unfolding digits
digits_more base zero v d l k =
    let z : v ≡ 0 = omega (arith, pow-zero base) in
    let e : v * base + d ≡ d = rw (z) (omega arith) in
    let f : (v * base + d) / base ^ 0 ≡ d = rw (e, pow-zero base) (div-one d) in
    ap (λ (n : ℕ). (48 + n) ∷ []) f
digits_more base (suc r) v d l k =
    let W = base ^ r in
    let p = weight base r v l in
    let h = v / W in
    let x = v % W in
    let below : x < W = mod-lt v p.1 in
    let is : h * W + x ≡ v = div-add-mod' v W in
    let g = glued h (x * base + d) (W * base) (more_below base W x d below k) in
    let e : v * base + d ≡ h * (W * base) + (x * base + d) = ap (λ (n : ℕ). n * base + d) (sym is) ∙ more_split base W h x d in
    let q : (v * base + d) / base ^ suc r ≡ h = ap₂ (λ (n m : ℕ). n / m) e (pow-suc base r) ∙ g.0 in
    let m : (v * base + d) % base ^ suc r ≡ x * base + d = ap₂ (λ (n y : ℕ). n % y) e (pow-suc base r) ∙ g.1 in
    ap₂ (λ (n : ℕ) (y : List ℕ). (48 + n) ∷ y) q (ap (λ (n : ℕ). digits base (suc r) n) m ∙ digits_more base r x d below k)

pub digits_length : (base r x : ℕ) → length (digits base r x) ≡ r
unfolding digits
digits_length base zero x = refl
digits_length base (suc r) x = ap suc (digits_length base r (x % base ^ r))

-- ---- in a text

spells_more : (s : ℕ → ℕ) (p b : ℕ) (w : List ℕ) → Spells s p w → s (p + length w) ≡ b → Spells s p (w ++ (b ∷ []))
unfolding Spells
spells_more s p b [] h e = (ap s (let f : p ≡ p + 0 = omega arith in f) ∙ e, tt)
spells_more s p b (x ∷ w) h e = (h.0, spells_more s (suc p) b w h.1 (ap s (let f : suc p + length w ≡ p + suc (length w) = omega arith in f) ∙ e))

-- r digits are read, the number v
pub record Begun (t : List ℕ) (at base width i v : ℕ) : Type 0 where
  pub inside : i ≤ width
  pub within : at + i ≤ length t
  pub below : v < base ^ i
  pub spells : Spells (byte_at t) at (digits base i v)

pub begun_none : (t : List ℕ) (at base width : ℕ) → at ≤ length t → Begun t at base width 0 0
unfolding digits Spells
begun_none t at base width l = record { inside = omega arith; within = omega arith; below = omega (arith, pow-zero base); spells = tt }

-- what is read so far stays small
pub begun_small : (t : List ℕ) (at base width i v : ℕ) → Begun t at base width i v → 2 ≤ base → base ^ width ≤ 100000 → v < 100000
begun_small t at base width i v b two few = let p : base ^ i ≤ base ^ width = pow-le-pow_right (omega arith) b.inside in omega (arith, b.below)

pub begun_scaled : (t : List ℕ) (at base width i v : ℕ) → Begun t at base width i v → 2 ≤ base → base ≤ 10 → base ^ width ≤ 100000 → v * base ≤ 1000000
begun_scaled t at base width i v b two ten few =
    mul-le-mul {n₁ = v} {m₁ = base} {n₂ = 100000} {m₂ = 10} (omega (arith, begun_small t at base width i v b two few)) ten

pub begun_more : (t : List ℕ) (at base width i v d : ℕ) → Begun t at base width i v → i < width → d < base → base ≤ 10 → byte_at t (at + i) ≡ 48 + d
    → Begun t at base width (i + 1) (v * base + d)
begun_more t at base width i v d g l low ten e =
    let in_text : byte_at t (at + i) < 256 = omega arith in
    let k = past_end t (at + i) in_text in
    let place : at + length (digits base i v) ≡ at + i = ap (λ (n : ℕ). at + n) (digits_length base i v) in
    record {
      inside = omega arith;
      within = omega arith;
      below = rw (add-one i, pow-suc base i) (more_below base (base ^ i) v d g.below low);
      spells =
          rw (add-one i, digits_more base i v d g.below low)
          (spells_more (byte_at t) at (48 + d) (digits base i v) g.spells (ap (byte_at t) place ∙ e));
    }

pub begun_end : (t : List ℕ) (at base width i v : ℕ) → Begun t at base width i v → width ≤ i → Said t at base width v
begun_end t at base width i v g l =
    let e : i ≡ width = omega (arith, g.inside) in
    record { within = omega (arith, g.within); below = subst (λ (n : ℕ). v < base ^ n) e g.below; spells = subst (λ (n : ℕ). Spells (byte_at t) at (digits base n v)) e g.spells }

-- ---- what it reads

spelled : (base lo hi r v x p : ℕ) (s : ℕ → ℕ) (next : ℕ → Form) → x < base ^ r → lo ≤ v + x → v + x ≤ hi → Spells s p (digits base r x)
    → reads (numeral base lo hi r v next) s p ≡ reads (next (v + x)) s (p + r)
unfolding digits Spells numeral
spelled base lo hi zero v x p s next l a b h =
    let e : v + x ≡ v = omega (arith, pow-zero base) in
    let f : p + 0 ≡ p = omega arith in
    rw (e, f)
spelled base lo hi (suc r) v x p s next l a b h =
    let W = base ^ r in
    let k = weight base r x l in
    let d = first_digit base lo hi r v x l a b in
    let is : v + (s p - 48) * W + x % W ≡ v + x = rw (h.0, over (x / W)) (omega (arith, div-add-mod' x W)) in
    let place : p + 1 + r ≡ p + suc r = omega arith in
    number_hit base lo hi r W v p s next refl (rw h.0 d)
    ∙ spelled base lo hi r (v + (s p - 48) * W) (x % W) (p + 1) s next (mod-lt x k.1) (rw (is) a) (rw (is) b) (rw (add-one p) h.1)
    ∙ ap₂ (λ (n q : ℕ). reads (next n) s q) is place

pub said_read : (t : List ℕ) (at base width lo hi v : ℕ) → Said t at base width v → lo ≤ v → v ≤ hi → (next : ℕ → Form)
    → reads (numeral base lo hi width 0 next) (byte_at t) at ≡ reads (next v) (byte_at t) (at + width)
said_read t at base width lo hi v g a b next =
    spelled base lo hi width 0 v at (byte_at t) next g.below (omega arith) (omega arith) g.spells
    ∙ ap (λ (n : ℕ). reads (next n) (byte_at t) (at + width)) (let f : 0 + v ≡ v = omega arith in f)
