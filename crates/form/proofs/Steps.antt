-- Laws of fixed words and numbers, as the code reads them.
-- Assumes nothing.
use mathlib.Core.Path.{◌≡◌, refl, sym, ap, ap₂, subst, ◌∙◌}
use mathlib.Core.Bool.{Bool, true, false, cond, ◌&&◌}
use mathlib.Core.List.{List}
use Prim.Native.Nat.{ℕ, suc, ◌+◌, ◌*◌, ◌-◌, ◌/◌, ◌^◌, ◌≤◌, ◌<◌}
use native.Mathlib.Numerals.{add-one}
use native.Mathlib.Nat.{add-zero}
use native.Mathlib.Nat.{pow-suc, mul-div_cancel, mul-le-mul, div-le_self}
use native.Mathlib.Omega.{arith, not-le}
use lib.Dec.{ltb, leb}
use lib.ListN.{length, get_or, get_or-eq_default}
use borrow.Author.Tests.{ne_eqb, ltb-true, leb-true, ltb-false, leb-false, lt-ltb, le-ltb, le-leb, lt-leb}
use Rattle.form.specs.Form.{Form, read, departs, reads, byte_at, word, finished, numeral, digit_fits}

pub past_end : (t : List ℕ) (k : ℕ) → byte_at t k < 256 → k < length t
unfolding byte_at
past_end t k h = not-le (length t) k (λ g. let e : get_or t k 256 ≡ 256 = get_or-eq_default t 256 g in omega arith)

-- a digit that fits
pub record Digit (base lo hi w v b : ℕ) : Type 0 where
  pub from : 48 ≤ b
  pub below : b < 48 + base
  pub low : v + (b - 48) * w ≤ hi
  pub high : lo < v + (b - 48) * w + w

pub pick_false : (a b : Bool) → cond a false b ≡ true → (a ≡ false) × (b ≡ true)
pick_false true b e = absurd (let z : false ≡ true = e in differ z)
  where
    differ : false ≡ true → ⊥
    differ z = let y : ◌≡◌ {A = ℕ} 0 1 = cc in omega arith
pick_false false b e = (refl, e)

pub both : (a b : Bool) → (a && b) ≡ true → (a ≡ true) × (b ≡ true)
both true true e = (refl, refl)
both true false e = let y : ◌≡◌ {A = ℕ} 0 1 = cc in absurd (omega arith)
both false b e = let y : ◌≡◌ {A = ℕ} 0 1 = cc in absurd (omega arith)

pub digit_of_lem : (base lo hi w v b : ℕ) → digit_fits base lo hi w v b ≡ true → Digit base lo hi w v b
unfolding digit_fits
digit_of_lem base lo hi w v b e =
    let f = pick_false (ltb b 48) _ e in
    let g = pick_false (leb (48 + base) b) _ f.1 in
    let h = both (leb (v + (b - 48) * w) hi) (ltb lo (v + (b - 48) * w + w)) g.1 in
    record { from = ltb-false b 48 f.0; below = leb-false (48 + base) b g.0; low = leb-true (v + (b - 48) * w) hi h.0; high = ltb-true lo (v + (b - 48) * w + w) h.1 }

pub of_digit : (base lo hi w v b : ℕ) → Digit base lo hi w v b → digit_fits base lo hi w v b ≡ true
unfolding digit_fits
of_digit base lo hi w v b d = rw (digit_fits, le-ltb b 48 d.from, lt-leb (48 + base) b d.below, le-leb (v + (b - 48) * w) hi d.low, lt-ltb lo (v + (b - 48) * w + w) d.high)

pub no_digit : (base lo hi w v b : ℕ) → b < 48 → digit_fits base lo hi w v b ≡ false
unfolding digit_fits
no_digit base lo hi w v b l = rw (digit_fits, lt-ltb b 48 l)

pub past_digit : (base lo hi w v b : ℕ) → 48 ≤ b → 48 + base ≤ b → digit_fits base lo hi w v b ≡ false
unfolding digit_fits
past_digit base lo hi w v b k l = rw (digit_fits, le-ltb b 48 k, le-leb (48 + base) b l)

pub digit_range : (base lo hi w v b : ℕ) → 48 ≤ b → b < 48 + base → digit_fits base lo hi w v b ≡ (leb (v + (b - 48) * w) hi && ltb lo (v + (b - 48) * w + w))
unfolding digit_fits
digit_range base lo hi w v b k l = rw (digit_fits, le-ltb b 48 k, lt-leb (48 + base) b l)

-- a digit of a weight is small
pub scaled : (d w : ℕ) → d < 10 → w ≤ 100000 → d * w ≤ 1000000
scaled d w l k = mul-le-mul {n₁ = d} {m₁ = w} {n₂ = 10} {m₂ = 100000} (omega arith) k

pub number_hit : (base lo hi r w v at : ℕ) (s : ℕ → ℕ) (next : ℕ → Form) → w ≡ base ^ r → digit_fits base lo hi w v (s at) ≡ true → reads (numeral base lo hi (suc r) v next) s at ≡ reads (numeral base lo hi r (v + (s at - 48) * w) next) s (at + 1)
unfolding reads numeral
number_hit base lo hi r w v at s next e h = rw (add-one, e, numeral, reads, ← e, h)

pub number_miss : (base lo hi r w v at : ℕ) (s : ℕ → ℕ) (next : ℕ → Form) → w ≡ base ^ r → digit_fits base lo hi w v (s at) ≡ false → reads (numeral base lo hi (suc r) v next) s at ≡ departs at
unfolding reads numeral
number_miss base lo hi r w v at s next e h = rw (numeral, reads, ← e, h)

pub less_power : (base r : ℕ) → 0 < base → base ^ suc r / base ≡ base ^ r
less_power base r l = rw (pow-suc base r) (mul-div_cancel (base ^ r) l)

-- the loop over a number: i digits are read, the number v; the digit before the next has weight w
pub record InNumber (t : List ℕ) (base lo hi width from i v w : ℕ) : Type 0 where
  pub weight : w ≡ base ^ (width - i)
  pub light : w ≤ 100000
  pub small : v ≤ hi
  pub within : from + i ≤ length t
  pub rest : (next : ℕ → Form) → reads (numeral base lo hi width 0 next) (byte_at t) from ≡ reads (numeral base lo hi (width - i) v next) (byte_at t) (from + i)

pub in_number_none : (t : List ℕ) (base lo hi width power from : ℕ) → power ≡ base ^ width → power ≤ 100000 → from ≤ length t → InNumber t base lo hi width from 0 0 power
in_number_none t base lo hi width power from e k l =
    let f : width - 0 ≡ width = omega arith in
    record { weight = rw (f) e; light = k; small = omega arith; within = omega (arith, l); rest = λ next. rw (f, add-zero from) refl }

-- one digit less: its weight
pub lighter : (base width i w : ℕ) → 2 ≤ base → i < width → w ≡ base ^ (width - i) → w / base ≡ base ^ (width - (i + 1))
lighter base width i w b l e =
    let k : width - i ≡ suc (width - (i + 1)) = omega arith in
    rw (e, k) (less_power base (width - (i + 1)) (omega arith))

module _ (t : List ℕ) (base lo hi width from i v w b : ℕ) (n : InNumber t base lo hi width from i v w) (l : i < width) (two : 2 ≤ base) (eb : b ≡ byte_at t (from + i)) where
  one_more : width - i ≡ suc (width - (i + 1))
  one_more = omega arith

  pub in_number_light : w / base ≤ 100000
  in_number_light = omega (arith, n.light, div-le_self w base)

  pub in_number_more : base ≤ 10 → digit_fits base lo hi (w / base) v b ≡ true → InNumber t base lo hi width from (i + 1) (v + (b - 48) * (w / base)) (w / base)
  in_number_more ten f =
      let d = digit_of_lem base lo hi (w / base) v b f in
      let lw = lighter base width i w two l n.weight in
      let here : byte_at t (from + i) < 256 = omega (arith, d.below) in
      let g = past_end t (from + i) here in
      let f' : digit_fits base lo hi (w / base) v (byte_at t (from + i)) ≡ true = subst (λ (x : ℕ). digit_fits base lo hi (w / base) v x ≡ true) eb f in
      let step : from + i + 1 ≡ from + (i + 1) = omega arith in
      record {
        weight = lw;
        light = in_number_light;
        small = d.low;
        within = omega arith;
        rest = λ next.
            n.rest next
            ∙ ap (λ (r : ℕ). reads (numeral base lo hi r v next) (byte_at t) (from + i)) one_more
            ∙ number_hit base lo hi (width - (i + 1)) (w / base) v (from + i) (byte_at t) next lw f'
            ∙ ap₂ (λ (x p : ℕ). reads (numeral base lo hi (width - (i + 1)) (v + (x - 48) * (w / base)) next) (byte_at t) p) (sym eb) step;
      }

  pub in_number_miss : digit_fits base lo hi (w / base) v b ≡ false → (next : ℕ → Form) → reads (numeral base lo hi width 0 next) (byte_at t) from ≡ departs (from + i)
  in_number_miss f next =
      let lw = lighter base width i w two l n.weight in
      let f' : digit_fits base lo hi (w / base) v (byte_at t (from + i)) ≡ false = subst (λ (x : ℕ). digit_fits base lo hi (w / base) v x ≡ false) eb f in
      n.rest next
      ∙ ap (λ (r : ℕ). reads (numeral base lo hi r v next) (byte_at t) (from + i)) one_more
      ∙ number_miss base lo hi (width - (i + 1)) (w / base) v (from + i) (byte_at t) next lw f'

pub in_number_end : (t : List ℕ) (base lo hi width from i v w : ℕ) → InNumber t base lo hi width from i v w → width ≤ i → i ≤ width → (next : ℕ → Form)
    → reads (numeral base lo hi width 0 next) (byte_at t) from ≡ reads (next v) (byte_at t) (from + width)
unfolding numeral
in_number_end t base lo hi width from i v w n l k next =
    let none : width - i ≡ 0 = omega arith in
    let e : from + i ≡ from + width = omega arith in
    n.rest next ∙ ap₂ (λ (r p : ℕ). reads (numeral base lo hi r v next) (byte_at t) p) none e

-- the text's end, and a byte before it
pub ends_here : (t : List ℕ) (at : ℕ) (vs : List ℕ) → byte_at t at ≡ 256 → reads (finished vs) (byte_at t) at ≡ read vs
unfolding word reads
ends_here t at vs h = rw (word, reads, h)

pub ends_later : (t : List ℕ) (at : ℕ) (vs : List ℕ) → (byte_at t at ≡ 256 → ⊥) → reads (finished vs) (byte_at t) at ≡ departs at
unfolding word reads
ends_later t at vs h = rw (word, reads, ne_eqb (byte_at t at) 256 h)
