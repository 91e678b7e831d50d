-- Laws of digits: how many there are, and those of a number as they are written one by one.
-- Assumes nothing.
use mathlib.Core.Path.{◌≡◌, refl, sym, ap, ◌∙◌}
use mathlib.Core.List.{List, [], ◌++◌, append_assoc, append-nil}
use Prim.Native.Nat.{ℕ, zero, suc, ◌+◌, ◌-◌, ◌*◌, ◌^◌, ◌/◌, ◌%◌, ◌≤◌, ◌<◌}
use native.Mathlib.Nat.{pow-zero, pow-suc, mul_comm, mul-le-mul_right, mul-div_cancel, div-lt_iff_lt-mul, mod-lt}
use native.Mathlib.Omega.{arith}
use lib.ListN.{length, take, set, length-set}
use Rattle.std.proofs.Common.{take_all}
use Rattle.std.proofs.lemmas.List.{take_more_set}
use Rattle.form.specs.Form.{digits}

pub digits_long : (base r x : ℕ) → length (digits base r x) ≡ r
unfolding digits
digits_long base zero x = refl
digits_long base (suc r) x = ap suc (digits_long base r _)

-- ---- a number x of so many digits, made one by one

-- i digits stand in front: the next has so many units, and with the digits of the rest they are the number's
pub record Partly (base width x i unit rest : ℕ) (d : List ℕ) : Type 0 where
  pub size : length d ≡ width
  pub unit_is : i < width → unit ≡ base ^ (width - 1 - i)
  pub small : i < width → rest < 10 * unit
  pub made : take i d ++ digits base (width - i) rest ≡ digits base width x

module _ (base : ℕ) (b : 2 ≤ base) (t : base ≤ 10) where
  power_some : (k : ℕ) → 1 ≤ base ^ k
  power_some zero = omega (arith, pow-zero base)
  power_some (suc k) =
      let h = mul-le-mul_right {m = 1} {n = base ^ k} base (power_some k) in
      omega (arith, pow-suc base k)

  module _ (width x : ℕ) where
    pub partly_none : (unit : ℕ) (d : List ℕ) → length d ≡ width → unit ≡ base ^ (width - 1) → x < 10 * base ^ (width - 1) → Partly base width x 0 unit x d
    partly_none unit d long e l =
        let k : width - 0 ≡ width = omega arith in
        let j : width - 1 ≡ width - 1 - 0 = omega arith in
        record {
          size = long;
          unit_is = λ h. e ∙ ap (λ (n : ℕ). base ^ n) j;
          small = λ h. omega (arith, e);
          made = rw k;
        }

    module _ (i unit rest : ℕ) (d : List ℕ) (p : Partly base width x i unit rest d) where
      -- the next digit
      pub unit_some : i < width → 1 ≤ unit
      unit_some l = omega (arith, p.unit_is l, power_some (width - 1 - i))

      pub digit_few : i < width → rest / unit < 10
      digit_few l = (div-lt_iff_lt-mul {k = unit} {x = rest} {y = 10} (unit_some l)).1 (p.small l)

      next_unit : i + 1 < width → unit ≡ base ^ (width - 1 - (i + 1)) * base
      next_unit l =
          let k : width - 1 - i ≡ suc (width - 1 - (i + 1)) = omega arith in
          p.unit_is (omega arith) ∙ ap (λ (j : ℕ). base ^ j) k ∙ pow-suc base (width - 1 - (i + 1))

      next_small : i + 1 < width → rest % unit < 10 * (unit / base)
      next_small l =
          let k = base ^ (width - 1 - (i + 1)) in
          let e : unit ≡ k * base = next_unit l in
          let q : unit / base ≡ k = ap (λ (u : ℕ). u / base) e ∙ mul-div_cancel k {n = base} (omega arith) in
          let m : rest % unit < unit = mod-lt rest {m = unit} (unit_some (omega arith)) in
          let f : base * k ≤ 10 * k = mul-le-mul_right {m = base} {n = 10} k t in
          omega (arith, e, q, m, f, mul_comm k base)

      pub partly_more : i < width → Partly base width x (i + 1) (unit / base) (rest % unit) (set d i (48 + rest / unit))
      unfolding digits
      partly_more l =
          let k : width - i ≡ suc (width - (i + 1)) = omega arith in
          let e : unit ≡ base ^ (width - (i + 1)) = p.unit_is l ∙ ap (λ (j : ℕ). base ^ j) (omega arith) in
          record {
            size = length-set d i (48 + rest / unit) ∙ p.size;
            unit_is = λ h. ap (λ (u : ℕ). u / base) (next_unit h) ∙ mul-div_cancel (base ^ (width - 1 - (i + 1))) {n = base} (omega arith);
            small = next_small;
            made = rw (take_more_set d i (48 + rest / unit) (omega (arith, p.size)), append_assoc) (rw (k, ← e) at p.made);
          }

      -- all are
      pub partly_all : width ≤ i → d ≡ digits base width x
      unfolding digits
      partly_all m =
          let k : width - i ≡ 0 = omega arith in
          sym (append-nil d) ∙ ap (λ (l : List ℕ). l ++ []) (sym (take_all i d (omega (arith, p.size)))) ∙ (rw k at p.made)
