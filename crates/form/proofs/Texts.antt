-- The texts of fixed words and of numbers.
-- Assumes nothing.
use mathlib.Core.Path.{◌≡◌, refl, sym, ap, subst}
use mathlib.Core.Bool.{true}
use mathlib.Core.List.{List, [], ◌∷◌, ◌++◌}
use Prim.Native.Nat.{ℕ, zero, suc, ◌+◌, ◌*◌, ◌-◌, ◌/◌, ◌%◌, ◌^◌, ◌≤◌, ◌<◌}
use native.Mathlib.Nat.{pow-suc, pow-zero, div-add-mod', mod-lt, div-lt_iff_lt-mul, mul_comm, div-eq_of_lt-le, add-mul, one-mul, mul-le-mul_right, suc-mul, one-le-pow}
use native.Mathlib.Omega.{arith}
use borrow.Author.Tests.{eq-eqb, eqb-true}
use Rattle.form.specs.Form.{Form, Has, Live, word, numeral, digit_fits, digits}
use Rattle.form.proofs.Steps.{digit_of_lem, of_digit}

pub word_in : (b : List ℕ) (F : Form) (w us : List ℕ) → Has F w us → Has (word b F) (b ++ w) us
unfolding word Has
word_in [] F w us h = h
word_in (x ∷ b) F w us h = (eq-eqb x x refl, word_in b F w us h)

pub record Behind (b : List ℕ) (F : Form) (w us : List ℕ) : Type 0 where
  pub rest : List ℕ
  pub text : w ≡ b ++ rest
  pub has : Has F rest us

pub word_out : (b : List ℕ) (F : Form) (w us : List ℕ) → Has (word b F) w us → Behind b F w us
unfolding word Has
word_out [] F w us h = record { rest = w; text = refl; has = h }
word_out (x ∷ b) F [] us h = absurd h
word_out (x ∷ b) F (y ∷ w) us h =
    let r = word_out b F w us h.1 in
    let e : y ≡ x = eqb-true y x h.0 in
    let g = r.text in
    record { rest = r.rest; text = cc; has = r.has }

pub word_live : (b : List ℕ) (F : Form) → Live F → Live (word b F)
unfolding word Live
word_live [] F l = l
word_live (x ∷ b) F l = ((x, eq-eqb x x refl), λ y e. word_live b F l)

-- the first digit of a number that lies between
split : (x W : ℕ) → 0 < W → (x / W * W ≤ x) × (x < x / W * W + W)
split x W l = let e = div-add-mod' x W in let m = mod-lt x l in (omega arith, omega arith)

pub weight : (base r x : ℕ) → x < base ^ suc r → (x < base * base ^ r) × (0 < base ^ r)
weight base r x l =
    let e : base ^ suc r ≡ base ^ r * base = pow-suc base r in
    let f : base ^ r * base ≡ base * base ^ r = mul_comm (base ^ r) base in
    (omega arith, positive (base ^ r) base x (omega arith))
  where
    positive : (W b x : ℕ) → x < W * b → 0 < W
    positive zero b x l = absurd (omega arith)
    positive (suc W) b x l = omega arith

pub over : (d : ℕ) → 48 + d - 48 ≡ d
over d = omega arith

pub first_digit : (base lo hi r v x : ℕ) → x < base ^ suc r → lo ≤ v + x → v + x ≤ hi → digit_fits base lo hi (base ^ r) v (48 + x / base ^ r) ≡ true
first_digit base lo hi r v x l a b =
    let W = base ^ r in
    let k = weight base r x l in
    let s = split x W k.1 in
    let d : x / W < base = (div-lt_iff_lt-mul k.1).1 k.0 in
    of_digit base lo hi W v (48 + x / W)
    (record { from = omega arith; below = omega arith; low = rw (over (x / W)) (omega arith); high = rw (over (x / W)) (omega arith) })

pub numeral_in : (base lo hi r v x : ℕ) (next : ℕ → Form) (w us : List ℕ) → x < base ^ r → lo ≤ v + x → v + x ≤ hi → Has (next (v + x)) w us → Has (numeral base lo hi r v next) (digits base r x ++ w) us
unfolding numeral Has digits
numeral_in base lo hi zero v x next w us l a b h =
    let e : x ≡ 0 = omega (arith, pow-zero base) in
    let f : v + x ≡ v = omega arith in
    rw (f) at h
numeral_in base lo hi (suc r) v x next w us l a b h =
    let W = base ^ r in
    let k = weight base r x l in
    let e : v + (48 + x / W - 48) * W + x % W ≡ v + x = rw (over (x / W)) (omega (arith, div-add-mod' x W)) in (
      first_digit base lo hi r v x l a b,
      numeral_in base lo hi r (v + (48 + x / W - 48) * W) (x % W) next w us (mod-lt x k.1) (omega arith) (omega arith) (subst (λ (u : ℕ). Has (next u) w us) (sym e) h),
    )

pub record Number (base lo hi r v : ℕ) (next : ℕ → Form) (w us : List ℕ) : Type 0 where
  pub part : ℕ
  pub rest : List ℕ
  pub text : w ≡ digits base r part ++ rest
  pub below : part < base ^ r
  pub from : lo ≤ v + part
  pub to : v + part ≤ hi
  pub has : Has (next (v + part)) rest us

-- a digit before the others
pub glued : (d x W : ℕ) → x < W → ((d * W + x) / W ≡ d) × ((d * W + x) % W ≡ x)
glued d x W l =
    let q : (d * W + x) / W ≡ d = div-eq_of_lt-le W (omega arith) (omega (arith, add-mul d 1 W, one-mul W)) in
    (q, omega (arith, div-add-mod' (d * W + x) W, ap (λ (n : ℕ). n * W) q))

pub glued_below : (d x base r : ℕ) → d < base → x < base ^ r → d * base ^ r + x < base ^ suc r
glued_below d x base r l k =
    let a : suc d * base ^ r ≤ base * base ^ r = mul-le-mul_right (base ^ r) l in
    let e : base ^ suc r ≡ base ^ r * base = pow-suc base r in
    let f : base ^ r * base ≡ base * base ^ r = mul_comm (base ^ r) base in
    let g : suc d * base ^ r ≡ d * base ^ r + base ^ r = suc-mul d (base ^ r) in
    omega arith

pub numeral_out : (base lo hi r v : ℕ) (next : ℕ → Form) (w us : List ℕ) → v ≤ hi → lo < v + base ^ r → Has (numeral base lo hi r v next) w us → Number base lo hi r v next w us
unfolding numeral Has digits
numeral_out base lo hi zero v next w us a b h =
    let e : v ≡ v + 0 = omega arith in
    record { part = 0; rest = w; text = refl; below = omega (arith, pow-zero base); from = omega (arith, pow-zero base); to = omega arith; has = subst (λ (u : ℕ). Has (next u) w us) e h }
numeral_out base lo hi (suc r) v next [] us a b h = absurd h
numeral_out base lo hi (suc r) v next (y ∷ w) us a b h =
    let W = base ^ r in
    let d = digit_of_lem base lo hi W v y h.0 in
    let n = numeral_out base lo hi r (v + (y - 48) * W) next w us d.low d.high h.1 in
    let g = glued (y - 48) n.part W n.below in
    let e : v + (y - 48) * W + n.part ≡ v + ((y - 48) * W + n.part) = omega arith in
    let f : 48 + (y - 48) ≡ y = omega (arith, d.from) in
    let t = n.text in
    record {
      part = (y - 48) * W + n.part;
      rest = n.rest;
      text = rw (g.0, g.1, f) (ap (λ (l : List ℕ). y ∷ l) t);
      below = glued_below (y - 48) n.part base r (omega (arith, d.below, d.from)) n.below;
      from = omega (arith, n.from);
      to = omega (arith, n.to);
      has = subst (λ (u : ℕ). Has (next u) n.rest us) e n.has;
    }

pub numeral_live : (base lo hi r v : ℕ) (next : ℕ → Form) → 0 < base → lo ≤ hi → v ≤ hi → lo < v + base ^ r → ((u : ℕ) → lo ≤ u → u ≤ hi → Live (next u)) → Live (numeral base lo hi r v next)
unfolding numeral Live
numeral_live base lo hi zero v next z o a b f = f v (omega (arith, pow-zero base)) a
numeral_live base lo hi (suc r) v next z o a b f = (
  (48 + (lo - v) / base ^ r, first_digit base lo hi r v (lo - v) (omega (arith, one-le-pow (suc r) base z)) (omega arith) (omega arith)),
  λ y e. let d = digit_of_lem base lo hi (base ^ r) v y e in
      numeral_live base lo hi r (v + (y - 48) * base ^ r) next z o d.low d.high f,
)

-- the same of a number from its first digit on
pub number_in : (base lo hi r x : ℕ) (next : ℕ → Form) (w us : List ℕ) → x < base ^ r → lo ≤ x → x ≤ hi → Has (next x) w us → Has (numeral base lo hi r 0 next) (digits base r x ++ w) us
number_in base lo hi r x next w us l a b h =
    let e : x ≡ 0 + x = omega arith in
    numeral_in base lo hi r 0 x next w us l (omega arith) (omega arith) (subst (λ (u : ℕ). Has (next u) w us) e h)

pub record Numbered (base lo hi r : ℕ) (next : ℕ → Form) (w us : List ℕ) : Type 0 where
  pub value : ℕ
  pub rest : List ℕ
  pub text : w ≡ digits base r value ++ rest
  pub below : value < base ^ r
  pub from : lo ≤ value
  pub to : value ≤ hi
  pub has : Has (next value) rest us

pub number_out : (base lo hi r : ℕ) (next : ℕ → Form) (w us : List ℕ) → lo < base ^ r → Has (numeral base lo hi r 0 next) w us → Numbered base lo hi r next w us
number_out base lo hi r next w us l h =
    let n = numeral_out base lo hi r 0 next w us (omega arith) (omega arith) h in
    let e : 0 + n.part ≡ n.part = omega arith in
    record { value = n.part; rest = n.rest; text = n.text; below = n.below; from = omega (arith, n.from); to = omega (arith, n.to); has = subst (λ (u : ℕ). Has (next u) n.rest us) e n.has }
