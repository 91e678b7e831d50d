-- Laws of decimals: the digits before the last and the last, how many there are, and that each byte is a digit.
-- Assumes nothing.
use mathlib.Core.Path.{◌≡◌, sym, ap, ◌∙◌}
use mathlib.Core.Logic.{⊎_elim}
use mathlib.Core.List.{List, [], ◌∷◌, ◌++◌}
use Prim.Native.Nat.{ℕ, zero, suc, ◌+◌, ◌-◌, ◌*◌, ◌^◌, ◌/◌, ◌%◌, ◌≤◌, ◌<◌}
use native.Mathlib.Nat.{pow-suc}
use native.Mathlib.Omega.{arith}
use borrow.Author.Tests.{lt-ltb, le-ltb}
use lib.ListN.{length, length-append, get_or-append, get_or-eq_default}
use lib.Seq.{get_or_at}
use Rattle.sets.proofs.Logic.{lt_or_le}
use Rattle.text.specs.Decimal.{digit, last_digits, decimal, digit_of, digit_at}

-- ---- a byte as a digit

module _ (b : ℕ) where
  -- below the digits
  pub digit_low : b < 48 → digit_of b ≡ 10
  unfolding digit_of
  digit_low l = rw (lt-ltb b 48 l)

  -- above them
  pub digit_high : 57 < b → digit_of b ≡ 10
  unfolding digit_of
  digit_high l = rw (le-ltb b 48 (omega arith), lt-ltb 57 b l)

  -- one of them
  pub digit_is : 48 ≤ b → b ≤ 57 → digit_of b ≡ b - 48
  unfolding digit_of
  digit_is l m = rw (le-ltb b 48 l, le-ltb 57 b m)

  -- the byte of its value
  pub digit_byte : digit_of b ≤ 9 → b ≡ digit (digit_of b)
  digit_byte h =
      ⊎_elim (λ (l : b < 48). absurd (omega (arith, digit_low l)))
      (λ (l : 48 ≤ b). ⊎_elim (λ (m : 57 < b). absurd (omega (arith, digit_high m))) (λ (m : b ≤ 57). omega (arith, digit_is l m)) (lt_or_le 57 b))
      (lt_or_le b 48)

-- the value of its byte
pub digit_of_lem : (d : ℕ) → d ≤ 9 → digit_of (digit d) ≡ d
digit_of_lem d l = digit_is (digit d) (omega arith) (omega arith) ∙ omega arith

module _ (l : List ℕ) (i : ℕ) where
  -- past the end
  pub digit_past : length l ≤ i → digit_at l i ≡ 10
  unfolding digit_at
  digit_past h = rw (get_or-eq_default l 0 h) (digit_low 0 (omega arith))

  -- a digit lies before the end
  pub digit_within : (d : ℕ) → d ≡ digit_at l i → d ≤ 9 → i < length l
  digit_within d e h = ⊎_elim (λ (m : i < length l). m) (λ (m : length l ≤ i). absurd (omega (arith, digit_past m))) (lt_or_le i (length l))

-- ---- a number's digits

module _ (k n : ℕ) where
  last_small : n < 10 → last_digits (suc k) n ≡ digit n ∷ []
  unfolding last_digits
  last_small l = rw (last_digits, lt-ltb n 10 l)

  last_large : 10 ≤ n → last_digits (suc k) n ≡ last_digits k (n / 10) ++ (digit (n % 10) ∷ [])
  unfolding last_digits
  last_large l = rw (last_digits, le-ltb n 10 l)

enough : (k j n : ℕ) → n < k → n < j → last_digits k n ≡ last_digits j n
enough zero j n l m = absurd (omega arith)
enough (suc k) zero n l m = absurd (omega arith)
enough (suc k) (suc j) n l m =
    ⊎_elim (λ (h : n < 10). last_small k n h ∙ sym (last_small j n h))
    (λ (h : 10 ≤ n). last_large k n h ∙ rw (enough k j (n / 10) (omega arith) (omega arith)) (sym (last_large j n h)))
    (lt_or_le n 10)

module _ (n : ℕ) where
  -- one digit
  pub decimal_small : n < 10 → decimal n ≡ digit n ∷ []
  unfolding decimal
  decimal_small l = last_small n n l

  -- the digits before the last, and the last
  pub decimal_large : 10 ≤ n → decimal n ≡ decimal (n / 10) ++ (digit (n % 10) ∷ [])
  unfolding decimal
  decimal_large l = last_large n n l ∙ rw (enough n (suc (n / 10)) (n / 10) (omega arith) (omega arith))

  pub decimal_longer : 10 ≤ n → length (decimal n) ≡ length (decimal (n / 10)) + 1
  decimal_longer l = rw (decimal_large l) (length-append (decimal (n / 10)) (digit (n % 10) ∷ []))

-- what holds of one digit, and of a number if of the digits before its last, holds of all
pub by_digits : (P : ℕ → Type 0) → ((n : ℕ) → n < 10 → P n) → ((n : ℕ) → 10 ≤ n → P (n / 10) → P n) → (n : ℕ) → P n
by_digits P one more n = below (suc n) n (omega arith)
  where
    below : (k n : ℕ) → n < k → P n
    below zero n l = absurd (omega arith)
    below (suc k) n l = ⊎_elim (λ (h : n < 10). one n h) (λ (h : 10 ≤ n). more n h (below k (n / 10) (omega arith))) (lt_or_le n 10)

-- at least one byte
pub decimal_some : (n : ℕ) → 0 < length (decimal n)
decimal_some n = ⊎_elim (λ (h : n < 10). rw (decimal_small n h) (omega arith)) (λ (h : 10 ≤ n). omega (arith, decimal_longer n h)) (lt_or_le n 10)

-- a number below 10^k has at most k digits, for k from 1
pub decimal_most : (k n : ℕ) → n < 10 ^ suc k → length (decimal n) ≤ suc k
decimal_most zero n l = rw (decimal_small n l) (omega arith)
decimal_most (suc k) n l =
    let p : 10 ^ suc (suc k) ≡ 10 ^ suc k * 10 = pow-suc 10 (suc k) in
    ⊎_elim (λ (h : n < 10). rw (decimal_small n h) (omega arith))
    (λ (h : 10 ≤ n). omega (arith, decimal_longer n h, decimal_most k (n / 10) (omega arith)))
    (lt_or_le n 10)

-- of a u32
pub decimal_ten : (n : ℕ) → n < 4294967296 → length (decimal n) ≤ 10
decimal_ten n l = decimal_most 9 n (omega arith)

-- of a u64, and before the last digit
pub decimal_twenty : (n : ℕ) → n < 18446744073709551616 → length (decimal n) ≤ 20
decimal_twenty n l = decimal_most 19 n (omega arith)

pub decimal_nineteen : (n : ℕ) → n < 18446744073709551616 → length (decimal (n / 10)) ≤ 19
decimal_nineteen n l = decimal_most 18 (n / 10) (omega arith)

-- every byte is a digit
abbrev Digits : ℕ → Type 0
Digits n = (i : ℕ) → i < length (decimal n) → digit_at (decimal n) i ≤ 9

digits_small : (n : ℕ) → n < 10 → Digits n
unfolding digit_at
digits_small n h i l =
    let z : i ≡ 0 = omega (arith, ap length (decimal_small n h)) in
    rw (decimal_small n h, z, digit_of_lem n (omega arith)) (omega arith)

digits_large : (n : ℕ) → 10 ≤ n → Digits (n / 10) → Digits n
unfolding digit_at
digits_large n h before i l =
    let front = decimal (n / 10) in
    rw (decimal_large n h)
    (⊎_elim (λ (m : i < length front). rw (get_or-append front (digit (n % 10) ∷ []) 0 i m) (before i m))
    (λ (m : length front ≤ i).
    let q : length front ≡ i = omega (arith, decimal_longer n h) in
    rw (get_or_at front (digit (n % 10)) [] 0 i q, digit_of_lem (n % 10) (omega arith)) (omega arith))
    (lt_or_le i (length front)))

pub decimal_digits : (n i : ℕ) → i < length (decimal n) → digit_at (decimal n) i ≤ 9
decimal_digits = by_digits Digits digits_small digits_large
