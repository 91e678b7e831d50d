-- The bits of a number: enough for every number below it, and no fewer are.
-- Assumes nothing.
use mathlib.Core.Path.{◌≡◌, refl, sym, ◌∙◌}
use mathlib.Core.Logic.{◌⊎◌, inl, inr, ⊎_elim}
use mathlib.Core.Bool.{Bool, true, cond, ◌&&◌, ◌||◌}
use Prim.Native.Nat.{ℕ, suc, ◌-◌, ◌^◌, ◌≤◌, ◌<◌}
use native.Mathlib.Omega.{arith}
use lib.Dec.{eqb, ltb, leb}
use borrow.Author.Tests.{eqb-true, ltb-true, leb-true, le-leb, lt-leb}
use Rattle.sets.specs.Bounded.{all, count}
use Rattle.sets.proofs.Logic.{and_left, and_right, or_cases}
use Rattle.sets.proofs.Bounded.{all_at}
use Rattle.games.specs.Format.{max_actions}
use Rattle.kiss.specs.Text.{bits}

-- the rule, tried for every number up to the limit
rule : ℕ → Bool
rule n = leb n (2 ^ bits n) && (eqb (bits n) 1 || ltb (2 ^ (bits n - 1)) n) && leb (bits n) 3 && eqb (bits n) (cond (leb n 2) 1 (cond (leb n 4) 2 3))

holds : all (suc max_actions) rule ≡ true
unfolding all rule bits count
holds = refl

module _ (n : ℕ) (l : n ≤ max_actions) where
  ruled : rule n ≡ true
  ruled = all_at (suc max_actions) rule holds n (omega arith)

  three : (leb n (2 ^ bits n) && (eqb (bits n) 1 || ltb (2 ^ (bits n - 1)) n) && leb (bits n) 3) ≡ true
  unfolding rule
  three = and_left _ (eqb (bits n) (cond (leb n 2) 1 (cond (leb n 4) 2 3))) ruled

  -- as the code has it
  pub bits_cases : bits n ≡ cond (leb n 2) 1 (cond (leb n 4) 2 3)
  unfolding rule
  bits_cases =
      eqb-true (bits n) (cond (leb n 2) 1 (cond (leb n 4) 2 3))
      (and_right (leb n (2 ^ bits n) && (eqb (bits n) 1 || ltb (2 ^ (bits n - 1)) n) && leb (bits n) 3) (eqb (bits n) (cond (leb n 2) 1 (cond (leb n 4) 2 3))) ruled)

  pub bits_few : bits n ≤ 3
  bits_few = leb-true (bits n) 3 (and_right (leb n (2 ^ bits n) && (eqb (bits n) 1 || ltb (2 ^ (bits n - 1)) n)) (leb (bits n) 3) three)

  two : (leb n (2 ^ bits n) && (eqb (bits n) 1 || ltb (2 ^ (bits n - 1)) n)) ≡ true
  two = and_left (leb n (2 ^ bits n) && (eqb (bits n) 1 || ltb (2 ^ (bits n - 1)) n)) (leb (bits n) 3) three

  -- every number below n fits
  pub bits_enough : n ≤ 2 ^ bits n
  bits_enough = leb-true n (2 ^ bits n) (and_left (leb n (2 ^ bits n)) (eqb (bits n) 1 || ltb (2 ^ (bits n - 1)) n) two)

  -- one bit, or with one bit less n - 1 does not fit
  pub bits_fewest : (bits n ≡ 1) ⊎ (2 ^ (bits n - 1) < n)
  bits_fewest =
      ⊎_elim (λ e. inl (eqb-true (bits n) 1 e)) (λ e. inr (ltb-true (2 ^ (bits n - 1)) n e))
      (or_cases (eqb (bits n) 1) (ltb (2 ^ (bits n - 1)) n) (and_right (leb n (2 ^ bits n)) (eqb (bits n) 1 || ltb (2 ^ (bits n - 1)) n) two))

pub bits_some : (n : ℕ) → 0 < bits n
unfolding bits
bits_some n = omega arith

-- each way of the code
pub bits_one : (n : ℕ) → n ≤ max_actions → n ≤ 2 → 1 ≡ bits n
bits_one n l a = sym (bits_cases n l ∙ rw (le-leb n 2 a))

pub bits_two : (n : ℕ) → n ≤ max_actions → 2 < n → n ≤ 4 → 2 ≡ bits n
bits_two n l a b = sym (bits_cases n l ∙ rw (lt-leb n 2 a, le-leb n 4 b))

pub bits_three : (n : ℕ) → n ≤ max_actions → 2 < n → 4 < n → 3 ≡ bits n
bits_three n l a b = sym (bits_cases n l ∙ rw (lt-leb n 2 a, lt-leb n 4 b))
