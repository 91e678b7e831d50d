-- The limits: the test of a number against one, and bounds on what is made of limited numbers.
-- Assumes nothing.
use mathlib.Core.Path.{◌≡◌}
use mathlib.Core.Bool.{true}
use Prim.Native.Nat.{ℕ, suc, ◌+◌, ◌*◌, ◌^◌, ◌≤◌, ◌<◌}
use native.Mathlib.Nat.{mul-le-mul, mul-le-mul_right, suc-mul}
use native.Mathlib.Omega.{arith}
use lib.Pow.{pow_mono}
use lib.Dec.{leb}
use borrow.Author.Tests.{leb-true, le-leb}
use Rattle.sets.proofs.Logic.{and_intro, and_left, and_right}
use Rattle.games.specs.Format.{within, max_states, max_actions, max_sets, max_moves, low_values, number_values}

module _ (x most : ℕ) where
  pub within_low : within x most ≡ true → 1 ≤ x
  within_low e = leb-true 1 x (and_left (leb 1 x) (leb x most) e)

  pub within_high : within x most ≡ true → x ≤ most
  within_high e = leb-true x most (and_right (leb 1 x) (leb x most) e)

  pub within_limit : 1 ≤ x → x ≤ most → within x most ≡ true
  within_limit l h = and_intro (le-leb 1 x l) (le-leb x most h)

-- a row's slot lies below all rows
pub slot_below : (a A n i : ℕ) → a < A → i < n → a * n + i < A * n
slot_below a A n i p q =
    let h : suc a * n ≤ A * n = mul-le-mul_right n p in
    omega (arith, suc-mul a n)

-- moves
pub moves_below : (a n : ℕ) → a ≤ max_actions → n ≤ max_states → a * n ≤ max_moves
moves_below a n p q = mul-le-mul {n₂ = max_actions} {m₂ = max_states} p q

-- sets
pub sets_below : (n : ℕ) → n ≤ max_states → 2 ^ n ≤ max_sets
sets_below n l = pow_mono l

-- the words of all parts of a card
pub parts_below : (m part : ℕ) → m ≤ low_values → part ≤ number_values → m * part ≤ low_values * number_values
parts_below m part p q = mul-le-mul {n₂ = low_values} {m₂ = number_values} p q
