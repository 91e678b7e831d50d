-- A digit more, behind fewer than eight.
-- Assumes nothing.
use Rattle.std.proofs.Common.{ℕ, ◌+◌, ◌*◌, ◌^◌, ◌<◌, ◌≤◌, arith}
use Rattle.std.proofs.Math.Nat.{mul-le-mul_left, pow-le-pow_right}
use Rattle.std.proofs.lemmas.Grind.{pow_more}

pub more_fits : (radix i v d : ℕ) → radix ≤ 16 → v < 16 ^ i → d < 16 → v * radix + d < 16 ^ (i + 1)
more_fits radix i v d r b e =
    let m : v * radix ≤ v * 16 = mul-le-mul_left v r in
    omega (arith, pow_more 16 i)

pub word_fits : (radix i v : ℕ) → radix ≤ 16 → i < 8 → v < 16 ^ i → v * radix + 15 < 2 ^ 32
word_fits radix i v r l b =
    let p : 16 ^ (i + 1) ≤ 16 ^ 8 = pow-le-pow_right {n = 16} (omega arith) {i = i + 1} {j = 8} (omega arith) in
    let m : v * radix + 15 < 16 ^ (i + 1) = more_fits radix i v 15 r b (omega arith) in
    omega arith
