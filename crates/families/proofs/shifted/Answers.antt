-- `families::shifted` meets its contract: the set t stands where t with the state i stood.
use mathlib.Core.Path.{◌≡◌}
use Prim.Native.Nat.{◌*◌, ◌%◌, ◌^◌}
use native.Mathlib.Omega.{arith}
use lib.Pow.{pow-lt}
use Rattle.families.proofs.Lanes.{shift_one, shifted_word}
use Rattle.families.proofs.shifted.Goals as goal

pub overflow_shr-result : goal.overflow_shr-result
overflow_shr-result c =
    let step_is : 1 * 2 ^ c.args.i % 2 ^ 32 ≡ 2 ^ c.args.i = shift_one 32 c.args.i (omega arith) in
    omega (arith, step_is, pow-lt c.requires)

pub returns : goal.returns
returns c =
    let step_is : 1 * 2 ^ c.args.i % 2 ^ 32 ≡ 2 ^ c.args.i = shift_one 32 c.args.i (omega arith) in
    shifted_word c.args.word c.args.i (1 * 2 ^ c.args.i % 2 ^ 32) c.lacking.result step_is c.lacking.ensures
