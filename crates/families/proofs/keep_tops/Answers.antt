-- `families::keep_tops` meets its contract: a lane without a set stays; another is emptied, and then has what neither word has.
use native.Mathlib.Omega.{arith}
use Rattle.families.proofs.Maximal.{topped_some}
use Rattle.families.proofs.keep_tops.Goals as goal

pub returns-then-word-ne0 : goal.returns-then-word-ne0
returns-then-word-ne0 c =
    topped_some c.args.bits.now c.args.lane c.own_or_larger.result c.covered.result c.requires (omega (arith, c.own_or_larger)) (omega (arith, c.covered))
    c.own_or_larger.ensures c.covered.ensures
