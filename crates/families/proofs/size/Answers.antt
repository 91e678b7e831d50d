-- `families::size` meets its contract: a word has as many sets as bits that are set.
use mathlib.Core.Path.{◌≡◌, ◌∙◌}
use borrow.Author.Rules.{rules}
use native.Mathlib.Omega.{arith}
use lib.Count.{ones}
use Rattle.std.specs.Prelude.{map, sum}
use Rattle.families.proofs.Words.{ones_sets}
use Rattle.families.proofs.size.Goals as goal

pub returns : goal.returns
returns c =
    let counted : c.sum.result ≡ sum (map ones c.args.bits.now) = search rules in
    counted ∙ ones_sets c.args.bits.now (λ i. omega (arith, c.type_inv.bits i))
