-- `fields::unused_zero` meets its contract.
use mathlib.Core.Path.{◌≡◌}
use borrow.Author.Rules.{rules}
use borrow.Author.Tests.{tests}
use Rattle.std.proofs.lemmas.Iterator.{YieldsList-from_slice, cases_from_all}
use Rattle.std.proofs.lemmas.Iterator.Adapters.{YieldsList-from_skip}
use Rattle.fields.proofs.Laws.{unused_is}
use Rattle.fields.proofs.unused_zero.Goals as goal

pub returns : goal.returns
returns c =
    unused_is c.args.used c.args.slots.now c.all.result
    (cases_from_all _ _ _ (λ x. x ≡ 0) (λ x. x ≡ 0 → ⊥) c.all.ensures.ran
    (YieldsList-from_skip c.args.used (YieldsList-from_slice c.args.slots.now cc) cc)
    (λ x q k. search (rules, tests))
    (λ x q k. search (rules, tests)))
