-- `lists::foreign` meets its contract.
use borrow.Author.Rules.{rules}
use Rattle.lists.proofs.Outcomes.{foreign_is}
use Rattle.lists.proofs.foreign.Goals as goal

pub returns : goal.returns
returns c = λ n e. foreign_is n c.args.list.now c.args.end e c.position.result (search rules)
