-- `tables::is_unseen` meets its contract.
use borrow.Author.Rules.{rules}
use Rattle.tables.proofs.Checks.{unseen_is}
use Rattle.tables.proofs.is_unseen.Goals as goal

pub returns : goal.returns
returns c = unseen_is c.args.shown.now c.args.i.0 c.any.result (search rules)
