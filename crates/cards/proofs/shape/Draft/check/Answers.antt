-- The first words, then the cells' parts.
use Rattle.std.proofs.Common.{sym, arith}
use Rattle.cards.proofs.Checked.{firsts_stop, firsts_fit}
use Rattle.cards.proofs.Passing.{pass_none}
use Rattle.cards.proofs.shape.Draft.check.Goals as goal

pub right_from-named-requires : goal.right_from-named-requires
right_from-named-requires c = pass_none _ _

pub returns-then-named-self : goal.returns-then-named-self
returns-then-named-self c =
    rw c.at.ensures
    (sym (firsts_stop _ c.args.self.shaped _ c.right_from-named.ensures (omega arith)))

pub check_parts-requires : goal.check_parts-requires
check_parts-requires c = firsts_fit _ c.args.self.shaped _ c.right_from-named.ensures (omega arith)
