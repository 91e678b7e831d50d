-- `MoveWords::departs` meets its contract: by the parked states, then by the actions.
use mathlib.Core.Path.{sym, ◌∙◌}
use borrow.Author.Rules.{rules}
use Rattle.tables.specs.Check.{goes_on}
use Rattle.tables.proofs.Checks.{not_parked, departs_by}
use Rattle.tables.proofs.MoveWords.departs.Goals as goal

pub returns-then-member : goal.returns-then-member
returns-then-member c =
    let m = c.args.self in
    c.any.ensures (goes_on m.words.now 0 m.sizes.shape c.args.i.0) (λ a r l p. search rules)
    ∙ sym (departs_by m.words.now 0 m.sizes.shape m.parked c.args.i.0 (sym c.member.ensures ∙ c.if-member.true))

pub returns-else-member : goal.returns-else-member
returns-else-member c = c.if-member.false ∙ sym (not_parked _ _ _ _ _ (sym c.member.ensures ∙ c.if-member.false))
