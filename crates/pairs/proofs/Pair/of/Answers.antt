-- The check of the table, then of the card, then 16.
use mathlib.Core.Path.{sym, ap₂, ◌∙◌}
use Rattle.pairs.specs.Pair.{checked}
use Rattle.pairs.proofs.Pairing.{differ, fine_pair}
use Rattle.pairs.proofs.Pair.of.Goals as goal

pub returns-then-not-numbers_agree-clause-refused :
    goal.returns-then-not-numbers_agree-clause-refused
returns-then-not-numbers_agree-clause-refused c =
    rw c.at.ensures
    (sym (ap₂ (λ t k. checked t.now k.now) c.in_ok-table.ensures.table c.in_ok-card.ensures.card)
    ∙ sym (differ _ _ c.in_ok-table.table.checked c.in_ok-card.card.checked (sym c.numbers_agree.ensures ∙ c.if-not-numbers_agree.true)))

pub invariant_of-result : goal.invariant_of-result
invariant_of-result c = record {
  checked = sym (fine_pair _ _ c.in_ok-table.table.checked c.in_ok-card.card.checked (sym c.numbers_agree.ensures ∙ c.if-not-numbers_agree.false));
}
