-- `form::Reader::number_by_digits` meets its contract. The loop's invariant: i digits are read, the number v.
use Rattle.form.proofs.Steps.{InNumber}
use Rattle.form.proofs.Reader.number_by_digits.Given as goal

abbrev pub invariant-loop-i : goal.invariant-loop-i
invariant-loop-i l = InNumber l.self.text.now l.n.base l.range.least l.range.most l.n.width l.self.at l.i l.v l.w
