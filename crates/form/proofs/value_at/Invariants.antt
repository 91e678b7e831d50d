-- `form::value_at` meets its contract. The loop's invariant: as many digits are read, the number v.
use Rattle.form.proofs.Values.{Begun}
use Rattle.form.proofs.value_at.Given as goal

abbrev pub invariant-loop-b : goal.invariant-loop-b
invariant-loop-b l = Begun l.text l.at l.n.base l.n.width l.b-index l.v
