-- `text::read_decimal` meets its contract: before each turn v was read up to place i, and may go on there.
use mathlib.Core.Path.{◌≡◌}
use Prim.Native.Nat.{◌≤◌}
use lib.ListN.{drop}
use Rattle.text.specs.Read.{further_digits, read_decimal}
use Rattle.text.proofs.read_decimal.Given as goal

abbrev pub invariant-loop-i : goal.invariant-loop-i
invariant-loop-i l = (l.v ≤ l.most) × (read_decimal l.most l.text l.at ≡ further_digits l.most l.v l.i (drop l.i l.text))
