-- `families::sized` meets its contract: the table's rule is a test at each of its entries, which antt computes.
use mathlib.Core.Path.{refl}
use mathlib.Core.List.{List, [], ◌∷◌}
use Prim.Native.Nat.{ℕ}
use native.Mathlib.Omega.{arith}
use lib.Dec.{eqb}
use Rattle.sets.specs.Bounded.{all, count}
use Rattle.sets.specs.Mask.{member}
use Rattle.families.specs.Bits.{lane_states, lane_sets}
use Rattle.families.proofs.Table.{every, right, entries}
use Rattle.families.proofs.sized.Goals as goal

table : List ℕ
table = 1 ∷ 4295033110 ∷ 282668995843688 ∷ 78274679833913472 ∷ 1614655367130677248 ∷ 7530159316599308288 ∷ 9223372036854775808 ∷ []

pub returns : goal.returns
unfolding table every right all count
returns c = entries lane_sets (λ j t. eqb (count lane_states (member t)) j) table refl c.args.j (omega (arith, c.requires))
