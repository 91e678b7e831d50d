-- `families::lacking` meets its contract: the table's rule is a test at each of its entries, which antt computes.
use mathlib.Core.Path.{refl}
use mathlib.Core.Bool.{not}
use mathlib.Core.List.{List, [], ◌∷◌}
use Prim.Native.Nat.{ℕ}
use Rattle.sets.specs.Bounded.{all}
use Rattle.sets.specs.Mask.{member}
use Rattle.families.specs.Bits.{lane_sets}
use Rattle.families.proofs.Table.{every, right, entries}
use Rattle.families.proofs.lacking.Goals as goal

table : List ℕ
table = 6148914691236517205 ∷ 3689348814741910323 ∷ 1085102592571150095 ∷ 71777214294589695 ∷ 281470681808895 ∷ 4294967295 ∷ []

pub returns : goal.returns
unfolding table every right all
returns c = entries lane_sets (λ i t. not (member t i)) table refl c.args.i c.requires
