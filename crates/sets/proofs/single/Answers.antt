-- `sets::single` meets its contract: 1 shifted by fewer than 32 places does not wrap.
use native.Mathlib.Nat.{mod-eq_of_lt, one-mul}
use lib.Pow.{pow-lt}
use Rattle.sets.proofs.single.Goals as goal

pub returns : goal.returns
returns c = rw one-mul (mod-eq_of_lt (pow-lt c.requires))
