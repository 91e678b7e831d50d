-- `families::below` meets its contract: cleared, filled with the list's sets, and closed under subsets.
use mathlib.Core.Path.{◌∙◌}
use Rattle.families.proofs.Closing.{below_bits}
use Rattle.families.proofs.below.Goals as goal

pub returns : goal.returns
returns c =
    below_bits c.args.n c.args.list.now c.args.bits.now c.insert.new.bits c.close.new.bits c.requires
    (c.insert.ensures.0 ∙ c.fill.ensures.len) c.insert.ensures.1 c.close.ensures.each c.close.ensures.size
