-- The tests are those of the definition, on the numbers that the code has read.
use Rattle.cards.proofs.Checked.{head_told}
use Rattle.cards.proofs.head_fits.Goals as goal

pub returns : goal.returns
returns c = head_told _ _ _ _ _ _ c.of-head.ensures c.heading.ensures c.within.ensures c.within-2.ensures c.within-3.ensures
