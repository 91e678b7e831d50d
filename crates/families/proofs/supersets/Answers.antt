-- `families::supersets` meets its contract.
use mathlib.Core.Path.{ap, ◌∙◌}
use mathlib.Core.Bool.{not, ◌&&◌}
use native.Mathlib.Omega.{arith}
use borrow.Author.Rules.{rules}
use Rattle.sets.specs.Mask.{member}
use Rattle.sets.proofs.Mask.{member_rest}
use Rattle.families.specs.Bits.{lane_sets}
use Rattle.families.proofs.Lanes.{nothing_lacked}
use Rattle.families.proofs.supersets.Goals as goal

pub returns : goal.returns
returns c = λ t l.
    member_rest lane_sets c.united.result t (omega (arith, c.united)) l
    ∙ ap not (c.united.ensures t (λ i. not (member t i) && member c.args.h i) (λ i word b p. search rules))
    ∙ nothing_lacked t c.args.h c.requires
