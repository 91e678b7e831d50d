-- `families::Lane::own_or_larger` meets its contract.
use mathlib.Core.Path.{ap, ◌∙◌}
use mathlib.Core.Bool.{Bool, ◌||◌}
use Prim.Native.Nat.{◌^◌}
use lib.ListN.{get_or}
use borrow.Author.Rules.{rules}
use Rattle.sets.specs.Mask.{member, union}
use Rattle.sets.proofs.Mask.{member_or}
use Rattle.families.proofs.Lanes.{with_own}
use Rattle.families.proofs.Lane.own_or_larger.Goals as goal

pub returns : goal.returns
returns c = λ t.
    member_or (get_or c.args.self.bits.now c.args.self.index 0) c.united.result t
    ∙ ap (λ (b : Bool). member (get_or c.args.self.bits.now c.args.self.index 0) t || b)
    (c.united.ensures t (λ i. member (get_or c.args.self.bits.now (union c.args.self.index (2 ^ i)) 0) t) (λ i word b p. search rules))
    ∙ with_own c.args.self.bits.now c.args.self.index t
