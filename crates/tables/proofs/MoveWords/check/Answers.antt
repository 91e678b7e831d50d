use mathlib.Core.Path.{◌≡◌, sym, ◌∙◌}
use native.Mathlib.Omega.{arith}
use borrow.Author.Rules.{rules}
use Rattle.sets.proofs.Bounded.{first_zero, first_skip}
use Rattle.tables.specs.Check.{departs_from}
use Rattle.tables.proofs.Checks.{parked_departs, parked_fine}
use Rattle.tables.proofs.MoveWords.check.Goals as goal

pub loop-i-init : goal.loop-i-init
loop-i-init c = first_zero _

pub returns-then-departs : goal.returns-then-departs
returns-then-departs c =
    rw c.at.ensures
    (sym (parked_departs c.args.self.words.now 0 c.args.self.sizes.shape c.args.self.parked c.loop-i.i (search rules) c.loop-i.invariant (sym c.departs.ensures ∙ c.if-departs.true)))

pub loop-i-preserved : goal.loop-i-preserved
loop-i-preserved c = first_skip c.loop-i.i (departs_from c.args.self.words.now 0 c.args.self.sizes.shape c.args.self.parked) c.loop-i.invariant (sym c.departs.ensures ∙ c.if-departs.false)

pub returns : goal.returns
returns c =
    let e : c.loop-i.i ≡ c.args.self.sizes.shape.states = omega arith in
    sym (parked_fine c.args.self.words.now 0 c.args.self.sizes.shape c.args.self.parked (rw e at c.loop-i.invariant))
