use Rattle.cards.proofs.Checked.{own_stop, nexts_stop, nexts_fit, parts_fit}
use Rattle.std.proofs.Common.{sym, arith}
use Rattle.cards.proofs.shape.Draft.check_parts.Goals as goal

pub returns-then-not-cell_fits : goal.returns-then-not-cell_fits
returns-then-not-cell_fits c =
    rw c.at.ensures
    (sym (own_stop _ c.args.self.shaped _ c.args.self.headed _ _ (omega arith) c.cell_place-at.ensures c.loop-c.invariant _ c.cell_fits.ensures c.if-not-cell_fits.true))

pub returns-then-named-observations : goal.returns-then-named-observations
returns-then-named-observations c =
    rw c.at-then-named-observations.ensures
    (sym (nexts_stop _ c.args.self.shaped _ c.args.self.headed _ _ (omega arith) c.cell_place-at.ensures c.loop-c.invariant _ c.cell_fits.ensures c.if-not-cell_fits.false _ c.right-named.ensures (omega arith)))

pub loop-c-preserved : goal.loop-c-preserved
loop-c-preserved c = nexts_fit _ c.args.self.shaped _ c.args.self.headed _ _ (omega arith) c.cell_place-at.ensures c.loop-c.invariant _ c.cell_fits.ensures c.if-not-cell_fits.false _ c.right-named.ensures (omega arith)

pub returns : goal.returns
returns c = sym (parts_fit _ c.args.self.shaped _ c.args.self.headed _ c.loop-c.invariant (omega arith) (omega arith))
