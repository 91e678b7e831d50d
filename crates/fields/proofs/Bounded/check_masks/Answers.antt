use mathlib.Core.Path.{◌≡◌, sym}
use native.Mathlib.Omega.{arith}
use Rattle.sets.proofs.Bounded.{first_skip}
use Rattle.fields.specs.Write.{words_length, wide_at}
use Rattle.fields.proofs.Laws.{masks_none, wide_at_lem, narrow_at, masks_wide, masks_fine}
use Rattle.fields.proofs.Bounded.check_masks.Goals as goal

pub loop-p-init : goal.loop-p-init
loop-p-init c =
    masks_none c.args.self.fields

pub returns-then-full-mask_at : goal.returns-then-full-mask_at
returns-then-full-mask_at c =
    rw c.at.ensures
    (let long : c.words-p-end.result ≡ words_length c.args.self.fields = c.words-p-end.ensures in
    sym (masks_wide c.args.self.fields c.loop-p.p (omega arith) c.loop-p.invariant (wide_at_lem c.args.self.fields c.loop-p.p (omega arith) (omega arith))))

pub loop-p-preserved : goal.loop-p-preserved
loop-p-preserved c = first_skip c.loop-p.p (wide_at c.args.self.fields) c.loop-p.invariant (narrow_at c.args.self.fields c.loop-p.p (omega arith))

pub returns : goal.returns
returns c =
    let e : c.loop-p.p ≡ words_length c.args.self.fields = omega arith in
    sym (masks_fine c.args.self.fields (rw e at c.loop-p.invariant))
