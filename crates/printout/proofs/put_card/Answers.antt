use native.Mathlib.Omega.{arith}
use mathlib.Core.Path.{refl}
use Rattle.text.proofs.Writing.{puts_then}
use Rattle.printout.specs.Lines.{card_text}
use Rattle.printout.proofs.Texts.{below_none, below_more, below_fits, below_all, card_bytes}
use Rattle.printout.proofs.put_card.Goals as goal

pub put_front-requires : goal.put_front-requires
put_front-requires c = omega (arith, c.requires, card_bytes _ c.args.card.checked)

pub loop-c-init : goal.loop-c-init
loop-c-init c = below_none _ _

pub put_part-requires : goal.put_part-requires
put_part-requires c = (
  omega (arith, c.cells-c-end.ensures, c.loop-c-test.true),
  omega (arith, c.requires, card_bytes _ c.args.card.checked, c.put_front.ensures.1, rw c.cells-c-end.ensures at (below_fits _ _ _ c.loop-c.invariant _ c.loop-c-test.true)),
)

pub loop-c-preserved : goal.loop-c-preserved
loop-c-preserved c = below_more _ _ _ c.loop-c.invariant refl c.put_part.ensures

pub returns : goal.returns
unfolding card_text
returns c =
    let parts = below_all _ _ _ c.loop-c.invariant _ _ c.cells-c-end.ensures c.loop-c.auto.c-end c.loop-c-test.false in
    (puts_then c.put_front.ensures.0 parts.0, omega (arith, parts.1, c.put_front.ensures.1, card_bytes _ c.args.card.checked))
