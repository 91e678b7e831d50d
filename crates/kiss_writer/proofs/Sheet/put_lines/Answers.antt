use Prim.Native.Nat.{suc}
use native.Mathlib.Omega.{arith}
use Rattle.cards.specs.Card.{card_cells}
use Rattle.kiss_writer.proofs.Rows.{below_none, below_more, below_all}
use Rattle.kiss_writer.proofs.Lines.{cells_few, observations_few}
use Rattle.kiss_writer.proofs.Sheet.put_lines.Goals as goal

pub loop-state-init : goal.loop-state-init
loop-state-init c = below_none _ _

pub loop-state-preserved : goal.loop-state-preserved
loop-state-preserved c =
    let few = observations_few c.args.self.card.words.now c.args.self.card.checked in
    below_more _ _ _ c.loop-state.invariant (c.put_state_lines.ensures.0, omega (arith, c.put_state_lines.ensures.1))

pub returns : goal.returns
returns c =
    let all = below_all _ _ _ c.loop-state.invariant _ (suc (card_cells c.args.self.card.words.now)) (omega (arith, c.cells-state-end.ensures)) (omega (arith, c.loop-state.auto.state-end)) c.loop-state-test.false in
    (all.0, omega (arith, all.1, cells_few c.args.self.card.words.now c.args.self.card.checked))
