use Prim.Native.Nat.{suc}
use native.Mathlib.Omega.{arith}
use Rattle.cards.specs.Card.{card_cells}
use Rattle.kiss_writer.proofs.Rows.{counted_one, counted_more, counted_fits, counted_all}
use Rattle.kiss_writer.proofs.Lines.{narrow, cells_few, cell_line_lem}
use Rattle.kiss_writer.proofs.Sheet.lines_length.Goals as goal

pub overflow_add-line : goal.overflow_add-line
overflow_add-line c =
    let n = narrow _ c.args.self.card.checked _ c.args.self.wide in
    omega (arith, n.inputs, n.outputs)

pub loop-state-init : goal.loop-state-init
loop-state-init c = counted_one _ _ _ c.state_length-bytes.ensures.0 c.state_length-bytes.ensures.1

pub state_length-bytes-requires-in-loop-state : goal.state_length-bytes-requires-in-loop-state
state_length-bytes-requires-in-loop-state c = (
  omega (arith, c.cells-state-end.ensures, c.loop-state-test.true),
  cell_line_lem _ _ c.args.self.wide _ c.loop-state.auto.state,
)

pub overflow_add-bytes : goal.overflow_add-bytes
overflow_add-bytes c =
    omega (
      arith,
      c.state_length-bytes-in-loop-state.ensures.1,
      c.cells-state-end.ensures,
      cells_few _ c.args.self.card.checked,
      counted_fits _ _ _ _ c.loop-state.invariant _ c.loop-state-test.true,
    )

pub loop-state-preserved : goal.loop-state-preserved
loop-state-preserved c = counted_more _ _ _ _ c.loop-state.invariant _ c.state_length-bytes-in-loop-state.ensures.0 c.state_length-bytes-in-loop-state.ensures.1

pub returns : goal.returns
returns c =
    let all = counted_all _ _ _ _ c.loop-state.invariant _ (suc (card_cells c.args.self.card.words.now)) (omega (arith, c.cells-state-end.ensures)) (omega (arith, c.loop-state.auto.state-end)) c.loop-state-test.false in
    (all.0, omega (arith, all.1, cells_few c.args.self.card.words.now c.args.self.card.checked))
