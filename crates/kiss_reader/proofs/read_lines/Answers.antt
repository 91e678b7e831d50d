use Rattle.std.proofs.Common.{◌≡◌, ◌+◌, ◌*◌, ◌-◌, ◌<◌, false, sym, ◌∙◌, arith}
use Rattle.std.proofs.lemmas.Result.{err_from_is_err_and}
use Rattle.form.specs.Form.{byte_at}
use Rattle.kiss.specs.Profile.{blank, with_line}
use Rattle.kiss_reader.specs.Reading.{comes}
use Rattle.kiss_reader.proofs.Lines.{in_lines_none, in_lines_long, in_lines_more, in_lines_stop, in_lines_end}
use Rattle.kiss_reader.proofs.read_lines.Goals as goal
use Rattle.kiss_reader.proofs.read_lines.Goals.{else-loop-line-test, then-loop-line-test+then-not-line_comes}

pub loop-line-init : goal.loop-line-init
loop-line-init c = (blank c.args.z.cells, in_lines_none _ _ _ _ c.requires (omega arith))

pub read_line-requires : goal.read_line-requires
read_line-requires c = c.loop-line.invariant.1.state

pub returns-in_err-line : goal.returns-in_err-line
returns-in_err-line c =
    let more : 0 < (c.args.z.cells + 1) * c.args.z.observations - c.loop-line._line = omega (arith, c.loop-line-test.true) in
    let p = err_from_is_err_and c.from_residual.result c.from_residual.ensures.1 in
    rw (p.1, p.2)
    (in_lines_stop _ _ _ _ _ c.loop-line.invariant.0 _ c.loop-line.invariant.1 more (sym c.line_comes.ensures ∙ c.if-not-line_comes.false) _ _ c.in_err-line.ensures)

pub store-requires : goal.store-requires
store-requires c = (c.in_ok-line.ensures.bounded, in_lines_long _ _ _ _ _ c.loop-line.invariant.0 _ c.loop-line.invariant.1)

pub loop-line-preserved : goal.loop-line-preserved
loop-line-preserved c =
    let more : 0 < (c.args.z.cells + 1) * c.args.z.observations - c.loop-line._line = omega (arith, c.loop-line-test.true) in (
      with_line c.loop-line.invariant.0 c.in_ok-line.line.slot.state c.in_ok-line.line.slot.observation c.in_ok-line.line.entered.cell.0 c.in_ok-line.line.entered.action.0,
      in_lines_more _ _ _ _ _ c.loop-line.invariant.0 _ c.loop-line.invariant.1 more (sym c.line_comes.ensures ∙ c.if-not-line_comes.false) _ _ c.in_ok-line.ensures _ c.store.ensures _ (omega arith),
    )

pub returns : goal.returns
returns c =
    let none : 0 < (c.args.z.cells + 1) * c.args.z.observations - c.loop-line._line → comes (byte_at c.loop-line.r.text.now c.loop-line.r.at) c.args.z.cells c.args.z.observations c.loop-line.free.state c.loop-line.free.observation 1 ≡ false =
    elim c.loop-line-test.branch [
      | else-loop-line-test w ↦ λ l. absurd (omega (arith, l, w.loop-line-test.false))
      | then-loop-line-test+then-not-line_comes w ↦ λ _. sym w.line_comes.ensures ∙ w.if-not-line_comes.true
    ] in
    in_lines_end _ _ _ _ _ c.loop-line.invariant.0 _ c.loop-line.invariant.1 _ none c.read_end.ensures
