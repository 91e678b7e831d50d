-- `kiss_reader::read_line` meets its contract.
use Rattle.std.proofs.Common.{◌-◌, ◌<◌, ℕ, refl, sym, ap, ◌∙◌, arith}
use Rattle.std.proofs.lemmas.Result.{err_from_is_err_and}
use Rattle.kiss_reader.specs.Reading.{slot, entry}
use Rattle.kiss_reader.proofs.Parts.{given}
use Rattle.kiss_reader.proofs.Lines.{line_parts, range_least_is, range_most_is, range_below}
use Rattle.kiss_reader.proofs.read_line.Goals as goal

pub number-requires-3 : goal.number-requires-3
number-requires-3 c =
    omega (arith, range_below c.args.machine.sizes c.args.machine.words.now c.in_ok-cell.cell _ (omega (arith, c.in_ok-cell.ensures.bounded, c.args.machine.sizes.sized.some_cell)) c.outputs.ensures c.args.machine.held, c.args.machine.sizes.sized.output_enough)

pub returns-in_err-expect-3 : goal.returns-in_err-expect-3
unfolding slot entry
returns-in_err-expect-3 c =
    let p = err_from_is_err_and c.from_residual-in_err-expect-3.result c.from_residual-in_err-expect-3.ensures.1 in
    rw (p.1, p.2) (record { same = c.in_err-expect-3.ensures.same ∙ c.in_ok-cell.ensures.same ∙ c.in_ok-expect-2.ensures.same ∙ c.in_ok-state.ensures.same ∙ c.in_ok-expect.ensures.same ∙ c.in_ok-observation.ensures.same; bounded = tt; goes = λ B s next. line_parts _ _ _ _ _ s _ ∙ given _ _ _ _ _ _ _ _ _ c.in_ok-observation.ensures c.args.machine.sizes.sized.input_base c.args.machine.sizes.sized.input (c.of-inputs.ensures.0 ∙ c.least_input.ensures) c.of-inputs.ensures.1 _ ∙ c.in_ok-expect.ensures.goes _ ∙ (rw (c.least_state.ensures) at c.in_ok-state.ensures.goes) _ ∙ c.in_ok-expect-2.ensures.goes _ ∙ given _ _ _ _ _ _ _ _ _ c.in_ok-cell.ensures refl refl c.of.ensures.0 (c.of.ensures.1 ∙ ap (λ (m : ℕ). m - 1) (sym s.size)) _ ∙ c.in_err-expect-3.ensures.goes _ })

pub returns-in_err-output : goal.returns-in_err-output
unfolding slot entry
returns-in_err-output c =
    let p = err_from_is_err_and c.from_residual-in_err-output.result c.from_residual-in_err-output.ensures.1 in
    let inside : c.in_ok-cell.cell < c.args.machine.sizes.cells = omega (arith, c.in_ok-cell.ensures.bounded, c.args.machine.sizes.sized.some_cell) in
    rw (p.1, p.2) (record { same = c.in_err-output.ensures.same ∙ c.in_ok-expect-3.ensures.same ∙ c.in_ok-cell.ensures.same ∙ c.in_ok-expect-2.ensures.same ∙ c.in_ok-state.ensures.same ∙ c.in_ok-expect.ensures.same ∙ c.in_ok-observation.ensures.same; bounded = tt; goes = λ B s next. line_parts _ _ _ _ _ s _ ∙ given _ _ _ _ _ _ _ _ _ c.in_ok-observation.ensures c.args.machine.sizes.sized.input_base c.args.machine.sizes.sized.input (c.of-inputs.ensures.0 ∙ c.least_input.ensures) c.of-inputs.ensures.1 _ ∙ c.in_ok-expect.ensures.goes _ ∙ (rw (c.least_state.ensures) at c.in_ok-state.ensures.goes) _ ∙ c.in_ok-expect-2.ensures.goes _ ∙ given _ _ _ _ _ _ _ _ _ c.in_ok-cell.ensures refl refl c.of.ensures.0 (c.of.ensures.1 ∙ ap (λ (m : ℕ). m - 1) (sym s.size)) _ ∙ c.in_ok-expect-3.ensures.goes _ ∙ given _ _ _ _ _ _ _ _ _ c.in_err-output.ensures c.args.machine.sizes.sized.output_base c.args.machine.sizes.sized.output (range_least_is _ _ _ _ inside c.outputs.ensures B s) (range_most_is _ _ _ _ inside c.outputs.ensures B s) _ })

pub returns-in_err-expect-4 : goal.returns-in_err-expect-4
unfolding slot entry
returns-in_err-expect-4 c =
    let p = err_from_is_err_and c.from_residual-in_err-expect-4.result c.from_residual-in_err-expect-4.ensures.1 in
    let inside : c.in_ok-cell.cell < c.args.machine.sizes.cells = omega (arith, c.in_ok-cell.ensures.bounded, c.args.machine.sizes.sized.some_cell) in
    rw (p.1, p.2) (record { same = c.in_err-expect-4.ensures.same ∙ c.in_ok-output.ensures.same ∙ c.in_ok-expect-3.ensures.same ∙ c.in_ok-cell.ensures.same ∙ c.in_ok-expect-2.ensures.same ∙ c.in_ok-state.ensures.same ∙ c.in_ok-expect.ensures.same ∙ c.in_ok-observation.ensures.same; bounded = tt; goes = λ B s next. line_parts _ _ _ _ _ s _ ∙ given _ _ _ _ _ _ _ _ _ c.in_ok-observation.ensures c.args.machine.sizes.sized.input_base c.args.machine.sizes.sized.input (c.of-inputs.ensures.0 ∙ c.least_input.ensures) c.of-inputs.ensures.1 _ ∙ c.in_ok-expect.ensures.goes _ ∙ (rw (c.least_state.ensures) at c.in_ok-state.ensures.goes) _ ∙ c.in_ok-expect-2.ensures.goes _ ∙ given _ _ _ _ _ _ _ _ _ c.in_ok-cell.ensures refl refl c.of.ensures.0 (c.of.ensures.1 ∙ ap (λ (m : ℕ). m - 1) (sym s.size)) _ ∙ c.in_ok-expect-3.ensures.goes _ ∙ given _ _ _ _ _ _ _ _ _ c.in_ok-output.ensures c.args.machine.sizes.sized.output_base c.args.machine.sizes.sized.output (range_least_is _ _ _ _ inside c.outputs.ensures B s) (range_most_is _ _ _ _ inside c.outputs.ensures B s) _ ∙ c.in_err-expect-4.ensures.goes _ })

pub returns : goal.returns
unfolding slot entry
returns c =
    let inside : c.in_ok-cell.cell < c.args.machine.sizes.cells = omega (arith, c.in_ok-cell.ensures.bounded, c.args.machine.sizes.sized.some_cell) in
    record { same = c.in_ok-expect-4.ensures.same ∙ c.in_ok-output.ensures.same ∙ c.in_ok-expect-3.ensures.same ∙ c.in_ok-cell.ensures.same ∙ c.in_ok-expect-2.ensures.same ∙ c.in_ok-state.ensures.same ∙ c.in_ok-expect.ensures.same ∙ c.in_ok-observation.ensures.same; bounded = record { slot = record { state = c.in_ok-state.ensures.bounded; observation = omega (arith, c.in_ok-observation.ensures.bounded, c.args.machine.sizes.sized.some_observation) }; entry = record { cell = inside; output = omega (arith, c.in_ok-output.ensures.bounded, range_below c.args.machine.sizes c.args.machine.words.now c.in_ok-cell.cell _ inside c.outputs.ensures c.args.machine.held) } }; goes = λ B s next. line_parts _ _ _ _ _ s _ ∙ given _ _ _ _ _ _ _ _ _ c.in_ok-observation.ensures c.args.machine.sizes.sized.input_base c.args.machine.sizes.sized.input (c.of-inputs.ensures.0 ∙ c.least_input.ensures) c.of-inputs.ensures.1 _ ∙ c.in_ok-expect.ensures.goes _ ∙ (rw (c.least_state.ensures) at c.in_ok-state.ensures.goes) _ ∙ c.in_ok-expect-2.ensures.goes _ ∙ given _ _ _ _ _ _ _ _ _ c.in_ok-cell.ensures refl refl c.of.ensures.0 (c.of.ensures.1 ∙ ap (λ (m : ℕ). m - 1) (sym s.size)) _ ∙ c.in_ok-expect-3.ensures.goes _ ∙ given _ _ _ _ _ _ _ _ _ c.in_ok-output.ensures c.args.machine.sizes.sized.output_base c.args.machine.sizes.sized.output (range_least_is _ _ _ _ inside c.outputs.ensures B s) (range_most_is _ _ _ _ inside c.outputs.ensures B s) _ ∙ c.in_ok-expect-4.ensures.goes _ }
