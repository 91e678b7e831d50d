use Rattle.std.proofs.Common.{ℕ, refl, ap, ◌∙◌, arith}
use Rattle.std.proofs.lemmas.Grind.{common_steps}
use Rattle.cards.specs.Card.{cell_place}
use Rattle.cards.proofs.Checked.{fitting}
use Rattle.cards.proofs.Running.{size_of}
use Rattle.trimmer.proofs.Marking.{taken_all}
use Rattle.trimmer.proofs.Naming.{few_taken, some_waiting, cell_below, nexts_within, next_needs, next_taken}
use Rattle.trimmer.proofs.mark_reached.Goals as goal

pub take_next-cell-requires : goal.take_next-cell-requires
take_next-cell-requires c = some_waiting c.args.card.words.now c.args.card.checked _ _ c.observations-o.ensures c.loop-marks.marks c.loop-marks.invariant.0 c.loop-marks-test.true

pub cell_place-at-requires : goal.cell_place-at-requires
cell_place-at-requires c =
    let F = fitting c.args.card.words.now c.args.card.checked in
    let below = cell_below c.args.card.words.now c.args.card.checked _ _ c.observations-o.ensures c.loop-marks.marks c.loop-marks.invariant.0 c.loop-marks-test.true _ c.take_next-cell.ensures.off _ c.take_next-cell.ensures.next in
    (omega (arith, c.observations-o.ensures, F.observations), omega (arith, below, F.cells, size_of c.args.card.words.now))

pub slice_bounds-mark_named-end : goal.slice_bounds-mark_named-end
slice_bounds-mark_named-end c = nexts_within c.args.card.words.now c.args.card.checked _ _ c.observations-o.ensures c.loop-marks.marks c.loop-marks.invariant.0 c.loop-marks-test.true _ c.take_next-cell.ensures.off _ c.take_next-cell.ensures.next _ (c.cell_place-at.ensures ∙ ap (λ (n : ℕ). cell_place n c.take_next-cell.result.0) c.observations-o.ensures) _ refl

pub mark_named-requires : goal.mark_named-requires
mark_named-requires c = next_needs c.args.card.words.now c.args.card.checked _ _ c.observations-o.ensures c.loop-marks.marks c.loop-marks.invariant.0 c.loop-marks-test.true _ c.take_next-cell.ensures.off _ c.take_next-cell.ensures.next _ (c.cell_place-at.ensures ∙ ap (λ (n : ℕ). cell_place n c.take_next-cell.result.0) c.observations-o.ensures) _ (omega arith)

pub overflow_add-taken : goal.overflow_add-taken
overflow_add-taken c =
    omega (arith, c.loop-marks-test.true, few_taken c.args.card.words.now c.args.card.checked _ _ c.observations-o.ensures c.loop-marks.marks c.loop-marks.invariant.0 c.loop-marks-test.true, (fitting c.args.card.words.now c.args.card.checked).cells, size_of c.args.card.words.now)

pub loop-marks-smaller : goal.loop-marks-smaller
loop-marks-smaller c =
    omega (arith, c.loop-marks-test.true, few_taken c.args.card.words.now c.args.card.checked _ _ c.observations-o.ensures c.loop-marks.marks c.loop-marks.invariant.0 c.loop-marks-test.true, c.firsts-marks.ensures.taking.size, size_of c.args.card.words.now)

pub loop-marks-preserved : goal.loop-marks-preserved
loop-marks-preserved c =
    let taken = next_taken c.args.card.words.now c.args.card.checked _ _ c.observations-o.ensures c.loop-marks.marks c.loop-marks.invariant.0 c.loop-marks-test.true _ c.take_next-cell.ensures.off _ c.take_next-cell.ensures.next _ (c.cell_place-at.ensures ∙ ap (λ (n : ℕ). cell_place n c.take_next-cell.result.0) c.observations-o.ensures) _ (omega arith) _ c.mark_named.ensures in
    (taken.0, taken.1 ∙ c.loop-marks.invariant.1)

pub returns : goal.returns
returns c = taken_all _ _ _ c.loop-marks.marks c.loop-marks.invariant.0 c.loop-marks-test.false _ (grind (arith, common_steps))
