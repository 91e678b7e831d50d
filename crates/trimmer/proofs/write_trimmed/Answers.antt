use Rattle.std.proofs.Common.{ℕ, ap, ◌∙◌, ◌+◌, ◌-◌, sym, refl, arith}
use lib.Seq.{length-take-le}
use Rattle.cards.specs.Card.{cell_place}
use Rattle.cards.proofs.Checked.{fitting}
use Rattle.cards.proofs.Running.{size_of}
use Rattle.trimmer.proofs.Writing.{kept_fit, kept_inside, front_fits, front_inside, front_needs, fronted, all_written, from_inside, part_inside, part_needs, part_written}
use Rattle.trimmer.proofs.write_trimmed.Goals as goal

pub heading-head-requires : goal.heading-head-requires
heading-head-requires c =
    let F = fitting c.args.card.words.now c.args.card.checked in (
      omega (arith, kept_fit c.args.card.words.now c.args.card.checked c.args.work.now c.requires.0 _ _ c.observations-o.ensures c.requires.1, F.cells, size_of c.args.card.words.now),
      omega (arith, c.observations-o.ensures, F.observations),
      omega (arith, c.actions.ensures, F.actions),
    )

pub slice_bounds-write_row-end : goal.slice_bounds-write_row-end
slice_bounds-write_row-end c = front_inside c.args.card.words.now c.args.card.checked c.args.work.now c.requires.0 _ _ c.observations-o.ensures c.requires.1 _ c.requires.2 _ c.front_length-front.ensures

pub slice_bounds-write_row-end-2 : goal.slice_bounds-write_row-end-2
slice_bounds-write_row-end-2 c = front_fits c.args.card.words.now c.args.card.checked c.args.work.now c.requires.0 _ _ c.observations-o.ensures c.requires.1 _ c.requires.2 _ c.front_length-front.ensures

pub slice_bounds-write_row-end-3 : goal.slice_bounds-write_row-end-3
slice_bounds-write_row-end-3 c =
    sym (length-take-le _ _ (front_fits c.args.card.words.now c.args.card.checked c.args.work.now c.requires.0 _ _ c.observations-o.ensures c.requires.1 _ c.requires.2 _ c.front_length-front.ensures))

pub write_row-requires : goal.write_row-requires
write_row-requires c =
    front_needs c.args.card.words.now c.args.card.checked c.args.work.now c.requires.0 _ _ c.observations-o.ensures c.requires.1 _ c.requires.2 _ c.front_length-front.ensures
    _ (omega (arith, c.front_length-front.ensures))

pub loop-i-init : goal.loop-i-init
loop-i-init c =
    fronted c.args.card.words.now c.args.card.checked c.args.work.now c.requires.0 _ _ c.observations-o.ensures c.requires.1 _ c.requires.2 _ c.front_length-front.ensures
    _ (c.front_length-front.result - 1) _ _ (omega (arith, c.front_length-front.ensures)) c.actions.ensures c.heading-head.ensures c.write_row.ensures

pub upper-requires : goal.upper-requires
upper-requires c =
    omega (arith, c.loop-i-test.true, c.requires.0.size, size_of c.args.card.words.now, kept_fit c.args.card.words.now c.args.card.checked c.args.work.now c.requires.0 _ _ c.observations-o.ensures c.requires.1)

pub cell_place-from-requires : goal.cell_place-from-requires
cell_place-from-requires c =
    let F = fitting c.args.card.words.now c.args.card.checked in
    let inside = kept_inside c.args.card.words.now c.args.card.checked c.args.work.now c.requires.0 _ _ c.observations-o.ensures c.requires.1 _ _ c.loop-i-test.true c.upper.ensures.half in
    (omega (arith, c.observations-o.ensures, F.observations), omega (arith, inside, F.cells, size_of c.args.card.words.now))

pub bounds-words-from : goal.bounds-words-from
bounds-words-from c =
    from_inside c.args.card.words.now c.args.card.checked c.args.work.now c.requires.0 _ _ c.observations-o.ensures c.requires.1 _ _ c.loop-i-test.true c.upper.ensures.half
    _ (c.cell_place-from.ensures ∙ ap (λ (n : ℕ). cell_place n c.upper.result) c.observations-o.ensures)

pub cell_place-at-requires : goal.cell_place-at-requires
cell_place-at-requires c =
    let F = fitting c.args.card.words.now c.args.card.checked in (
      omega (arith, c.observations-o.ensures, F.observations),
      omega (arith, c.loop-i-test.true, kept_fit c.args.card.words.now c.args.card.checked c.args.work.now c.requires.0 _ _ c.observations-o.ensures c.requires.1, F.cells, size_of c.args.card.words.now),
    )

pub slice_bounds-names-end : goal.slice_bounds-names-end
slice_bounds-names-end c =
    part_inside c.args.card.words.now c.args.card.checked c.args.work.now c.requires.0 _ _ c.observations-o.ensures c.requires.1 _ _ c.loop-i-test.true c.upper.ensures.half
    _ (c.cell_place-from.ensures ∙ ap (λ (n : ℕ). cell_place n c.upper.result) c.observations-o.ensures) _ c.part_length-part.ensures

pub write_row-requires-in-loop-i : goal.write_row-requires-in-loop-i
write_row-requires-in-loop-i c =
    part_needs c.args.card.words.now c.args.card.checked c.args.work.now c.requires.0 _ _ c.observations-o.ensures c.requires.1 _ _ c.loop-i-test.true c.upper.ensures.half
    _ (c.cell_place-from.ensures ∙ ap (λ (n : ℕ). cell_place n c.upper.result) c.observations-o.ensures) _ c.part_length-part.ensures _ _ c.loop-i.invariant _ c.cell_place-at.ensures _ (omega (arith, c.part_length-part.ensures))

pub loop-i-preserved : goal.loop-i-preserved
loop-i-preserved c =
    part_written c.args.card.words.now c.args.card.checked c.args.work.now c.requires.0 _ _ c.observations-o.ensures c.requires.1 _ _ c.loop-i-test.true c.upper.ensures.half
    _ (c.cell_place-from.ensures ∙ ap (λ (n : ℕ). cell_place n c.upper.result) c.observations-o.ensures) _ c.part_length-part.ensures _ _ c.loop-i.invariant _ c.cell_place-at.ensures
    (c.cell_place-from.result + c.part_length-part.result - (c.cell_place-from.result + 1)) _ (omega (arith, c.part_length-part.ensures)) refl _ c.write_row-in-loop-i.ensures

pub returns : goal.returns
returns c =
    all_written c.args.card.words.now c.args.card.checked c.args.work.now c.requires.0 _ _ c.observations-o.ensures c.requires.1 _ c.requires.2 _ c.front_length-front.ensures
    _ (c.front_length-front.result - 1) _ _ (omega (arith, c.front_length-front.ensures)) c.actions.ensures c.heading-head.ensures c.write_row.ensures
    _ _ c.loop-i.invariant c.loop-i-test.false
