-- No cell is marked, then the first one that is named, and from there the others.
use Rattle.std.proofs.Common.{◌≡◌, length, refl, ◌∙◌, rules, arith}
use lib.ListN.{replicate}
use Rattle.trimmer.proofs.Naming.{firsts_naming, first_inside, first_needs, firsts_taken}
use Rattle.trimmer.proofs.Marks.firsts.Goals as goal

pub put_lower-requires : goal.put_lower-requires
put_lower-requires c =
    let cleared : c.fill.new.self ≡ replicate (length c.args.work.now) 0 = search rules in
    (first_inside c.args.card.words.now c.args.card.checked _ _ cleared (c.fill.auto.self ∙ c.requires) _ c.first_named-first.ensures, omega arith)

pub slice_bounds-mark_named-end : goal.slice_bounds-mark_named-end
slice_bounds-mark_named-end c = (firsts_naming c.args.card.words.now c.args.card.checked _ _ c.observations-o.ensures refl).within

pub mark_named-requires : goal.mark_named-requires
mark_named-requires c =
    let cleared : c.fill.new.self ≡ replicate (length c.args.work.now) 0 = search rules in
    first_needs c.args.card.words.now c.args.card.checked _ _ cleared (c.fill.auto.self ∙ c.requires) _ c.first_named-first.ensures _ c.put_lower.ensures _ c.observations-o.ensures _ (omega arith)

pub returns-clause-taking : goal.returns-clause-taking
returns-clause-taking c =
    let cleared : c.fill.new.self ≡ replicate (length c.args.work.now) 0 = search rules in
    firsts_taken c.args.card.words.now c.args.card.checked _ _ cleared (c.fill.auto.self ∙ c.requires) _ c.first_named-first.ensures _ c.put_lower.ensures _ c.observations-o.ensures _ (omega arith) _ _ _ c.mark_named.ensures.added
