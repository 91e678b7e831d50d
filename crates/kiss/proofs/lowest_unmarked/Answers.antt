-- `kiss::lowest_unmarked` meets its contract.
use Rattle.std.proofs.Common.{rules, ◌≡◌, ◌∙◌}
use borrow.Author.Tests.{tests}
use Rattle.std.specs.Option.{option_map}
use Rattle.std.proofs.lemmas.Iterator.{first_from_Range}
use Rattle.cards.specs.Run.{as_cell}
use Rattle.trimmer.specs.Halves.{lower_half}
use Rattle.kiss.proofs.Idling.{lowest_is}
use Rattle.kiss.proofs.lowest_unmarked.Goals as goal

pub returns : goal.returns
returns c =
    let found = first_from_Range _ _ _ c.find.result (λ i. lower_half c.args.marks.now i ≡ 0) (λ i. lower_half c.args.marks.now i ≡ 0 → ⊥) c.find.ensures.ran (λ x q k. search (rules, tests)) (λ x q k. search (rules, tests)) in
    let mapped : c.map.result ≡ option_map as_cell c.find.result = search rules in
    mapped ∙ lowest_is c.args.marks.now c.find.result found
