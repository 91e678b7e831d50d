-- `kiss::no_first` meets its contract.
use Rattle.std.proofs.Common.{rules, refl, ◌≡◌, true, false, arith}
use borrow.Author.Tests.{tests}
use Rattle.std.proofs.lemmas.Iterator.{YieldsList-from_range, cases_from_all}
use Rattle.std.specs.Prelude.{is_none}
use Rattle.cards.specs.Card.{automaton}
use Rattle.cards.specs.Run.{led}
use Rattle.kiss.proofs.Idling.{no_first_is}
use Rattle.kiss.proofs.no_first.Goals as goal

pub returns : goal.returns
returns c =
    rw (← c.observations.ensures)
    (no_first_is c.args.card.words.now c.args.card.checked c.observations.result c.observations.ensures c.all.result
    (cases_from_all _ _ _ (λ j. is_none (led ((automaton c.args.card.words.now).begins j)) ≡ true) (λ j. is_none (led ((automaton c.args.card.words.now).begins j)) ≡ false)
    c.all.ensures.ran (YieldsList-from_range 0 c.observations.result c.observations.result refl (omega arith)) (λ x q k. search (rules, tests)) (λ x q k. search (rules, tests))))
