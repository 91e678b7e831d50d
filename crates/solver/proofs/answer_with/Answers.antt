-- `solver::answer_with` meets its contract: by how the search ends.
use mathlib.Core.Path.{subst, refl}
use Rattle.games.specs.Words.{game}
use Rattle.search.specs.Found.{Searched}
use Rattle.search.specs.declared.Ended.{Ended}
use Rattle.solver.proofs.Answers.{decided_no, decided_yes}
use Rattle.solver.proofs.answer_with.Goals as goal

pub returns-in-Lost : goal.returns-in-Lost
returns-in-Lost c =
    let g = game c.args.moves.accepted.table.words.now in
    decided_no g c.args.card.now c.in-Lost.k (subst (λ (r : Ended). Searched g r c.search.new.family) c.in-Lost.is c.search.ensures).0

pub returns-in-Settled : goal.returns-in-Settled
returns-in-Settled c =
    let g = game c.args.moves.accepted.table.words.now in
    let w = subst (λ (r : Ended). Searched g r c.search.new.family) c.in-Settled.is c.search.ensures in
    decided_yes g c.args.card.now c.in-Settled.k _ w.count_is w.starts refl _ c.accept.ensures
