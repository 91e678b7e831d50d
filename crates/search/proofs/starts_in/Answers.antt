-- `search::starts_in` meets its contract: by the test of each start set.
use borrow.Author.Rules.{rules}
use mathlib.Core.Path.{◌∙◌}
use Rattle.families.specs.Bits.{has}
use Rattle.games.specs.Verdict.{start_set}
use Rattle.games.specs.Words.{game}
use Rattle.search.proofs.Turns.{starts_each}
use Rattle.search.proofs.starts_in.Goals as goal

pub returns : goal.returns
returns c =
    let g = game c.args.accepted.table.words.now in
    c.all.ensures (λ j. has c.args.family.now (start_set g j)) (λ i r l p. search rules) ∙ starts_each g (has c.args.family.now) c.start_sets.result c.start_sets.ensures
