-- `search::Round::shown_in` meets its contract: by what the family has, or by the test of each observation.
use borrow.Author.Rules.{rules}
use mathlib.Core.Path.{sym, ◌∙◌}
use Rattle.sets.specs.Mask.{common}
use Rattle.families.specs.Bits.{has}
use Rattle.families.proofs.Lanes.{lane_there}
use Rattle.games.specs.Words.{game}
use Rattle.search.proofs.Turns.{shown_whole, shown_all}
use Rattle.search.proofs.Round.shown_in.Goals as goal

pub has-requires : goal.has-requires
has-requires c = rw c.args.self.stage.size (lane_there (game c.args.self.moves.accepted.table.words.now).states c.args.u c.requires)

pub returns-then-has : goal.returns-then-has
returns-then-has c = c.if-has.true ∙ shown_whole (game c.args.self.moves.accepted.table.words.now) (has c.args.self.family.now) c.args.u c.args.self.stage.down (sym c.has.ensures ∙ c.if-has.true)

pub returns-else-has : goal.returns-else-has
returns-else-has c =
    let g = game c.args.self.moves.accepted.table.words.now in
    c.all.ensures (λ j. has c.args.self.family.now (common c.args.u (g.shown j))) (λ i r l p. search rules) ∙ shown_all g (has c.args.self.family.now) c.args.u c.observations-o.result c.observations-o.ensures
