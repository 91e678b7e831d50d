-- `search::Round::meets_step` meets its contract: by the bad states, or by the test of each action.
use borrow.Author.Rules.{rules}
use mathlib.Core.Path.{◌∙◌}
use Rattle.families.specs.Bits.{has}
use Rattle.games.specs.Words.{game}
use Rattle.games.specs.Step.{meets}
use Rattle.search.proofs.Turns.{step_bad, step_any}
use Rattle.search.proofs.Round.meets_step.Goals as goal

pub returns-then-s-bad-eq0 : goal.returns-then-s-bad-eq0
returns-then-s-bad-eq0 c =
    let g = game c.args.self.moves.accepted.table.words.now in
    c.any.ensures (meets g (has c.args.self.family.now) c.args.s) (λ i r l p. search rules) ∙ step_any g (has c.args.self.family.now) c.args.s (rw c.bad.ensures at c.if-s-bad-eq0.true) c.actions.result c.actions.ensures

pub returns-else-s-bad-eq0 : goal.returns-else-s-bad-eq0
returns-else-s-bad-eq0 c =
    let g = game c.args.self.moves.accepted.table.words.now in
    rw c.bad.ensures (step_bad g (has c.args.self.family.now) c.args.s (rw c.bad.ensures at c.if-s-bad-eq0.false))
