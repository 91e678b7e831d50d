-- `index::Cells::holding` meets its contract: the empty set, a set that is noted, a set that is in no cell, and the number of the tightest cell.
use mathlib.Core.Bool.{true}
use mathlib.Core.Path.{◌≡◌, sym, ap, ◌∙◌}
use native.Mathlib.Omega.{arith}
use Rattle.sets.specs.Family.{holds}
use Rattle.families.specs.Bits.{sets}
use Rattle.games.proofs.Holding.{holding_empty, holding_only}
use Rattle.index.proofs.Answer.{held_nowhere, held_cell, tightest_cell}
use Rattle.index.proofs.Noting.{noted_more}
use Rattle.index.proofs.Cells.holding.Goals as goal

pub returns-then-t-eq0 : goal.returns-then-t-eq0
returns-then-t-eq0 c =
    let l = sets c.args.self.tops.now in
    (held_cell l c.args.t _ (ap (holds l) c.if-t-eq0.true ∙ c.args.self.indexed.some) (holding_empty l c.args.t c.if-t-eq0.true), c.requires.0)

pub returns-then-note-ne0 : goal.returns-then-note-ne0
returns-then-note-ne0 c =
    let n = c.requires.0.notes c.args.t c.requires.2 c.if-t-eq0.false c.if-note-ne0.true in
    (held_cell (sets c.args.self.tops.now) c.args.t _ n.0 (omega (arith, n.1)), c.requires.0)

pub returns-then-not-has : goal.returns-then-not-has
returns-then-not-has c = (held_nowhere (sets c.args.self.tops.now) c.args.t (sym (c.args.self.indexed.same c.args.t) ∙ sym c.has.ensures ∙ c.if-not-has.true), c.requires.0)

pub returns : goal.returns
returns c =
    let l = sets c.args.self.tops.now in
    let found_held : holds l c.args.t ≡ true = sym (c.args.self.indexed.same c.args.t) ∙ sym c.has.ensures ∙ c.if-not-has.false in
    let number = c.requires.0.cells c.tightest-s.result c.tightest-s.ensures.is_cell in
    let only = holding_only l c.args.t c.if-t-eq0.false _ (tightest_cell c.args.self.tops.now c.args.t c.tightest-s.result c.tightest-s.ensures) in (
      held_cell l c.args.t _ found_held (omega (arith, number, only)),
      noted_more c.args.self.tops.now c.args.self.base c.args.work.now c.requires.0 c.args.t c.requires.2 c.if-note-ne0.false _ found_held (omega (arith, number, only)),
    )
