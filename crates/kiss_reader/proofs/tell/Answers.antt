-- `kiss_reader::tell` meets its contract.
use mathlib.Core.Path.{sym, ◌∙◌}
use Rattle.kiss.proofs.Idling.{cell_some, cell_none}
use Rattle.kiss_reader.proofs.Answers.{tell_idle, tell_short, tell_card}
use Rattle.kiss_reader.proofs.tell.Goals as goal

pub returns-in-Some : goal.returns-in-Some
returns-in-Some c = rw (c.at.ensures) (tell_idle c.args.card.words.now c.args.out.now _ (cell_some _ c.in-Some.cell (sym c.in-Some.is ∙ c.lowest_idle.ensures)))

pub returns-then-out-need : goal.returns-then-out-need
returns-then-out-need c = rw (c.at-then-out-need.ensures) (tell_short c.args.card.words.now c.args.out.now (cell_none _ (sym c.in_default.is ∙ c.lowest_idle.ensures)) c.if-out-need.true)

pub returns : goal.returns
returns c = tell_card c.args.card.words.now c.args.out.now (cell_none _ (sym c.in_default.is ∙ c.lowest_idle.ensures)) c.if-out-need.false _ _ c.cells.ensures c.copy.ensures
