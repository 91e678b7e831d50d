-- The run is not refused, so each move enters a cell.
use Rattle.std.proofs.Common.{sym, ◌∙◌}
use Rattle.runner.proofs.Laws.{wrote_none, wrote_more, no_stop}
use Rattle.runner.proofs.write_actions.Goals as goal

pub loop-i-init : goal.loop-i-init
loop-i-init c = wrote_none _ _ _

pub returns-in_default : goal.returns-in_default
returns-in_default c =
    absurd (no_stop c.args.card.words.now c.args.seen.now c.loop-i.i c.loop-i.cell c.loop-i.invariant.at c.loop-i-test.true
    c.in_default.field-0.reason c.in_default.field-0.place (sym c.move_from.ensures ∙ c.in_default.is) c.requires.taken)

pub loop-i-preserved : goal.loop-i-preserved
loop-i-preserved c =
    wrote_more c.args.card.words.now c.args.seen.now c.args.out.now c.loop-i.out c.loop-i.i c.loop-i.cell c.loop-i.invariant
    c.requires.room c.in-Ok.entered.cell c.in-Ok.entered.action c.loop-i-test.true (sym c.move_from.ensures ∙ c.in-Ok.is)
