-- One observation more, or where it stops.
use Rattle.std.proofs.Common.{sym, ◌∙◌}
use Rattle.runner.proofs.Laws.{at_none, at_more, run_stops}
use Rattle.runner.proofs.try_run.Goals as goal

pub loop-i-init : goal.loop-i-init
loop-i-init c = at_none _ _

pub returns-in-Err : goal.returns-in-Err
returns-in-Err c = run_stops c.args.card.words.now c.args.seen.now c.loop-i.i c.loop-i.cell c.loop-i.invariant c.loop-i-test.true c.in-Err.refusal.reason c.in-Err.refusal.place (sym c.move_from.ensures ∙ c.in-Err.is)

pub loop-i-preserved : goal.loop-i-preserved
loop-i-preserved c = at_more c.args.card.words.now c.args.seen.now c.loop-i.i c.loop-i.cell c.loop-i.invariant c.loop-i-test.true c.in-Ok.entered.cell c.in-Ok.entered.action (sym c.move_from.ensures ∙ c.in-Ok.is)
