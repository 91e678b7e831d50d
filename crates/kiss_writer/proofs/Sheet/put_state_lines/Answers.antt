use Rattle.kiss.specs.Text.{state_text}
use Rattle.kiss_writer.proofs.Rows.{below_none, below_more, below_all}
use Rattle.kiss_writer.proofs.Sheet.put_state_lines.Goals as goal

pub loop-observation-init : goal.loop-observation-init
loop-observation-init c = below_none _ _

pub loop-observation-preserved : goal.loop-observation-preserved
loop-observation-preserved c = below_more _ _ _ c.loop-observation.invariant c.put_slot.ensures

pub returns : goal.returns
unfolding state_text
returns c = below_all _ _ _ c.loop-observation.invariant _ _ c.observations-observation-end.ensures c.loop-observation.auto.observation-end c.loop-observation-test.false
