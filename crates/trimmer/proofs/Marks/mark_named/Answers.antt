use Rattle.trimmer.proofs.Naming.{name_here}
use Rattle.trimmer.proofs.Marking.{more_needs, adds_more}
use Rattle.trimmer.proofs.Marks.mark_named.Goals as goal

pub mark-requires : goal.mark-requires
mark-requires c = more_needs _ _ _ c.requires.0 c.requires.2 _ c.loop-name.invariant _ c.loop-name-test.true (name_here c.args.names.now c.loop-name.name-index _ c.low_field.ensures)

pub loop-name-preserved : goal.loop-name-preserved
loop-name-preserved c = adds_more _ _ _ _ c.loop-name.invariant _ (name_here c.args.names.now c.loop-name.name-index _ c.low_field.ensures) _ c.mark.ensures
