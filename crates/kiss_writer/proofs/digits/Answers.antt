use Rattle.std.proofs.Common.{length, ap, ◌∙◌}
use Rattle.std.proofs.lemmas.List.{length-replicate}
use Rattle.kiss_writer.proofs.Numbers.{partly_none, partly_more, partly_all}
use Rattle.kiss_writer.proofs.digits.Goals as goal

pub loop-byte-init : goal.loop-byte-init
loop-byte-init g c = partly_none _ c.requires.base.0 c.requires.base.1 _ _ _ c.filled-bytes.result (ap length c.filled-bytes.ensures ∙ length-replicate _ _) c.pow-unit.ensures c.requires.first

pub loop-byte-preserved : goal.loop-byte-preserved
loop-byte-preserved g c = partly_more _ c.requires.base.0 c.requires.base.1 _ _ _ _ _ _ c.loop-byte.invariant c.loop-byte-test.true

pub returns : goal.returns
returns g c = partly_all _ c.requires.base.0 c.requires.base.1 _ _ _ _ _ _ c.loop-byte.invariant c.loop-byte-test.false
