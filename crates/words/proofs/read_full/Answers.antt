use native.Mathlib.Omega.{arith}
use Rattle.words.proofs.Reading.{read_more}
use Rattle.words.proofs.read_full.Goals as goal

pub loop-done-preserved : goal.loop-done-preserved
loop-done-preserved g c = (
  omega (arith, c.in_ok-more.ensures.bound.0),
  read_more _ _ _ _ _ _ _ _ (omega (arith, c.loop-done.invariant.0, c.loop-done.auto.buffer)) c.in_ok-more.ensures.bound.0 c.loop-done.invariant.1 c.in_ok-more.ensures.bytes.0,
)
