-- `text::misplaced` meets its contract: v * 10 + d is above the bound exactly where v is above (most - d) / 10.
use mathlib.Core.Path.{sym}
use Rattle.text.proofs.Readers.{misplaced_zero, misplaced_digit, misplaced_sum}
use Rattle.text.proofs.misplaced.Goals as goal
use Rattle.text.proofs.misplaced.Goals.{then-v-eq0-via-then-v-eq0, then-v-eq0-via-else-v-eq0+then-most-d}

pub returns-then-v-eq0 : goal.returns-then-v-eq0
returns-then-v-eq0 c =
    elim c.then-v-eq0.branch [
      | then-v-eq0-via-then-v-eq0 w ↦ sym (misplaced_zero _ _ _ w.if-v-eq0.true)
      | then-v-eq0-via-else-v-eq0+then-most-d w ↦ sym (misplaced_digit _ _ _ w.if-most-d.true)
    ]

pub returns : goal.returns
returns c = misplaced_sum _ _ _ c.if-v-eq0.false c.if-most-d.false
