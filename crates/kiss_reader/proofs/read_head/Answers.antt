use Rattle.std.proofs.Common.{◌∙◌}
use Rattle.kiss_reader.proofs.Parts.{head_parts, head_read}
use Rattle.kiss_reader.proofs.read_head.Goals as goal

pub returns : goal.returns
returns c =
    head_read _ _ _ (c.in_ok-states.ensures.same ∙ c.in_ok-read_widths.ensures.same ∙ c.in_ok-counts.ensures.same)
    (λ next. head_parts _ next ∙ c.in_ok-counts.ensures.goes _ ∙ (rw (c.bits.ensures, c.bits-2.ensures) at c.in_ok-read_widths.ensures.goes) _ ∙ c.in_ok-states.ensures.goes _)
