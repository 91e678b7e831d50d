-- The first words, then the parts, with half tables or without.
use Rattle.std.proofs.Common.{arith}
use Rattle.certificates.proofs.Judged.{firsts_stop, firsts_pass}
use Rattle.certificates.proofs.judge_words.Goals as goal

pub returns-then-held-observations : goal.returns-then-held-observations
returns-then-held-observations c =
    rw c.at.ensures
    (firsts_stop _ _ c.args.pair.card.checked _ c.firsts_hold-held.ensures (omega (arith, c.if-held-observations.true, c.observations.ensures)))

pub judge_parts-requires : goal.judge_parts-requires
judge_parts-requires c =
    firsts_pass _ _ c.args.pair.card.checked _ c.firsts_hold-held.ensures (omega (arith, c.if-held-observations.false, c.observations.ensures))

pub judge_many-requires : goal.judge_many-requires
judge_many-requires c = firsts_pass _ _ c.args.pair.card.checked _ c.firsts_hold-held.ensures (omega (arith, c.if-held-observations.false, c.observations.ensures))
