-- The first part at fault stops the judge.
use Rattle.std.proofs.Common.{◌≡◌, ℕ, ◌+◌, ap, ◌∙◌, arith}
use Rattle.games.specs.Words.{part_length}
use Rattle.games.specs.Answers.{refused}
use Rattle.games.specs.declared.Reason.TheVariants as reason
use Rattle.cards.specs.Card.{card_observations}
use Rattle.certificates.proofs.Judged.{part_stop, part_pass, all_hold}
use Rattle.certificates.proofs.Judge.judge_parts.Goals as goal

pub returns-then-held-length : goal.returns-then-held-length
returns-then-held-length c =
    rw c.at.ensures
    (let part : c.part_length-length.result ≡ part_length (card_observations c.args.self.pair.card.words.now) = c.part_length-length.ensures ∙ ap part_length c.observations.ensures in
    ap (λ (p : ℕ). refused reason.NotSafe (p + c.part_holds-held.result)) c.cell_place.ensures
    ∙ part_stop _ _ c.args.self.pair.card.checked _ (omega arith) c.loop-c.invariant _ c.part_holds-held.ensures (omega (arith, c.if-held-length.true, part)))

pub loop-c-preserved : goal.loop-c-preserved
loop-c-preserved c =
    let part : c.part_length-length.result ≡ part_length (card_observations c.args.self.pair.card.words.now) = c.part_length-length.ensures ∙ ap part_length c.observations.ensures in
    part_pass _ _ c.args.self.pair.card.checked _ (omega arith) c.loop-c.invariant _ c.part_holds-held.ensures (omega (arith, c.if-held-length.false, part))

pub returns : goal.returns
returns c = all_hold _ _ c.args.self.pair.card.checked _ (omega arith) (omega arith) c.loop-c.invariant
