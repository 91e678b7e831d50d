-- The check of both, then the words; and accepted means safe.
use Rattle.std.proofs.Common.{◌∙◌}
use Rattle.std.proofs.lemmas.Result.{err_from_is_err_and}
use Rattle.certificates.proofs.Judged.{pair_stops, words_decide, promised}
use Rattle.certificates.proofs.judge_card.Goals as goal

pub returns-in_err-of : goal.returns-in_err-of
returns-in_err-of c =
    let q = err_from_is_err_and c.from_residual.result c.from_residual.ensures.1 in
    let stops = pair_stops c.args.table.now c.args.card.now _ _ c.in_err-of.ensures.refused in
    let p = promised c.args.table.now c.args.card.now c.from_residual.result (rw (q.1, q.2) stops) in
    record { determined = p.0; safe = p.1 }

pub returns : goal.returns
returns c =
    let pair = c.in_ok-of.ensures.pair in
    let words = rw (pair.0, pair.1) at c.judge_words.ensures in
    let fine = rw (pair.0, pair.1) at c.in_ok-of.field-0.checked in
    let p = promised c.args.table.now c.args.card.now _ (words ∙ words_decide c.args.table.now c.args.card.now fine) in
    record { determined = p.0; safe = p.1 }
