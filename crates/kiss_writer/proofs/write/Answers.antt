-- `kiss_writer::write` meets its contract: a refusal of the card, 20, or what `write_text` ensures.
use mathlib.Core.Path.{sym, ◌∙◌}
use Rattle.std.proofs.lemmas.Result.{err_from_is_err_and}
use Rattle.kiss_writer.proofs.Answers.{write_stopped, write_idle, write_whole}
use Rattle.kiss_writer.proofs.Promises.{whole}
use Rattle.kiss_writer.proofs.write.Goals as goal

pub returns-in_err-card : goal.returns-in_err-card
returns-in_err-card c =
    let p = err_from_is_err_and c.from_residual.result c.from_residual.ensures.1 in
    let w = whole _ _ _ _ (write_stopped c.args.card.now c.args.out.now _ c.in_err-card.ensures.refused) in
    rw (p.1, p.2) (record { determined = w.0; promised = w.1 })

pub returns-in-Some : goal.returns-in-Some
returns-in-Some c =
    let card = c.in_ok-card.card in
    let w = whole _ _ _ _ (write_idle card.words.now c.args.out.now card.checked c.in-Some.cell (sym c.in-Some.is ∙ c.lowest_idle.ensures)) in
    rw (c.at.ensures, ← c.in_ok-card.ensures.card) (record { determined = w.0; promised = w.1 })

pub returns : goal.returns
returns c =
    let card = c.in_ok-card.card in
    let w = whole _ _ _ _ (write_whole card.words.now c.args.out.now card.checked (sym c.in_default.is ∙ c.lowest_idle.ensures) _ _ c.write_text.ensures) in
    rw (← c.in_ok-card.ensures.card) (record { determined = w.0; promised = w.1 })
