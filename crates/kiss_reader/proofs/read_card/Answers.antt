-- `kiss_reader::read_card` meets its contract.
use Rattle.std.proofs.Common.{refl, sym, ap, ◌∙◌}
use Rattle.std.proofs.lemmas.Result.{err_from_is_err_and}
use Rattle.cards.specs.Card.{checked}
use Rattle.form.specs.Form.{read}
use Rattle.kiss_reader.proofs.Answers.{head_reading, lines_reading, held_front, held_checked}
use Rattle.kiss_reader.proofs.read_card.Goals as goal

pub returns-in_err-head : goal.returns-in_err-head
returns-in_err-head c =
    let p = err_from_is_err_and c.from_residual.result c.from_residual.ensures.1 in
    rw (p.1, p.2) (head_reading _ _ _ refl c.in_err-head.ensures)

pub returns-in_err-read_lines : goal.returns-in_err-read_lines
returns-in_err-read_lines c =
    let p = err_from_is_err_and c.from_residual-in_err-read_lines.result c.from_residual-in_err-read_lines.ensures.1 in
    rw (p.1, p.2) (lines_reading _ _ _ c.in_ok-head.ensures refl c.new-z.result c.new-z.ensures.0 c.new-z.ensures.1 c.new-z.ensures.2 _ _ c.in_err-read_lines.ensures)

pub invariant_of-result : goal.invariant_of-result
invariant_of-result c =
    let held = c.in_ok-read_lines.ensures.held in
    record { checked = ap checked (held_front _ _ held _ _ c.card_length-need.ensures) ∙ held_checked _ _ held }

pub returns : goal.returns
returns c =
    lines_reading _ _ _ c.in_ok-head.ensures refl c.new-z.result c.new-z.ensures.0 c.new-z.ensures.1 c.new-z.ensures.2 _ _ c.in_ok-read_lines.ensures
    ∙ ap read (sym (held_front _ _ c.in_ok-read_lines.ensures.held _ _ c.card_length-need.ensures))
