-- The refusals come in the order of the tests: no word, the head, the length, the words.
use Rattle.std.proofs.Common.{sym, ◌∙◌}
use Rattle.cards.proofs.Checked.{no_word, wrong_head, wrong_length, only_words, shaped_as_read}
use Rattle.cards.proofs.check.Goals as goal

pub returns-then-card-eq0 : goal.returns-then-card-eq0
returns-then-card-eq0 c = rw c.at.ensures (sym (no_word _ c.if-card-eq0.true))

pub returns-then-not-head_fits : goal.returns-then-not-head_fits
returns-then-not-head_fits c =
    rw c.at-then-not-head_fits.ensures
    (sym (wrong_head _ c.if-card-eq0.false (sym c.head_fits.ensures ∙ c.if-not-head_fits.true)))

pub returns-then-card-card_length : goal.returns-then-card-card_length
returns-then-card-card_length c =
    rw c.at-then-card-card_length.ensures
    (sym (wrong_length _ c.if-card-eq0.false (sym c.head_fits.ensures ∙ c.if-not-head_fits.false) _ c.of-head.ensures _ c.card_length.ensures c.if-card-card_length.true))

pub invariant_of-check : goal.invariant_of-check
invariant_of-check c =
    record {
      headed = c.of-head.ensures;
      shaped = shaped_as_read c.args.card.now (sym c.head_fits.ensures ∙ c.if-not-head_fits.false) _ c.of-head.ensures _ c.card_length.ensures c.if-card-card_length.false;
    }

pub returns : goal.returns
returns c =
    c.check.ensures
    ∙ sym (only_words c.args.card.now c.if-card-eq0.false (shaped_as_read c.args.card.now (sym c.head_fits.ensures ∙ c.if-not-head_fits.false) _ c.of-head.ensures _ c.card_length.ensures c.if-card-card_length.false))
