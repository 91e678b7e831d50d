-- `kiss_writer::write_text` meets its contract: 9 where the room is short, else the text.
use mathlib.Core.Path.{ap}
use Rattle.cards.specs.declared.words.Card.{Card}
use borrow.Author.Rules.{rules}
use Rattle.kiss_writer.proofs.Answers.{room_short, room_filled}
use Rattle.kiss_writer.proofs.write_text.Goals as goal

pub returns-then-out-need : goal.returns-then-out-need
returns-then-out-need c = rw c.at.ensures (room_short c.args.card.words.now c.args.out.now _ (rw (ap (λ (x : Card). x.words.now) c.of-sheet.ensures) at c.text_length-need.ensures) c.if-out-need.true)

pub returns : goal.returns
returns c =
    room_filled c.args.card.words.now c.args.out.now _ (rw (ap (λ (x : Card). x.words.now) c.of-sheet.ensures) at c.text_length-need.ensures) c.if-out-need.false _
    c.at-text.ensures.place c.at-text.ensures.unwritten (rw (ap (λ (x : Card). x.words.now) c.of-sheet.ensures) at c.put_text.ensures) (search rules)
