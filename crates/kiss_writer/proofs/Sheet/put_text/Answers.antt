-- `kiss_writer::Sheet::put_text` meets its contract: the head, the lines and the end.
use Rattle.text.proofs.Writing.{puts_then}
use Rattle.kiss_writer.proofs.Lines.{text_is}
use Rattle.kiss_writer.proofs.Sheet.put_text.Goals as goal

pub returns : goal.returns
returns c =
    rw (text_is c.args.self.card.words.now)
    (puts_then (puts_then c.put_head.ensures.0 c.put_lines.ensures.0) c.put_bytes.ensures)
