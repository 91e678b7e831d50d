-- `reply_to` meets its contract: the line of a failed read, or the text for the bytes that were read.
use mathlib.Core.Path.{ap, ◌∙◌}
use native.Mathlib.Omega.{arith}
use lib.ListN.{length}
use Rattle.solve.proofs.Answering.{puts_same, text_is, failed_reply, bytes_reply}
use Rattle.solve.proofs.reply_to.Goals as goal

pub returns-in-Err : goal.returns-in-Err
returns-in-Err c =
    let is = failed_reply c.args.input _ c.in-Err.is in
    (is.0, c.written.ensures ∙ text_is c.at-text.ensures.place (puts_same is.1 c.put_unread.ensures.0) (omega (arith, c.requires, c.put_unread.ensures.1, ap length c.at-text.ensures.unwritten, c.at-text.ensures.place)))

pub returns-in-Ok : goal.returns-in-Ok
returns-in-Ok c =
    let is = bytes_reply c.args.input _ c.in-Ok.is in
    (is.0, c.written-in-Ok.ensures ∙ text_is c.at-text.ensures.place (puts_same is.1 c.respond.ensures.0) (omega (arith, c.requires, c.respond.ensures.1, ap length c.at-text.ensures.unwritten, c.at-text.ensures.place)))
