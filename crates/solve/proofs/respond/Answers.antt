-- `respond` meets its contract: an input that is too long, one of no whole number of words, and the words of a table.
use borrow.Author.Rules.{rules}
use native.Mathlib.Omega.{arith}
use Rattle.solve.proofs.Answering.{puts_same, too_long, no_words, whole_words}
use Rattle.solve.proofs.respond.Goals as goal

pub returns-then-bytes-gt-INPUT_BYTES : goal.returns-then-bytes-gt-INPUT_BYTES
returns-then-bytes-gt-INPUT_BYTES c = (puts_same (too_long _ (search rules)) (rw c.at.ensures at c.put_refusal.ensures.0), omega (arith, c.put_refusal.ensures.1))

pub returns-then-bytes-ne0 : goal.returns-then-bytes-ne0
returns-then-bytes-ne0 c = (puts_same (no_words _ (search rules) (search rules)) (rw c.at-then-bytes-ne0.ensures at c.put_refusal-then-bytes-ne0.ensures.0), omega (arith, c.put_refusal-then-bytes-ne0.ensures.1))

pub returns : goal.returns
returns c = (puts_same (whole_words _ (search rules) (search rules)) c.answer_words.ensures.0, c.answer_words.ensures.1)
