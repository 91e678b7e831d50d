-- `answer_words` meets its contract: the words decoded are those of the bytes, and the buffers are blank.
use mathlib.Core.Path.{sym, ap, ◌∙◌}
use Prim.Native.Nat.{ℕ}
use native.Mathlib.Omega.{arith}
use Rattle.words.specs.Bytes.{words_of}
use Rattle.solve.proofs.Answering.{puts_same, same_text, words_long}
use Rattle.solve.proofs.answer_words.Goals as goal

pub slice_bounds-words-end : goal.slice_bounds-words-end
slice_bounds-words-end c = sym (words_long c.args.bytes.now _ c.requires.0 c.filled-room.ensures)

pub decode-requires : goal.decode-requires
decode-requires c = omega (arith, words_long c.args.bytes.now _ c.requires.0 c.filled-room.ensures, c.requires.1)

pub returns : goal.returns
returns c =
    let long = words_long c.args.bytes.now _ c.requires.0 c.filled-room.ensures in
    let are_words = c.decode.ensures ∙ ap (λ (n : ℕ). words_of n c.args.bytes.now) long in
    (puts_same (same_text are_words c.filled-work.ensures c.filled-card.ensures) c.report.ensures.0, c.report.ensures.1)
