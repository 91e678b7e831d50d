use borrow.Author.Rules.{rules}
use mathlib.Core.Path.{◌≡◌, sym, ap, ◌∙◌}
use Prim.Native.Nat.{ℕ}
use native.Mathlib.Omega.{arith}
use lib.ListN.{length, length-set}
use lib.Seq.{take_all}
use Rattle.words.specs.Bytes.{words_of}
use Rattle.words.proofs.Decoding.{words_none, words_more}
use Rattle.words.proofs.decode.Goals as goal

pub loop-i-init : goal.loop-i-init
loop-i-init c = (search rules, words_none _)

pub loop-i-preserved : goal.loop-i-preserved
loop-i-preserved c = (
  length-set c.loop-i.words c.loop-i.i c.word_at.result ∙ c.loop-i.invariant.0,
  words_more c.loop-i.i c.args.bytes.now c.loop-i.words c.word_at.result (omega (arith, c.loop-i-test.true, c.loop-i.invariant.0)) c.loop-i.invariant.1 c.word_at.ensures,
)

pub returns : goal.returns
returns c =
    let e : c.loop-i.i ≡ length c.args.words.now = omega arith in
    sym (take_all c.loop-i.i c.loop-i.words (omega (arith, c.loop-i.invariant.0))) ∙ c.loop-i.invariant.1 ∙ ap (λ (n : ℕ). words_of n c.args.bytes.now) e
