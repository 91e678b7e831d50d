use mathlib.Core.Path.{◌≡◌}
use native.Mathlib.Omega.{arith}
use borrow.Author.Rules.{rules}
use Rattle.sets.proofs.Fills.{filled_none, filled_more}
use Rattle.fields.specs.Write.{word_at}
use Rattle.fields.proofs.Laws.{written_none, written_done}
use Rattle.fields.proofs.Narrow.write.Goals as goal

pub returns-then-out-words : goal.returns-then-out-words
returns-then-out-words c =
    rw c.at.ensures (written_none c.args.self.bounded.fields c.args.out.now c.words-words.result c.words-words.ensures c.if-out-words.true)

pub loop-p-init : goal.loop-p-init
loop-p-init c = (search rules, filled_none (word_at c.args.self.bounded.fields) c.args.out.now)

pub loop-p-preserved : goal.loop-p-preserved
loop-p-preserved c = (search rules, rw (c.loop-p.invariant.1, c.word_at.ensures) (filled_more (word_at c.args.self.bounded.fields) c.loop-p.p c.args.out.now (omega arith)))

pub returns : goal.returns
returns c =
    let e : c.loop-p.p ≡ c.words-words.result = omega arith in
    written_done c.args.self.bounded.fields c.args.out.now c.loop-p.out c.words-words.result c.words-words.ensures (omega arith) (rw e at c.loop-p.invariant.1)
