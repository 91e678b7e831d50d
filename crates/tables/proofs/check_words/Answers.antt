use mathlib.Core.Path.{◌≡◌, sym, ◌∙◌}
use native.Mathlib.Omega.{arith}
use lib.ListN.{length}
use Rattle.std.proofs.lemmas.Result.{err_from_is_err_and}
use Rattle.sets.proofs.Bounded.{first_skip}
use Rattle.tables.specs.Check.{faulty}
use Rattle.tables.proofs.Checks.{words_none, word_passes, word_stops, words_fine}
use Rattle.tables.proofs.check_words.Goals as goal

pub loop-p-init : goal.loop-p-init
loop-p-init c = words_none c.args.table.words.now

pub returns-in_err-check_word : goal.returns-in_err-check_word
returns-in_err-check_word c =
    let p = err_from_is_err_and c.from_residual.result c.from_residual.ensures.1 in
    rw (p.1, p.2) (sym (word_stops c.args.table.words.now c.loop-p.p c.loop-p-test.true c.loop-p.invariant _ (sym c.check_word.ensures ∙ c.in_err-check_word.was)))

pub loop-p-preserved : goal.loop-p-preserved
loop-p-preserved c =
    first_skip c.loop-p.p (faulty c.args.table.words.now) c.loop-p.invariant
    (word_passes c.args.table.words.now c.loop-p.p (sym c.check_word.ensures ∙ c.in_ok-check_word.was))

pub returns : goal.returns
returns c =
    let e : c.loop-p.p ≡ length c.args.table.words.now = omega arith in
    sym (words_fine c.args.table.words.now (rw e at c.loop-p.invariant))
