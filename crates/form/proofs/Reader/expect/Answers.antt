-- `form::Reader::expect` meets its contract, by that of `text::skip`.
use Rattle.std.proofs.Common.{refl, sym, ◌∙◌, arith}
use Rattle.std.proofs.lemmas.Result.{err_from_is_err_and}
use Rattle.form.specs.Cursors.{runs}
use Rattle.form.proofs.Words.{word_passed, word_departs, skipped_within}
use Rattle.form.proofs.Reader.expect.Goals as goal

pub returns-in_err-self : goal.returns-in_err-self
unfolding runs
returns-in_err-self c =
    let p = err_from_is_err_and c.from_residual.result c.from_residual.ensures.1 in
    rw (p.1, p.2) (record { same = refl; goes = λ F. word_departs c.args.word.now _ _ (λ k. omega (arith, c.type_inv.word k)) F _ (sym c.skip.ensures ∙ c.in_err-self.was) })

pub invariant_of-self : goal.invariant_of-self
invariant_of-self c = record { within = skipped_within c.args.word.now _ _ _ c.args.self.now.within (sym c.skip.ensures ∙ c.in_ok-self.was) }

pub returns : goal.returns
unfolding runs
returns c = record { same = refl; goes = λ F. word_passed c.args.word.now _ _ (λ k. omega (arith, c.type_inv.word k)) F _ (sym c.skip.ensures ∙ c.in_ok-self.was) }
