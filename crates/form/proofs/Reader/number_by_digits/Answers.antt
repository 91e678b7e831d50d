use Rattle.std.proofs.Common.{refl, sym, ap, ◌∙◌}
use Rattle.std.proofs.lemmas.Result.{err_from_is_err_and}
use Rattle.text.specs.declared.Wrong.{Wrong}
use Rattle.form.specs.Form.{departs}
use Rattle.form.specs.Cursors.{runs}
use Rattle.form.proofs.Steps.{in_number_more, in_number_miss, in_number_end}
use Rattle.form.proofs.Bytes.{place_is}
use Rattle.form.proofs.Reader.number_by_digits.Goals as goal

pub returns-in_err-v : goal.returns-in_err-v
unfolding runs
returns-in_err-v c =
    let p = err_from_is_err_and c.from_residual.result c.from_residual.ensures.1 in
    rw p.1
    record {
      same = refl;
      bounded = tt;
      goes = λ next. in_number_miss _ _ _ _ _ _ _ _ _ _ c.loop-i.invariant c.loop-i-test.true c.args.n.binary_up c.byte_at.ensures.there (rw c.in_err-v.ensures.ok_part at c.grown.ensures) next
          ∙ ap (λ (x : Wrong). departs x.place) (place_is _ _ _ c.in_err-v.ensures.value c.in_err-v.ensures.ok_part ∙ sym p.2);
    }

pub loop-i-preserved : goal.loop-i-preserved
loop-i-preserved c =
    let g = rw c.in_ok-v.ensures.ok_part at c.grown.ensures in
    rw g.1 (in_number_more _ _ _ _ _ _ _ _ _ _ c.loop-i.invariant c.loop-i-test.true c.args.n.binary_up c.byte_at.ensures.there c.args.n.decimal_down g.0)

pub returns : goal.returns
unfolding runs
returns c = record { same = refl; bounded = c.loop-i.invariant.small; goes = in_number_end _ _ _ _ _ _ _ _ _ c.loop-i.invariant c.loop-i-test.false c.loop-i.auto.i-end }
