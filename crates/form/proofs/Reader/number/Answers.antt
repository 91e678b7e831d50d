-- `form::Reader::number` meets its contract.
use Rattle.std.proofs.Common.{refl}
use Rattle.form.specs.Cursors.{runs}
use Rattle.form.proofs.Values.{said_read}
use Rattle.form.proofs.Reader.number.Goals as goal

pub returns-then-holds : goal.returns-then-holds
unfolding runs
returns-then-holds c =
    let within = c.holds.ensures.0 c.if-holds.true in
    record { same = refl; bounded = within.1; goes = said_read _ _ _ _ _ _ _ c.in-Some.ensures within.0 within.1 }
