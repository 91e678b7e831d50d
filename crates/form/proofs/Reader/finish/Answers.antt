-- `form::Reader::finish` meets its contract.
use Rattle.std.proofs.Common.{sym, arith}
use Rattle.form.specs.Cursors.{runs}
use Rattle.form.proofs.Steps.{ends_here, ends_later}
use Rattle.form.proofs.Reader.finish.Goals as goal

pub returns-in-None : goal.returns-in-None
unfolding runs
returns-in-None c = record { goes = λ vs. ends_here _ _ vs (sym c.in-None.ensures.there) }

pub returns-in-Some : goal.returns-in-Some
unfolding runs
returns-in-Some c = record { goes = λ vs. ends_later _ _ vs (λ e. omega (arith, e, c.in-Some.ensures.there, c.in-Some.ensures.small)) }
