-- A refusal on the way stands; else 15 where the buffer is short; else the second pass writes what the first has seen.
use Rattle.std.proofs.Common.{sym, ◌∙◌}
use Rattle.std.proofs.lemmas.Result.{err_from_is_err_and}
use Rattle.runner.proofs.Laws.{run_refused, run_short, run_done, writable}
use Rattle.runner.proofs.run_checked.Goals as goal

pub returns-then-out-taken : goal.returns-then-out-taken
returns-then-out-taken c = rw c.at.ensures (run_short _ _ _ _ (sym c.try_run.ensures ∙ c.in_ok-taken.was) c.if-out-taken.true)

pub write_actions-requires : goal.write_actions-requires
write_actions-requires c = writable _ _ _ _ (sym c.try_run.ensures ∙ c.in_ok-taken.was) c.if-out-taken.false

pub returns-in_err-taken : goal.returns-in_err-taken
returns-in_err-taken c =
    let p = err_from_is_err_and c.from_residual.result c.from_residual.ensures.1 in
    rw (p.1, p.2) (run_refused _ _ _ _ _ _ (sym c.try_run.ensures ∙ c.in_err-taken.was))

pub returns : goal.returns
returns c = run_done _ _ _ _ _ (sym c.try_run.ensures ∙ c.in_ok-taken.was) c.if-out-taken.false c.write_actions.ensures
