-- `solver::solve` meets its contract: a refusal of the table, 8, or what `decide` ensures; the promise follows from the outcome.
use mathlib.Core.List.{List}
use mathlib.Core.Path.{◌≡◌, sym, ap, subst}
use Prim.Native.Nat.{ℕ, ◌*◌, ◌≤◌}
use native.Mathlib.Omega.{arith}
use Rattle.sets.proofs.Fills.{cleared}
use Rattle.games.specs.Format.{max_states}
use Rattle.games.specs.Words.{game}
use Rattle.tables.specs.Check.{checked}
use Rattle.tables.proofs.Bounds.{few_states, few_sets}
use Rattle.tables.proofs.Checks.{sized}
use Rattle.std.proofs.lemmas.Result.{err_from_is_err_and}
use Rattle.games.specs.Answers.{leaves}
use Rattle.solver.specs.Solve.{work_words, buffers, solved}
use Rattle.solver.proofs.Answers.{size_is, solved_stopped, solved_short, solved_done}
use Rattle.solver.proofs.Promises.{promised}
use Rattle.solver.proofs.solve.Goals as goal
use Rattle.std.specs.Prelude.{Ok, Err}

pub returns-in_err-accepted : goal.returns-in_err-accepted
returns-in_err-accepted c =
    let p = err_from_is_err_and c.from_residual.result c.from_residual.ensures.1 in
    let gave = solved_stopped c.args.table.now c.args.work.now c.args.card.now _ c.in_err-accepted.ensures.refused in
    let e : leaves c.from_residual.result (buffers c.args.work.now c.args.card.now) ≡ solved c.args.table.now c.args.work.now c.args.card.now = rw (p.1, p.2) gave in
    record { determined = e; promised = promised c.args.table.now c.args.work.now c.args.card.now _ _ _ e }

pub set_count-need-requires : goal.set_count-need-requires
set_count-need-requires c =
    let table : List ℕ = c.in_ok-accepted.accepted.table.words.now in
    subst (λ (m : ℕ). m ≤ max_states) (sym c.states.ensures) (few_states table (sized table c.in_ok-accepted.accepted.checked))

pub overflow_mul-need : goal.overflow_mul-need
overflow_mul-need c =
    let table : List ℕ = c.in_ok-accepted.accepted.table.words.now in
    omega (arith, size_is (game table) c.states.result c.set_count-need.result c.states.ensures c.set_count-need.ensures, few_sets table (sized table c.in_ok-accepted.accepted.checked))

pub returns-then-work-need : goal.returns-then-work-need
returns-then-work-need c =
    let same = ap (λ b. b.now) c.in_ok-accepted.ensures.table in
    let table : List ℕ = c.in_ok-accepted.accepted.table.words.now in
    let fine : checked table ≡ Ok tt = c.in_ok-accepted.accepted.checked in
    let need_is : 4 * c.set_count-need.result ≡ work_words (game table).states = ap (λ (n : ℕ). 4 * n) (size_is (game table) c.states.result c.set_count-need.result c.states.ensures c.set_count-need.ensures) in
    let e : leaves (Err c.at.result) (buffers c.args.work.now c.args.card.now) ≡ solved c.args.table.now c.args.work.now c.args.card.now = rw (c.at.ensures, sym same) (solved_short table c.args.work.now c.args.card.now fine _ need_is c.if-work-need.true) in
    record { determined = e; promised = promised c.args.table.now c.args.work.now c.args.card.now _ _ _ e }

pub returns : goal.returns
returns c =
    let same = ap (λ b. b.now) c.in_ok-accepted.ensures.table in
    let table : List ℕ = c.in_ok-accepted.accepted.table.words.now in
    let fine : checked table ≡ Ok tt = c.in_ok-accepted.accepted.checked in
    let need_is : 4 * c.set_count-need.result ≡ work_words (game table).states = ap (λ (n : ℕ). 4 * n) (size_is (game table) c.states.result c.set_count-need.result c.states.ensures c.set_count-need.ensures) in
    let e : leaves c.decide-answer.result (buffers c.fill.new.d c.decide-answer.new.card) ≡ solved c.args.table.now c.args.work.now c.args.card.now = rw (sym same) (solved_done table c.args.work.now c.args.card.now fine _ need_is c.if-work-need.false c.decide-answer.result c.fill.new.d c.decide-answer.new.card c.decide-answer.ensures
    (cleared _ c.decide-answer.new.work c.args.work.now _ c.decide-answer.auto.work c.if-work-need.false c.fill.ensures)) in
    record { determined = e; promised = promised c.args.table.now c.args.work.now c.args.card.now _ _ _ e }
