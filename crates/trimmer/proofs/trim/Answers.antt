-- `trimmer::trim` meets its contract: a refusal of the card, 8, or what `trim_into` ensures; the promise follows from the outcome.
use mathlib.Core.Path.{◌≡◌, ap}
use mathlib.Core.List.{List, ◌++◌}
use Prim.Native.Nat.{ℕ}
use borrow.Author.Rules.{rules}
use lib.ListN.{drop, replicate}
use Rattle.sets.proofs.Fills.{cleared}
use Rattle.trimmer.proofs.Answers.{trim_stopped, trim_short, trim_done, refused_trims, room_trims}
use Rattle.std.proofs.lemmas.Result.{err_from_is_err_and}
use Rattle.trimmer.proofs.trim.Goals as goal

pub returns-in_err-card : goal.returns-in_err-card
returns-in_err-card c =
    let p = err_from_is_err_and c.from_residual.result c.from_residual.ensures.1 in
    rw (p.1, p.2) (record {
      determined = trim_stopped c.args.card.now c.args.work.now c.args.out.now _ _ c.in_err-card.ensures.refused;
      promised = refused_trims c.args.card.now _ _ _;
    })

pub returns-then-work-need : goal.returns-then-work-need
returns-then-work-need c =
    let fine = rw c.in_ok-card.ensures.card at c.in_ok-card.card.checked in
    let need = rw c.in_ok-card.ensures.card at c.cells-need.ensures in
    rw c.at.ensures (record {
      determined = trim_short c.args.card.now c.args.work.now c.args.out.now fine _ need c.if-work-need.true;
      promised = refused_trims c.args.card.now _ _ _;
    })

pub returns : goal.returns
returns c =
    let fine = rw c.in_ok-card.ensures.card at c.in_ok-card.card.checked in
    let need = rw c.in_ok-card.ensures.card at c.cells-need.ensures in
    let done = rw c.in_ok-card.ensures.card at c.trim_into-answer.ensures in
    let zeros : c.fill.new.self ≡ replicate c.cells-need.result 0 = search rules in
    record {
      determined = trim_done c.args.card.now c.args.work.now c.args.out.now fine _ need c.if-work-need.false c.trim_into-answer.result _ c.trim_into-answer.new.out done
          (cleared _ c.trim_into-answer.new.work c.args.work.now _ c.trim_into-answer.auto.work c.if-work-need.false
          (ap (λ (l : List ℕ). l ++ drop c.cells-need.result (c.trim_into-answer.new.work ++ drop c.cells-need.result c.args.work.now)) zeros));
      promised = room_trims c.args.card.now c.args.out.now fine c.trim_into-answer.result c.trim_into-answer.new.out done;
    }
