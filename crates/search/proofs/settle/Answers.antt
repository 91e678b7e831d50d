use mathlib.Core.Path.{◌≡◌, sym, ap, ◌∙◌, subst}
use Prim.Native.Nat.{ℕ, ◌+◌, ◌<◌, ◌^◌}
use native.Mathlib.Omega.{arith}
use lib.ListN.{length, get_or}
use Rattle.games.specs.Words.{game}
use Rattle.tables.proofs.Checks.{accepted}
use Rattle.search.specs.Found.{Reached}
use Rattle.tables.proofs.Bounds.{few_sets}
use Rattle.search.proofs.Searching.{good_stage, searching_bound, turn_lost, turn_settled, turn_on}
use Rattle.search.proofs.Passes.{same_true, same_false}
use Rattle.search.proofs.settle.Goals as goal

pub loop-k-init : goal.loop-k-init
loop-k-init c = (few_sets c.args.moves.accepted.table.words.now c.args.moves.accepted.table.sized, c.requires.1, λ j. omega (arith, c.type_inv.family j), c.requires.0)

pub invariant_of-pass : goal.invariant_of-pass
invariant_of-pass c = record { stage = good_stage (game c.args.moves.accepted.table.words.now) (accepted c.args.moves.accepted.table.words.now c.args.moves.accepted.checked) c.loop-k.k c.loop-k.family c.loop-k.invariant.3.family }

pub overflow_add-round : goal.overflow_add-round
overflow_add-round c = omega (arith, c.loop-k.invariant.0, searching_bound (game c.args.moves.accepted.table.words.now) (accepted c.args.moves.accepted.table.words.now c.args.moves.accepted.checked) c.loop-k.k c.loop-k.family c.loop-k.invariant.3)

pub returns-then-not-starts_in : goal.returns-then-not-starts_in
returns-then-not-starts_in c = turn_lost (game c.args.moves.accepted.table.words.now) (accepted c.args.moves.accepted.table.words.now c.args.moves.accepted.checked) c.loop-k.k c.loop-k.family c.loop-k.invariant.3 c.pass.new.next c.pass.ensures (sym c.starts_in.ensures ∙ c.if-not-starts_in.true)

pub returns-then-eq : goal.returns-then-eq
returns-then-eq c = turn_settled (game c.args.moves.accepted.table.words.now) (accepted c.args.moves.accepted.table.words.now c.args.moves.accepted.checked) c.loop-k.k c.loop-k.family c.loop-k.invariant.3 c.pass.new.next c.pass.ensures (same_true _ _ c.eq.result c.eq.ensures c.if-eq.true)

pub loop-k-smaller : goal.loop-k-smaller
loop-k-smaller c = omega (arith, searching_bound (game c.args.moves.accepted.table.words.now) (accepted c.args.moves.accepted.table.words.now c.args.moves.accepted.checked) c.loop-k.k c.loop-k.family c.loop-k.invariant.3)

pub loop-k-preserved : goal.loop-k-preserved
loop-k-preserved c =
    let e : c.copy_from_slice.new.self ≡ c.pass.new.next = c.copy_from_slice.ensures.after in
    let words : (j : ℕ) → get_or c.copy_from_slice.new.self j 0 < 2 ^ 64 = λ j. omega (arith, c.type_inv.family j) in (
      c.loop-k.invariant.0,
      ap length (sym e),
      words,
      subst (Reached (game c.args.moves.accepted.table.words.now) (c.loop-k.k + 1)) (sym e)
          (turn_on (game c.args.moves.accepted.table.words.now) (accepted c.args.moves.accepted.table.words.now c.args.moves.accepted.checked) c.loop-k.k c.loop-k.family c.loop-k.invariant.3 c.pass.new.next c.pass.ensures (sym c.starts_in.ensures ∙ c.if-not-starts_in.false)
          (same_false _ _ c.eq.result c.eq.ensures (sym (c.pass.ensures.size ∙ sym c.loop-k.invariant.3.family.size)) c.loop-k.invariant.2 (λ j. rw e at words j) c.if-eq.false)),
    )
