use mathlib.Core.Path.{◌≡◌, sym, ap, ◌∙◌, subst, subst₂}
use mathlib.Core.Bool.{true, false}
use mathlib.Core.List.{List}
use Prim.Native.Nat.{ℕ, ◌+◌, ◌≤◌, ◌<◌}
use native.Mathlib.Omega.{arith}
use lib.ListN.{length}
use Rattle.trimmer.specs.Halves.{half_values, marked, put_upper}
use Rattle.trimmer.proofs.Halves.{marks, no_mark, put_lower_length}
use Rattle.trimmer.proofs.Numbering.{Counting, counting_none, counting_few, counting_skip, counting_more, counting_end}
use Rattle.trimmer.proofs.number.Goals as goal
use Rattle.trimmer.proofs.number.Goals.{then-lower-gt0, else-lower-gt0}

pub loop-c-init : goal.loop-c-init
loop-c-init c = counting_none _

pub overflow_cast-kept : goal.overflow_cast-kept
overflow_cast-kept c = omega (arith, c.loop-c-test.true, counting_few _ _ _ _ c.loop-c.invariant, c.requires)

pub put_lower-requires : goal.put_lower-requires
put_lower-requires c = (omega (arith, c.loop-c-test.true, c.loop-c.invariant.same), omega (arith, c.loop-c-test.true, counting_few _ _ _ _ c.loop-c.invariant, c.requires))

pub put_upper-requires : goal.put_upper-requires
put_upper-requires c =
    let behind : c.loop-c.kept ≤ c.loop-c.c = counting_few _ c.loop-c.c c.loop-c.kept c.loop-c.work c.loop-c.invariant in (
      subst (λ (l : List ℕ). c.loop-c.kept < length l) (sym c.put_lower.ensures)
          (omega (arith, put_lower_length c.loop-c.work c.loop-c.c c.loop-c.kept, c.loop-c-test.true, c.loop-c.invariant.same, behind)),
      omega (arith, c.loop-c-test.true, c.requires),
    )

pub overflow_add-kept : goal.overflow_add-kept
overflow_add-kept c = omega (arith, c.loop-c-test.true, counting_few _ _ _ _ c.loop-c.invariant, c.requires)

pub loop-c-preserved : goal.loop-c-preserved
loop-c-preserved c =
    let entry : List ℕ = c.args.work.now in
    let few : length c.loop-c.work ≤ half_values = omega (arith, c.loop-c.invariant.same, c.requires) in
    let inside : c.loop-c.c < length c.loop-c.work = omega (arith, c.loop-c-test.true, c.loop-c.invariant.same) in
    let is_marked : 0 < c.lower.result → marked entry c.loop-c.c ≡ true = λ l. marks _ _ (omega (arith, l, c.lower.ensures, c.loop-c.invariant.ahead c.loop-c.c (omega arith))) in
    let no_marked : c.lower.result ≤ 0 → marked entry c.loop-c.c ≡ false = λ l. no_mark _ _ (omega (arith, l, c.lower.ensures, c.loop-c.invariant.ahead c.loop-c.c (omega arith))) in
    elim c.if-lower-gt0.branch [
      | then-lower-gt0 w ↦ subst₂ (λ (u : List ℕ) (k : ℕ). Counting entry (c.loop-c.c + 1) k u)
          (sym (w.work-is ∙ w.put_upper.ensures ∙ ap (λ (u : List ℕ). put_upper u c.loop-c.kept c.loop-c.c) w.put_lower.ensures)) (sym w.kept-is)
          (counting_more entry c.loop-c.c c.loop-c.kept c.loop-c.work c.loop-c.invariant (is_marked w.if-lower-gt0.true) inside few)
      | else-lower-gt0 w ↦ subst₂ (λ (u : List ℕ) (k : ℕ). Counting entry (c.loop-c.c + 1) k u) (sym w.work-is) (sym w.kept-is)
          (counting_skip entry c.loop-c.c c.loop-c.kept c.loop-c.work c.loop-c.invariant (no_marked w.if-lower-gt0.false))
    ]

pub returns : goal.returns
returns c = counting_end c.args.work.now c.loop-c.c c.loop-c.kept c.loop-c.work c.loop-c.invariant c.loop-c.auto.c-end c.loop-c-test.false
