use Rattle.std.proofs.Common.{◌<◌, arith}
use Rattle.form.proofs.Bytes.{digit_there}
use Rattle.form.proofs.Values.{begun_none, begun_scaled, begun_more, begun_end}
use Rattle.form.proofs.value_at.Goals as goal

pub loop-b-init : goal.loop-b-init
loop-b-init c = begun_none _ _ _ _ c.requires

pub overflow_mul-v : goal.overflow_mul-v
overflow_mul-v c = omega (arith, begun_scaled _ _ _ _ _ _ c.loop-b.invariant c.args.n.binary_up c.args.n.decimal_down (omega (arith, c.args.n.counted, c.args.n.few)))

pub overflow_add-v : goal.overflow_add-v
overflow_add-v c =
    omega (arith, c.in_ok-v.ensures.1, c.args.n.decimal_down, begun_scaled _ _ _ _ _ _ c.loop-b.invariant c.args.n.binary_up c.args.n.decimal_down (omega (arith, c.args.n.counted, c.args.n.few)))

pub loop-b-preserved : goal.loop-b-preserved
loop-b-preserved c =
    let part = c.in_ok-b-items.ensures.lookup.0 in
    let more : c.loop-b.b-index < c.args.n.width = omega (arith, c.loop-b-test.true, part.3) in
    begun_more _ _ _ _ _ _ _ c.loop-b.invariant more c.in_ok-v.ensures.1 c.args.n.decimal_down
    (digit_there _ _ _ _ _ _ part.2 part.1 more c.in_ok-v.ensures.0)

pub returns : goal.returns
returns c = let part = c.in_ok-b-items.ensures.lookup.0 in begun_end _ _ _ _ _ _ c.loop-b.invariant (omega (arith, c.loop-b-test.false, part.3))
