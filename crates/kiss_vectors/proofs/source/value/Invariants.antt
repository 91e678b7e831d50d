-- `source::value` meets its contract. The loop's invariant: what i columns hold, which leaves room for the digits to come.
use Rattle.std.proofs.Common.{◌≡◌, ◌<◌, ◌^◌}
use Rattle.kiss_vectors.specs.Input.{value}
use Rattle.kiss_vectors.proofs.source.value.Given as goal

abbrev pub invariant-loop-i : goal.invariant-loop-i
invariant-loop-i l = (l.value ≡ value l.radix l.i l.columns) × (l.value < 16 ^ l.i)
