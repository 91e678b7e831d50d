-- `printout::put_line` meets its contract: before each turn the word and the fields so far are written.
use Prim.Native.Nat.{◌+◌, ◌*◌, ◌≤◌}
use lib.ListN.{length, take}
use Rattle.text.specs.Puts.{Puts}
use Rattle.printout.specs.Lines.{field_bytes}
use Rattle.printout.specs.Fields.{with_fields}
use Rattle.printout.proofs.put_line.Given as goal

abbrev pub invariant-loop-field : goal.invariant-loop-field
invariant-loop-field l =
    Puts (with_fields l.word (take l.field-index l.fields)) l.fn.out l.out
    × (l.out.at ≤ l.fn.out.at + length l.word + l.field-index * field_bytes)
