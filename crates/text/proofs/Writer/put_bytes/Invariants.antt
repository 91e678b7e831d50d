-- `text::Writer::put_bytes` meets its contract: before each turn the bytes of s so far are written.
use lib.ListN.{take}
use Rattle.text.specs.Puts.{Puts}
use Rattle.text.proofs.Writer.put_bytes.Given as goal

abbrev pub invariant-loop-b : goal.invariant-loop-b
invariant-loop-b l = Puts (take l.b-index l.s) l.initial.self l.self
