-- `text::skip` meets its contract: before each turn the first i bytes of s stand at the place, and the rest of s is still to be matched there.
use mathlib.Core.Path.{◌≡◌}
use Prim.Native.Nat.{◌+◌, ◌≤◌, max}
use lib.ListN.{length, drop}
use Rattle.text.specs.Read.{matched}
use Rattle.text.proofs.skip.Given as goal

abbrev pub invariant-loop-i : goal.invariant-loop-i
invariant-loop-i l =
    (l.at + l.i ≤ max l.at (length l.text))
    × (matched l.s l.at (drop l.at l.text) ≡ matched (drop l.i l.s) (l.at + l.i) (drop (l.at + l.i) l.text))
