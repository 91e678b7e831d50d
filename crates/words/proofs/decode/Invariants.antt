-- `words::decode` meets its contract: before each turn the words below i are those of the bytes.
use mathlib.Core.Path.{◌≡◌}
use lib.ListN.{length, take}
use Rattle.words.specs.Bytes.{words_of}
use Rattle.words.proofs.decode.Given as goal

abbrev pub invariant-loop-i : goal.invariant-loop-i
invariant-loop-i l = (length l.words ≡ length l.initial.words) × (take l.i l.words ≡ words_of l.i l.bytes)
