-- `search::settle` meets its contract. The loop's invariant: the family's bits are those of the sets that are good for k; no start set
-- was lost so far, and the families were never the same. (The third part: the words are machine words, so that those that differ differ in a set.)
use mathlib.Core.Path.{◌≡◌}
use Prim.Native.Nat.{ℕ, ◌-◌, ◌≤◌, ◌<◌, ◌^◌}
use lib.ListN.{length, get_or}
use Rattle.games.specs.Format.{max_sets}
use Rattle.games.specs.Words.{game}
use Rattle.search.specs.Found.{Reached}
use Rattle.search.proofs.settle.Given as goal

abbrev pub invariant-loop-k : goal.invariant-loop-k
invariant-loop-k l = (2 ^ (game l.moves.accepted.table.words.now).states ≤ max_sets) × (length l.next ≡ length l.family) × ((j : ℕ) → get_or l.family j 0 < 2 ^ 64) × Reached (game l.moves.accepted.table.words.now) l.k l.family

abbrev pub decreases-loop-k : goal.decreases-loop-k
decreases-loop-k l = 2 ^ (game l.moves.accepted.table.words.now).states - l.k
