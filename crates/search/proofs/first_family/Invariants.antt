-- `search::first_family` meets its contract. The loop's invariant: the first a masks are those of the actions below a.
use mathlib.Core.Path.{◌≡◌}
use lib.ListN.{length}
use Rattle.games.specs.Format.{max_actions}
use Rattle.games.specs.Words.{game}
use Rattle.search.proofs.First.{ByAction}
use Rattle.search.proofs.first_family.Given as goal

abbrev pub invariant-loop-a : goal.invariant-loop-a
invariant-loop-a l = (length l.masks ≡ max_actions) × ByAction (game l.table.words.now) l.a l.masks
