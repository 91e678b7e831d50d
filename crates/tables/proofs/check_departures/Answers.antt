-- `tables::check_departures` meets its contract: the moves lie in the table, and its move words are the moves.
use mathlib.Core.Path.{◌∙◌}
use Rattle.tables.proofs.Same.{table_parked}
use Rattle.tables.proofs.check_departures.Goals as goal

pub returns : goal.returns
returns c = rw c.move_words.ensures at c.check.ensures ∙ table_parked c.args.table.words.now c.args.table.sized _ _ c.sizes.ensures c.parked.ensures
