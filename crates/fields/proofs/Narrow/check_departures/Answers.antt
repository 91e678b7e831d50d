-- `Narrow::check_departures` meets its contract: the moves fit their slots, and their masks have no kind.
use mathlib.Core.Path.{◌∙◌}
use Rattle.fields.proofs.Laws.{moves_parked}
use Rattle.fields.proofs.Narrow.check_departures.Goals as goal

pub returns : goal.returns
returns c = c.check.ensures ∙ moves_parked c.args.self.bounded.fields c.args.self.bounded.limited c.args.self.masks _ c.sizes.ensures
