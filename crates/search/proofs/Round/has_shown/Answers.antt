-- `search::Round::has_shown` meets its contract: the part of u is a set of the states.
use Rattle.sets.specs.Mask.{common}
use Rattle.families.proofs.Lanes.{lane_there}
use Rattle.games.specs.Words.{game}
use Rattle.tables.proofs.Checks.{accepted}
use Rattle.games.proofs.Steps.{shown_below}
use Rattle.search.proofs.Round.has_shown.Goals as goal

pub has-requires : goal.has-requires
has-requires c =
    let g = game c.args.self.moves.accepted.table.words.now in
    rw (c.args.self.stage.size, c.shown.ensures) (lane_there g.states (common c.args.u (g.shown c.args.j.0)) (shown_below g (accepted c.args.self.moves.accepted.table.words.now c.args.self.moves.accepted.checked) c.args.u c.args.j.0 c.requires.1))
