-- `search::has_start` meets its contract: a start set is a set of the states.
use Rattle.families.proofs.Lanes.{lane_there}
use Rattle.games.specs.Verdict.{start_set}
use Rattle.games.specs.Words.{game}
use Rattle.games.proofs.Starts.{start_below}
use Rattle.tables.proofs.Checks.{accepted}
use Rattle.search.proofs.has_start.Goals as goal

pub has-requires : goal.has-requires
has-requires c =
    let g = game c.args.accepted.table.words.now in
    rw (c.requires.0, c.start_set.ensures) (lane_there g.states (start_set g c.args.j.0) (start_below g (accepted c.args.accepted.table.words.now c.args.accepted.checked) c.args.j.0))
