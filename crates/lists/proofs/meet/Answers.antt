-- `lists::meet` meets its contract: what `combine` leaves, in plain words.
use Rattle.sets.specs.Family.{meet}
use Rattle.lists.specs.Plain.{OfBoth}
use Rattle.lists.proofs.Plain.{left_plain, meet_plain}
use Rattle.lists.proofs.meet.Goals as goal

pub returns-clause-plain : goal.returns-clause-plain
returns-clause-plain c =
    left_plain (meet c.args.n) OfBoth c.args.n c.args.first.now c.args.second.now c.args.out.now (meet_plain c.args.n c.args.first.now c.args.second.now)
    c.combine.result c.combine.new.out c.combine.ensures
