-- `lists::join` meets its contract: what `combine` leaves, in plain words.
use Rattle.sets.specs.Family.{join}
use Rattle.lists.specs.Plain.{OfEither}
use Rattle.lists.proofs.Plain.{left_plain, join_plain}
use Rattle.lists.proofs.join.Goals as goal

pub returns-clause-plain : goal.returns-clause-plain
returns-clause-plain c =
    left_plain (join c.args.n) OfEither c.args.n c.args.first.now c.args.second.now c.args.out.now (join_plain c.args.n c.args.first.now c.args.second.now)
    c.combine.result c.combine.new.out c.combine.ensures
