-- `search::Round::action_meets` meets its contract: by what `post` answers.
use mathlib.Core.Path.{◌∙◌}
use Rattle.families.specs.Bits.{has}
use Rattle.games.specs.Words.{game}
use Rattle.tables.proofs.Checks.{accepted}
use Rattle.moves.proofs.Posting.{posted_below, meets_blocked, meets_shown}
use Rattle.search.proofs.Round.action_meets.Goals as goal

pub returns-in_default : goal.returns-in_default
returns-in_default c = meets_blocked (game c.args.self.moves.accepted.table.words.now) (has c.args.self.family.now) c.args.s c.args.a.0 c.post.result c.post.ensures c.in_default.is

pub shown_in-requires : goal.shown_in-requires
shown_in-requires c = posted_below (game c.args.self.moves.accepted.table.words.now) (accepted c.args.self.moves.accepted.table.words.now c.args.self.moves.accepted.checked) c.args.s c.args.a.0 c.requires.1 c.post.result c.post.ensures c.in-Some.u c.in-Some.is

pub returns : goal.returns
returns c =
    c.shown_in.ensures
    ∙ meets_shown (game c.args.self.moves.accepted.table.words.now) (has c.args.self.family.now) c.args.s c.args.a.0 c.post.result c.post.ensures c.in-Some.u c.in-Some.is
