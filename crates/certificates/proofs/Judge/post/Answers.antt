-- The half tables' answer, or the walk's without its number.
use Rattle.std.proofs.Common.{sym, ap, ◌∙◌}
use Rattle.games.specs.Words.{game}
use Rattle.moves.specs.Halves.{unnumbered}
use Rattle.moves.proofs.Posting.{as_walked}
use Rattle.certificates.proofs.Judge.post.Goals as goal

pub returns-in-None : goal.returns-in-None
returns-in-None c =
    c.ok.ensures.value ∙ ap unnumbered c.walk.ensures ∙ sym (as_walked (game c.args.self.pair.table.table.words.now) c.args.s c.args.a.0)
