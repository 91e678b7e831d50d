-- `moves::post` meets its contract: the two entries united are the marked successors of the set, and only a mark is so large.
use mathlib.Core.Path.{◌∙◌}
use native.Mathlib.Omega.{arith}
use Rattle.games.specs.Words.{game}
use Rattle.tables.proofs.Checks.{accepted}
use Rattle.tables.proofs.Bounds.{few_actions, few_states}
use Rattle.moves.proofs.Halving.{high_small, posted_is}
use Rattle.moves.proofs.Moves.post.Goals as goal

pub overflow_mul-at : goal.overflow_mul-at
overflow_mul-at c = omega (arith, few_actions c.args.self.accepted.table.words.now c.args.self.accepted.table.sized, c.requires.1)

pub bounds-self-at : goal.bounds-self-at
bounds-self-at c = omega (arith, few_actions c.args.self.accepted.table.words.now c.args.self.accepted.table.sized, c.requires.1, c.args.self.tabled.low_size)

pub bounds-self-at-2 : goal.bounds-self-at-2
bounds-self-at-2 c = omega (arith, few_actions c.args.self.accepted.table.words.now c.args.self.accepted.table.sized, c.requires.1, c.args.self.tabled.high_size, high_small c.args.self.accepted.table.words.now c.args.self.accepted.checked c.args.s c.requires.0)

pub returns : goal.returns
returns c = c.then_some.ensures ∙ posted_is (game c.args.self.accepted.table.words.now) (accepted c.args.self.accepted.table.words.now c.args.self.accepted.checked) (few_states c.args.self.accepted.table.words.now c.args.self.accepted.table.sized) c.args.s c.args.a.0 c.requires.1 _ (c.args.self.tabled.at c.args.a.0 c.args.s c.requires.1 c.requires.0)
