use mathlib.Core.Path.{sym, ◌∙◌}
use Rattle.index.proofs.Climbing.{told_set, fits, found_tightest}
use Rattle.index.proofs.Cells.tightest.Goals as goal

pub in_layer-requires : goal.in_layer-requires
in_layer-requires c = fits c.args.self.tops.now c.args.t c.args.self.layers.now c.args.self.masks.now c.args.self.indexed.searched c.requires.0 c.loop-k.k

pub returns-in-Some : goal.returns-in-Some
returns-in-Some c = found_tightest c.args.self.tops.now c.args.t c.args.self.layers.now c.args.self.masks.now c.args.self.indexed.searched c.requires.0 c.loop-k.k c.loop-k.invariant _ (told_set _ _ (sym c.in_layer.ensures ∙ c.in-Some.is))
