-- `Lists::find` meets its contract: the maximal sets of what the lists hold are the list made.
use mathlib.Core.Path.{ap, ◌∙◌}
use mathlib.Core.List.{List}
use Prim.Native.Nat.{ℕ}
use borrow.Author.Rules.{rules}
use Rattle.lists.specs.Lists.{fitted}
use Rattle.lists.proofs.Merging.{held_closed, held_result}
use Rattle.lists.proofs.Lists.find.Goals as goal

pub maximal_bits-requires : goal.maximal_bits-requires
maximal_bits-requires g c =
    (held_closed g.C.Combination.keeps g.C.Combination.made g.met.C.Combination.laws c.args.self.n c.args.self.first.now c.args.self.second.now c.hold.new.a c.hold.ensures c.args.self.masks, search rules)

pub returns : goal.returns
returns g c =
    c.fit.ensures
    ∙ ap (λ (x : List ℕ). fitted x c.args.out.now)
    (c.maximal_bits.ensures.1
    ∙ held_result g.C.Combination.keeps g.C.Combination.made g.met.C.Combination.laws c.args.self.n c.args.self.first.now c.args.self.second.now c.hold.new.a c.hold.ensures c.args.self.masks)
