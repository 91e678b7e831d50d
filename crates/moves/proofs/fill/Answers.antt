-- `moves::fill` meets its contract: the two sides are those of the states below the split and of the states from it on.
use mathlib.Core.Path.{ap, ◌∙◌, subst}
use Prim.Native.Nat.{ℕ, ◌-◌, min}
use native.Mathlib.Omega.{arith}
use Rattle.games.specs.Words.{game}
use Rattle.moves.specs.Halves.{Sided, half_states}
use Rattle.tables.proofs.Bounds.{few_states}
use Rattle.moves.proofs.Halving.{sides_tabled}
use Rattle.moves.proofs.fill.Goals as goal

pub fill_side-requires-2 : goal.fill_side-requires-2
fill_side-requires-2 c = (c.requires.1, omega arith, omega (arith, few_states c.args.table.words.now c.args.table.sized))

pub returns : goal.returns
returns c =
    sides_tabled (game c.args.table.words.now) c.low_states-split.result c.fill_side.new.side c.fill_side-2.new.side (few_states c.args.table.words.now c.args.table.sized) (c.low_states-split.ensures ∙ ap (λ (x : ℕ). min x half_states) c.states-n.ensures) c.fill_side.ensures
    (subst (λ (x : ℕ). Sided (game c.args.table.words.now) c.low_states-split.result (x - c.low_states-split.result) (game c.args.table.words.now).actions c.fill_side-2.new.side) c.states-n.ensures c.fill_side-2.ensures)
