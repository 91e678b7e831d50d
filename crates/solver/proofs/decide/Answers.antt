-- `solver::decide` meets its contract: there is room for the lanes of the table's sets, and the search's tables are filled.
use mathlib.Core.Path.{sym, ◌∙◌, subst}
use Prim.Native.Nat.{ℕ, ◌≤◌}
use Rattle.games.specs.Format.{max_states}
use Rattle.tables.proofs.Bounds.{few_states}
use Rattle.solver.proofs.Room.{lanes_within, lanes_front, lanes_taken}
use Rattle.solver.proofs.decide.Goals as goal

pub lane_count-lanes-requires : goal.lane_count-lanes-requires
lane_count-lanes-requires c = subst (λ (m : ℕ). m ≤ max_states) (sym c.states.ensures) (few_states c.args.accepted.table.words.now c.args.accepted.table.sized)

pub slice_bounds-family-end : goal.slice_bounds-family-end
slice_bounds-family-end c = lanes_within _ c.args.accepted.table.sized _ _ c.states.ensures c.lane_count-lanes.ensures _ c.filled-family.ensures

pub slice_bounds-answer_with-end : goal.slice_bounds-answer_with-end
slice_bounds-answer_with-end c = lanes_front _ c.args.accepted.table.sized _ _ c.states.ensures c.lane_count-lanes.ensures _ c.filled-family.ensures

pub slice_bounds-next-end : goal.slice_bounds-next-end
slice_bounds-next-end c = lanes_within _ c.args.accepted.table.sized _ _ c.states.ensures c.lane_count-lanes.ensures _ c.filled-next.ensures

pub slice_bounds-answer_with-end-2 : goal.slice_bounds-answer_with-end-2
slice_bounds-answer_with-end-2 c = lanes_front _ c.args.accepted.table.sized _ _ c.states.ensures c.lane_count-lanes.ensures _ c.filled-next.ensures

pub answer_with-requires : goal.answer_with-requires
answer_with-requires c =
    let first = lanes_taken _ c.args.accepted.table.sized _ _ c.states.ensures c.lane_count-lanes.ensures _ c.filled-family.ensures in
    (first, lanes_taken _ c.args.accepted.table.sized _ _ c.states.ensures c.lane_count-lanes.ensures _ c.filled-next.ensures ∙ sym first, c.requires)
