-- `solver::accept` meets its contract: the settled family's maximal sets are the cells, and they are noted in the work.
use mathlib.Core.List.{List}
use mathlib.Core.Path.{◌≡◌, refl, sym, ap, ◌∙◌, subst}
use Prim.Native.Nat.{ℕ, ◌^◌, ◌≤◌, ◌<◌}
use native.Mathlib.Omega.{arith}
use lib.ListN.{length, get_or, take}
use Rattle.families.specs.Bits.{max_lanes, sets}
use Rattle.families.proofs.Lanes.{few_lanes}
use Rattle.games.specs.Format.{max_states}
use Rattle.games.specs.Words.{game}
use Rattle.tables.proofs.Checks.{accepted}
use Rattle.tables.proofs.Bounds.{few_states, few_sets}
use Rattle.index.proofs.Settled.{cells_few, cell_below, settled_index}
use Rattle.index.specs.Index.{Layers}
use Rattle.index.proofs.Sizes.{has_small, listed_has}
use Rattle.solver.proofs.Collecting.{settled_closed, cells_listed}
use Rattle.solver.proofs.accept.Goals as goal

pub maximal_bits-requires : goal.maximal_bits-requires
maximal_bits-requires c = (settled_closed (game c.args.moves.accepted.table.words.now) c.args.family.now c.requires.0 c.states-n.result c.states-n.ensures (accepted c.args.moves.accepted.table.words.now c.args.moves.accepted.checked) (few_states c.args.moves.accepted.table.words.now c.args.moves.accepted.table.sized), c.requires.1)

pub set_count-base-requires : goal.set_count-base-requires
set_count-base-requires c = subst (λ (n : ℕ). n ≤ max_states) (sym c.states-n.ensures) (few_states c.args.moves.accepted.table.words.now c.args.moves.accepted.table.sized)

pub note_cells-count-requires : goal.note_cells-count-requires
note_cells-count-requires c =
    let tops_are = cells_listed (game c.args.moves.accepted.table.words.now) c.args.family.now c.requires.0 c.states-n.result c.states-n.ensures c.maximal_bits.new.found c.maximal_bits.ensures.1 in
    let base_is = c.set_count-base.ensures ∙ ap (λ (n : ℕ). 2 ^ n) c.states-n.ensures in
    record {
      room = omega (arith, base_is, c.requires.2);
      few = omega (arith, base_is, ap length tops_are, cells_few (game c.args.moves.accepted.table.words.now));
      small = omega (arith, base_is, few_sets c.args.moves.accepted.table.words.now c.args.moves.accepted.table.sized);
      few_lanes = few_lanes (game c.args.moves.accepted.table.words.now).states _ (few_states c.args.moves.accepted.table.words.now c.args.moves.accepted.table.sized) (c.maximal_bits.ensures.0 ∙ c.requires.1 ∙ c.requires.0.size);
      below = λ v h. rw base_is (cell_below (game c.args.moves.accepted.table.words.now) _ tops_are v h);
    }

pub mark_layers-requires : goal.mark_layers-requires
mark_layers-requires c =
    let topped : List ℕ = c.maximal_bits.new.found in
    let lanes_few : length topped ≤ max_lanes = few_lanes (game c.args.moves.accepted.table.words.now).states topped (few_states c.args.moves.accepted.table.words.now c.args.moves.accepted.table.sized) (c.maximal_bits.ensures.0 ∙ c.requires.1 ∙ c.requires.0.size) in
    let front_is : take c.note_cells-count.result c.note_cells-count.new.work ≡ sets topped = ap (λ (n : ℕ). take n c.note_cells-count.new.work) c.note_cells-count.ensures.0 ∙ c.note_cells-count.ensures.1.front in (
      subst (λ (k : List ℕ). (i : ℕ) → i < length k → get_or k i 0 < 2 ^ max_states) (sym front_is) (λ i b. has_small topped lanes_few (get_or (sets topped) i 0) (listed_has topped i b)),
      refl,
    )

pub invariant_of-cells : goal.invariant_of-cells
invariant_of-cells c =
    let front_is = ap (λ (n : ℕ). take n c.note_cells-count.new.work) c.note_cells-count.ensures.0 ∙ c.note_cells-count.ensures.1.front in
    record {
      indexed =
          settled_index (game c.args.moves.accepted.table.words.now) (accepted c.args.moves.accepted.table.words.now c.args.moves.accepted.checked) c.args.family.now c.requires.0 (few_states c.args.moves.accepted.table.words.now c.args.moves.accepted.table.sized) _ _ _
          (cells_listed (game c.args.moves.accepted.table.words.now) c.args.family.now c.requires.0 c.states-n.result c.states-n.ensures c.maximal_bits.new.found c.maximal_bits.ensures.1) (c.maximal_bits.ensures.0 ∙ c.requires.1)
          (subst (λ (k : List ℕ). Layers k c.mark_layers.new.layers) front_is c.mark_layers.ensures) c.mark_masks.ensures;
    }

pub invariant_of-grant : goal.invariant_of-grant
invariant_of-grant c =
    record {
      listed = record {
        are = cells_listed (game c.args.moves.accepted.table.words.now) c.args.family.now c.requires.0 c.states-n.result c.states-n.ensures c.maximal_bits.new.found c.maximal_bits.ensures.1;
        wide = c.maximal_bits.ensures.0 ∙ c.requires.1 ∙ c.requires.0.size;
        all_sets = c.set_count-base.ensures ∙ ap (λ (n : ℕ). 2 ^ n) c.states-n.ensures;
      };
    }
