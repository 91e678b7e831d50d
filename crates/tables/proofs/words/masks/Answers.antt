use mathlib.Core.Path.{◌≡◌, sym, ap, ap₂, ◌∙◌}
use mathlib.Core.List.{List}
use Prim.Native.Nat.{ℕ}
use native.Mathlib.Omega.{arith}
use lib.ListN.{length, get_or, set}
use Rattle.std.proofs.lemmas.List.{length-replicate}
use Rattle.sets.proofs.Fills.{filled_none, filled_more}
use Rattle.games.specs.Fields.{low_field}
use Rattle.tables.specs.Fields.{masks_from}
use Rattle.tables.proofs.Checks.{from_front}
use Rattle.tables.proofs.words.masks.Goals as goal

pub loop-i-init : goal.loop-i-init
loop-i-init g c = filled_none (masks_from c.args.words.now 0) c.filled-slots.result

pub loop-i-preserved : goal.loop-i-preserved
loop-i-preserved g c =
    let f = masks_from c.args.words.now 0 in
    let mask : c.low_field.result ≡ f c.loop-i.i = c.low_field.ensures ∙ ap (λ (p : ℕ). low_field (get_or c.args.words.now p 0)) (sym (from_front c.loop-i.i)) in
    let long : length c.filled-slots.result ≡ g.row.N = ap length c.filled-slots.ensures ∙ length-replicate g.row.N 0 in
    ap₂ (λ (l : List ℕ) (x : ℕ). set l c.loop-i.i x) c.loop-i.invariant mask ∙ filled_more f c.loop-i.i c.filled-slots.result (omega (arith, long, c.requires))
