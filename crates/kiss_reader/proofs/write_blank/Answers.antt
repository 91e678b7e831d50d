use mathlib.Core.Path.{ap, ◌∙◌}
use Prim.Native.Nat.{ℕ}
use Rattle.games.specs.Format.{kind_next}
use Rattle.cards.proofs.Parts.{carded_more}
use Rattle.cards.proofs.Written.{cell_length}
use Rattle.kiss.specs.Profile.{blank}
use Rattle.kiss_reader.specs.Storing.{blank_row}
use Rattle.kiss_reader.proofs.Storing.{blank_part, blank_fronted, blank_written}
use Rattle.kiss_reader.proofs.write_blank.Goals as goal

pub loop-c-init : goal.loop-c-init
loop-c-init c = blank_fronted _ _ _ _ _ c.front_length-front.ensures c.heading-head.ensures c.args.words.now c.blank_row.new.row c.blank_row.ensures c.requires

pub loop-c-preserved : goal.loop-c-preserved
loop-c-preserved c =
    carded_more _ _ _ _ c.loop-c.c c.loop-c.words c.loop-c.invariant c.loop-c-test.true _ _ c.cell_place-at.ensures c.part_length-part.ensures c.blank_row-in-loop-c.new.row
    (c.blank_row-in-loop-c.ensures ∙ ap (λ (x : ℕ). blank_row kind_next x c.args.z.observations) c.picking-own.ensures ∙ blank_part c.args.z.cells c.args.z.observations c.loop-c.c)
    (cell_length (blank c.args.z.cells) c.args.z.actions c.args.z.observations c.loop-c.c)

pub returns : goal.returns
returns c = blank_written _ _ _ _ _ c.front_length-front.ensures c.heading-head.ensures c.args.words.now c.blank_row.new.row c.blank_row.ensures c.requires c.loop-c.c c.loop-c.words c.loop-c.invariant c.loop-c-test.false
