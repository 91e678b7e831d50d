use mathlib.Core.Path.{refl, sym, ◌∙◌}
use native.Mathlib.Omega.{arith}
use Rattle.cards.proofs.Checked.{fitting}
use Rattle.kiss.specs.Text.{state_text}
use Rattle.kiss_writer.proofs.Rows.{counted_none, counted_more, counted_skip, counted_all}
use Rattle.kiss_writer.proofs.Lines.{slot_none, slot_long, some_entered, none_entered, line_short}
use Rattle.kiss_writer.proofs.Sheet.state_length.Goals as goal
use Rattle.kiss_writer.proofs.Sheet.state_length.Goals.{then-is_some, else-is_some}

pub loop-observation-init : goal.loop-observation-init
loop-observation-init c = counted_none _ _

pub loop-observation-preserved : goal.loop-observation-preserved
loop-observation-preserved c =
    elim c.if-is_some.branch [
      | then-is_some w ↦
          rw w.bytes-is
          (counted_more _ _ _ _ c.loop-observation.invariant _
          (c.requires.1 ∙ sym (slot_long c.args.self.card.words.now _ _ _ refl (some_entered c.args.self.card.words.now _ _ _ c.entered.ensures (cc))))
          (line_short c.args.self.card.words.now c.args.self.card.checked c.args.state _ c.requires.1))
      | else-is_some w ↦
          rw w.bytes-is
          (counted_skip _ _ _ _ c.loop-observation.invariant
          (slot_none c.args.self.card.words.now _ _ _ refl (none_entered c.args.self.card.words.now _ _ _ c.entered.ensures (cc))))
    ]

pub returns : goal.returns
unfolding state_text
returns c =
    let all = counted_all _ _ _ _ c.loop-observation.invariant _ _ c.observations-observation-end.ensures c.loop-observation.auto.observation-end c.loop-observation-test.false in
    (all.0, omega (arith, all.1, (fitting c.args.self.card.words.now c.args.self.card.checked).observations))
