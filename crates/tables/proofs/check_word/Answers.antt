-- `tables::check_word` meets its contract: 4 before 5.
use mathlib.Core.Path.{◌≡◌, sym, ap, ◌∙◌}
use Prim.Native.Nat.{◌^◌}
use native.Mathlib.Omega.{arith}
use borrow.Author.Tests.{le-leb, lt-leb}
use Rattle.games.specs.declared.Shape.{Shape}
use Rattle.tables.specs.Layout.{shape_in}
use Rattle.tables.proofs.Checks.{word_misplaced, word_wide, word_fine}
use Rattle.tables.proofs.check_word.Goals as goal

pub returns-then-not-is_placed : goal.returns-then-not-is_placed
returns-then-not-is_placed c = rw c.at.ensures (sym (word_misplaced _ _ c.requires.0 (sym c.is_placed.ensures ∙ c.if-not-is_placed.true)))

pub returns-then-single-low_field : goal.returns-then-single-low_field
returns-then-single-low_field c =
    let full : c.single.result ≡ 2 ^ (shape_in c.args.table.words.now).states = c.single.ensures ∙ ap (λ (s : Shape). 2 ^ s.states) c.shape.ensures in
    rw c.at-then-single-low_field.ensures
    (sym (word_wide _ _ c.requires.0 (sym c.is_placed.ensures ∙ c.if-not-is_placed.false) (le-leb _ _ (omega (arith, full, c.low_field.ensures)))))

pub returns : goal.returns
returns c =
    let full : c.single.result ≡ 2 ^ (shape_in c.args.table.words.now).states = c.single.ensures ∙ ap (λ (s : Shape). 2 ^ s.states) c.shape.ensures in
    sym (word_fine _ _ c.requires.0 (sym c.is_placed.ensures ∙ c.if-not-is_placed.false) (lt-leb _ _ (omega (arith, full, c.low_field.ensures))))
