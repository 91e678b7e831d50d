-- `trimmer::write_marked` meets its contract: all cells are kept, and the card is the trimmed one; else what `write_trimmed` ensures.
use mathlib.Core.Path.{◌≡◌, sym, ap, ◌∙◌, subst}
use mathlib.Core.List.{List, ◌++◌}
use Prim.Native.Nat.{ℕ, ◌≤◌}
use native.Mathlib.Omega.{arith}
use lib.ListN.{length, drop}
use Rattle.cards.specs.Card.{card_observations, automaton}
use Rattle.cards.proofs.Checked.{fitting}
use Rattle.cards.proofs.Running.{size_of}
use Rattle.trimming.specs.Trim.{trimmed}
use Rattle.trimming.proofs.Twice.{full_trimmed}
use Rattle.trimmer.proofs.Numbering.{numbered_new}
use Rattle.trimmer.proofs.write_marked.Goals as goal

pub copy-requires : goal.copy-requires
copy-requires c =
    let words : List ℕ = c.args.card.words.now in
    let same : trimmed words ≡ words = let w = words in
    full_trimmed w c.args.card.checked (sym c.requires.0.many ∙ c.if-kept-cells.true ∙ c.cells.ensures ∙ sym (size_of w)) in
    subst (λ (w : List ℕ). length w ≤ length c.args.out.now) same c.requires.1

pub returns-then-kept-cells : goal.returns-then-kept-cells
returns-then-kept-cells c =
    let words : List ℕ = c.args.card.words.now in
    let same : trimmed words ≡ words = let w = words in
    full_trimmed w c.args.card.checked (sym c.requires.0.many ∙ c.if-kept-cells.true ∙ c.cells.ensures ∙ sym (size_of w)) in
    c.copy.ensures ∙ ap (λ (w : List ℕ). w ++ drop (length w) c.args.out.now) (sym same)

pub number-requires : goal.number-requires
number-requires c = omega (arith, c.requires.0.size, (fitting c.args.card.words.now c.args.card.checked).cells)

pub write_trimmed-requires : goal.write_trimmed-requires
write_trimmed-requires c = (
  numbered_new (automaton c.args.card.words.now) (card_observations c.args.card.words.now) c.args.kept c.args.work.now c.number.new.work (fitting c.args.card.words.now c.args.card.checked).cells c.requires.0 c.number.ensures,
  c.requires.0.many,
  c.requires.1,
)
