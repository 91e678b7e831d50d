use mathlib.Core.Path.{◌≡◌, sym, ap, ◌∙◌, subst}
use Prim.Native.Nat.{ℕ, ◌<◌}
use native.Mathlib.Omega.{arith}
use lib.ListN.{length}
use Rattle.games.specs.Fields.{word}
use Rattle.games.specs.Format.{low_values}
use Rattle.cards.proofs.Parts.{filled_none, filled_more, filled_end}
use Rattle.trimmer.specs.Marking.{named_from}
use Rattle.trimmer.specs.Numbering.{new_name, row_words}
use Rattle.games.specs.Kinds.{kind_number}
use Rattle.trimmer.proofs.Naming.{name_here}
use Rattle.trimmer.proofs.Writing.{name_small}
use Rattle.trimmer.proofs.write_row.Goals as goal

pub loop-j-init : goal.loop-j-init
loop-j-init c = filled_none _ _ c.args.out.now c.requires.2

pub kind_naming-requires : goal.kind_naming-requires
kind_naming-requires c =
    let names : ℕ → ℕ = named_from c.args.names.now 0 in
    let new : c.new_name-new.result.0 ≡ new_name c.args.work.now (names c.loop-j.j) = c.new_name-new.ensures ∙ ap (new_name c.args.work.now) (name_here c.args.names.now c.loop-j.j c.low_field.result c.low_field.ensures) in (
      subst (λ (y : ℕ). y < low_values) (sym new) (name_small c.args.work.now (names c.loop-j.j)),
      omega (arith, c.loop-j-test.true, c.requires.1),
    )

pub loop-j-preserved : goal.loop-j-preserved
loop-j-preserved c =
    let names : ℕ → ℕ = named_from c.args.names.now 0 in
    let written : ℕ → ℕ = λ i. word (kind_number c.args.kind) (new_name c.args.work.now (names i)) i 0 in
    let new : c.new_name-new.result.0 ≡ new_name c.args.work.now (names c.loop-j.j) = c.new_name-new.ensures ∙ ap (new_name c.args.work.now) (name_here c.args.names.now c.loop-j.j c.low_field.result c.low_field.ensures) in
    filled_more (length c.args.names.now) written c.loop-j.j c.loop-j.out c.kind_naming.result c.loop-j-test.true
    (c.kind_naming.ensures ∙ ap (λ (y : ℕ). word (kind_number c.args.kind) y c.loop-j.j 0) new) c.loop-j.invariant

pub returns : goal.returns
unfolding row_words
returns c =
    let names : ℕ → ℕ = named_from c.args.names.now 0 in
    let written : ℕ → ℕ = λ i. word (kind_number c.args.kind) (new_name c.args.work.now (names i)) i 0 in
    filled_end (length c.args.names.now) written c.loop-j.j c.loop-j.out c.args.own c.loop-j-test.false c.loop-j.auto.j-end c.loop-j.invariant
