-- `tables::check_size` meets its contract: one law for each answer.
use mathlib.Core.Bool.{true}
use mathlib.Core.Path.{◌≡◌, sym, ap, ◌∙◌}
use lib.ListN.{get_or}
use Rattle.games.specs.Places.{table_length}
use Rattle.tables.specs.Check.{head_right}
use Rattle.tables.specs.Layout.{shape_in}
use Rattle.tables.proofs.Checks.{size_none, size_head, size_long, size_fine}
use Rattle.tables.proofs.check_size.Goals as goal

pub returns-then-words-eq0 : goal.returns-then-words-eq0
returns-then-words-eq0 c =
    rw c.at.ensures
    (sym (size_none c.args.table.now c.if-words-eq0.true))

pub returns-then-not-head_right : goal.returns-then-not-head_right
returns-then-not-head_right c =
    rw c.at-then-not-head_right.ensures
    (sym (size_head c.args.table.now c.if-words-eq0.false (sym c.head_right.ensures ∙ c.if-not-head_right.true)))

pub returns-then-words-table_length : goal.returns-then-words-table_length
returns-then-words-table_length c =
    rw c.at-then-words-table_length.ensures
    (let right : head_right (get_or c.args.table.now 0 0) ≡ true = sym c.head_right.ensures ∙ c.if-not-head_right.false in
    let long : c.table_length.result ≡ table_length (shape_in c.args.table.now) = c.table_length.ensures ∙ ap table_length c.shape_of.ensures in
    sym (size_long c.args.table.now c.if-words-eq0.false right (λ e. c.if-words-table_length.true (e ∙ sym long))))

pub returns : goal.returns
returns c =
    let right : head_right (get_or c.args.table.now 0 0) ≡ true = sym c.head_right.ensures ∙ c.if-not-head_right.false in
    let long : c.table_length.result ≡ table_length (shape_in c.args.table.now) = c.table_length.ensures ∙ ap table_length c.shape_of.ensures in
    sym (size_fine c.args.table.now c.if-words-eq0.false right (c.if-words-table_length.false ∙ long))
