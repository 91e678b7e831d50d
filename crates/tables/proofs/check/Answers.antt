-- `tables::check` meets its contract: one check after the other.
use mathlib.Core.Path.{◌≡◌, sym, ap, ◌∙◌}
use Rattle.games.specs.Words.{game}
use Rattle.tables.specs.Check.{size_checked, words_checked, sets_checked, checked}
use Rattle.games.specs.declared.Shape.{Shape}
use Rattle.tables.proofs.Same.{table_sets}
use Rattle.tables.proofs.Checks.{sets_stop, parked_decides}
use Rattle.std.proofs.lemmas.Result.{err_from_is_err_and}
use Rattle.tables.proofs.check.Goals as goal
use Rattle.std.specs.Prelude.{Ok}

pub returns-in_err-check_sets : goal.returns-in_err-check_sets
returns-in_err-check_sets c =
    let w = c.in_ok-table.table.words.now in
    let same : w ≡ c.args.table.now = ap (λ b. b.now) c.in_ok-table.ensures.table.0 in
    let size : size_checked w ≡ Ok tt = ap size_checked same ∙ c.in_ok-table.ensures.table.1 in
    let words : words_checked w ≡ Ok tt = sym c.check_words.ensures ∙ c.in_ok-check_words.was in
    let sets : c.check_sets.result ≡ sets_checked (game w) = rw c.shown_words.ensures at c.check_sets.ensures ∙ table_sets w c.in_ok-table.table.sized _ _ (ap (λ (s : Shape). s.states) c.shape.ensures) c.mask.ensures in
    let p = err_from_is_err_and c.from_residual-in_err-check_sets.result c.from_residual-in_err-check_sets.ensures.1 in
    rw (p.1, p.2) (sym (sets_stop w size words _ _ (sym sets ∙ c.in_err-check_sets.was)) ∙ ap checked same)

pub returns : goal.returns
returns c =
    let w = c.in_ok-table.table.words.now in
    let same : w ≡ c.args.table.now = ap (λ b. b.now) c.in_ok-table.ensures.table.0 in
    let size : size_checked w ≡ Ok tt = ap size_checked same ∙ c.in_ok-table.ensures.table.1 in
    let words : words_checked w ≡ Ok tt = sym c.check_words.ensures ∙ c.in_ok-check_words.was in
    let sets : c.check_sets.result ≡ sets_checked (game w) = rw c.shown_words.ensures at c.check_sets.ensures ∙ table_sets w c.in_ok-table.table.sized _ _ (ap (λ (s : Shape). s.states) c.shape.ensures) c.mask.ensures in
    c.check_departures.ensures ∙ sym (parked_decides w size words (sym sets ∙ c.in_ok-check_sets.was)) ∙ ap checked same
