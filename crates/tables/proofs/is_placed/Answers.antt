-- `tables::is_placed` meets its contract: the word compared with that of its place.
use mathlib.Core.Path.{◌≡◌, ap, ◌∙◌}
use native.Mathlib.Omega.{arith}
use Rattle.games.specs.Places.{place_at}
use Rattle.games.specs.declared.Shape.{Shape}
use Rattle.games.proofs.Places.{place_within}
use Rattle.tables.specs.Layout.{shape_in, bare_word}
use Rattle.tables.specs.Check.{placed}
use Rattle.tables.proofs.Layouts.{bare_small}
use Rattle.tables.proofs.is_placed.Goals as goal

pub overflow_add-result : goal.overflow_add-result
overflow_add-result c =
    let bare : c.bare_word.result ≡ bare_word (place_at (shape_in c.args.table.words.now) c.args.p) = c.bare_word.ensures ∙ ap (λ (s : Shape). bare_word (place_at s c.args.p)) c.sizes.ensures in
    let s = shape_in c.args.table.words.now in
    omega (arith, c.low_field.ensures, bare, bare_small s c.args.table.sized.limits (place_at s c.args.p) (place_within s c.args.p c.args.table.sized.limits.some_state (omega (arith, c.args.table.sized.long)) c.requires.0))

pub returns : goal.returns
unfolding placed
returns c =
    let bare : c.bare_word.result ≡ bare_word (place_at (shape_in c.args.table.words.now) c.args.p) = c.bare_word.ensures ∙ ap (λ (s : Shape). bare_word (place_at s c.args.p)) c.sizes.ensures in
    rw (bare, c.low_field.ensures)
