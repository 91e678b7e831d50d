-- `Sizes::bare_word` meets its contract: the word of what stands there; its numbers fit, because the table has it.
use mathlib.Core.Path.{sym, ap, ◌∙◌}
use native.Mathlib.Omega.{arith}
use Rattle.games.specs.Places.{Within}
use Rattle.games.proofs.Places.{place_within}
use Rattle.tables.specs.Layout.{bare_word}
use Rattle.tables.proofs.Bounds.{length_short}
use Rattle.tables.proofs.Layouts.{shown_fits, move_fits}
use Rattle.tables.proofs.Sizes.bare_word.Goals as goal

pub place_at-requires : goal.place_at-requires
place_at-requires c = omega (arith, length_short c.args.self.shape c.args.self.limited)

pub kind_word-requires-in-Shown : goal.kind_word-requires-in-Shown
kind_word-requires-in-Shown c =
    let within : Within c.args.self.shape c.place_at.result = rw c.place_at.ensures (place_within c.args.self.shape c.args.p c.args.self.limited.some_state c.requires.1 c.requires.0) in
    omega (arith, shown_fits c.args.self.shape c.args.self.limited _ _ within c.in-Shown.is)

pub kind_word-requires-in-Move : goal.kind_word-requires-in-Move
kind_word-requires-in-Move c =
    let within : Within c.args.self.shape c.place_at.result = rw c.place_at.ensures (place_within c.args.self.shape c.args.p c.args.self.limited.some_state c.requires.1 c.requires.0) in
    omega (arith, move_fits c.args.self.shape c.args.self.limited _ _ _ within c.in-Move.is)

pub returns-in-Start : goal.returns-in-Start
unfolding bare_word
returns-in-Start c = c.kind_word.ensures ∙ ap bare_word (sym c.in-Start.is ∙ c.place_at.ensures)

pub returns-in-Bad : goal.returns-in-Bad
unfolding bare_word
returns-in-Bad c = c.kind_word-in-Bad.ensures ∙ ap bare_word (sym c.in-Bad.is ∙ c.place_at.ensures)

pub returns-in-Parked : goal.returns-in-Parked
unfolding bare_word
returns-in-Parked c = c.kind_word-in-Parked.ensures ∙ ap bare_word (sym c.in-Parked.is ∙ c.place_at.ensures)

pub returns-in-Shown : goal.returns-in-Shown
unfolding bare_word
returns-in-Shown c = c.kind_word-in-Shown.ensures ∙ ap bare_word (sym c.in-Shown.is ∙ c.place_at.ensures)

pub returns-in-Move : goal.returns-in-Move
unfolding bare_word
returns-in-Move c = c.kind_word-in-Move.ensures ∙ ap bare_word (sym c.in-Move.is ∙ c.place_at.ensures)
