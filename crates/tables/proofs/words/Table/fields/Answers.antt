-- `Table::fields` meets its contract: each field is the table's.
use mathlib.Core.Path.{refl, ◌∙◌}
use Rattle.games.specs.Words.{game}
use Rattle.tables.proofs.Fieldwise.{shown_masks, moves_masks, fields_are}
use Rattle.tables.proofs.words.Table.fields.Goals as goal

pub returns : goal.returns
unfolding game
returns c =
    let w = c.args.self.words.now in
    let sized = c.args.self.sized in
    fields_are w _ _ refl c.shape-s.ensures _ _ c.mask.ensures c.mask-2.ensures c.parked.ensures
    refl (rw c.shown_words.ensures at c.masks.ensures ∙ shown_masks w sized _) refl (rw c.move_words.ensures at c.masks-2.ensures ∙ moves_masks w sized _)
