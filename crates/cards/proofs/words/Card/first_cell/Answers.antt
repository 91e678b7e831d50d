-- The first word of the observation lies in the card.
use Rattle.cards.proofs.Checked.{first_in}
use Rattle.cards.proofs.words.Card.first_cell.Goals as goal

pub bounds-self-seen : goal.bounds-self-seen
bounds-self-seen c = first_in _ c.args.self.checked _ c.requires
