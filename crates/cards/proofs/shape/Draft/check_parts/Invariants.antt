-- Invariant: the words before the part of cell c are right.
use Rattle.cards.specs.Card.{card_observations, cell_place}
use Rattle.cards.specs.Checking.{FitsBelow}
use Rattle.cards.proofs.shape.Draft.check_parts.Given as goal

abbrev pub invariant-loop-c : goal.invariant-loop-c
invariant-loop-c l = FitsBelow l.self.words.now (cell_place (card_observations l.self.words.now) l.c)
