-- Invariant: the words before the part of cell c hold.
use Rattle.games.specs.Words.{game}
use Rattle.cards.specs.Card.{card_observations, cell_place}
use Rattle.certificates.specs.Judging.{HoldsBelow}
use Rattle.certificates.proofs.Judge.judge_parts.Given as goal

abbrev pub invariant-loop-c : goal.invariant-loop-c
invariant-loop-c l = HoldsBelow (game l.self.pair.table.table.words.now) l.self.pair.card.words.now (cell_place (card_observations l.self.pair.card.words.now) l.c)
