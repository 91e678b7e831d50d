-- `trimmer::write_trimmed` meets its contract. The loop's invariant: the parts of the first i kept cells stand behind the front.
use Rattle.games.specs.Words.{cell_words}
use Rattle.cards.specs.Card.{card_observations, automaton}
use Rattle.cards.proofs.Parts.{Carded}
use Rattle.trimming.specs.Trim.{trim}
use Rattle.trimmer.proofs.write_trimmed.Given as goal

abbrev pub invariant-loop-i : goal.invariant-loop-i
invariant-loop-i l = Carded (card_observations l.card.words.now) l.kept (cell_words (trim (automaton l.card.words.now) (card_observations l.card.words.now)) (card_observations l.card.words.now)) l.initial.out l.i l.out
