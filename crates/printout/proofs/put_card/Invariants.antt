-- Invariant: behind the first lines, the parts of the cells below c are written.
use Prim.Native.Nat.{◌*◌}
use Rattle.games.specs.Words.{part_length}
use Rattle.cards.specs.Card.{card_observations}
use Rattle.printout.specs.Lines.{line_bytes, part_text}
use Rattle.printout.proofs.Texts.{Below}
use Rattle.printout.proofs.put_card.Given as goal

abbrev pub invariant-loop-c : goal.invariant-loop-c
invariant-loop-c l = Below (part_text l.card.words.now) (part_length (card_observations l.card.words.now) * line_bytes) l.c l.initial.out l.out
