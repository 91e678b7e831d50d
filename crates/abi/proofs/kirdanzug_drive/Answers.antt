-- `abi::kirdanzug_drive` meets its contract: the words of the answer with which the driven runner stands last.
use mathlib.Core.Path.{ap, ◌∙◌}
use Rattle.cards.specs.declared.Stood.{Stood}
use Rattle.answers.specs.Words.{move_words}
use Rattle.abi.proofs.kirdanzug_drive.Goals as goal

pub returns : goal.returns
returns c = c.words.ensures ∙ ap (λ (s : Stood). move_words s.answer) c.drive-driven.ensures.2
