-- `abi::kirdanzug_open` meets its contract: the words of what `begin` answers.
use mathlib.Core.Path.{ap, ◌∙◌}
use Rattle.answers.specs.Words.{move_words}
use Rattle.abi.proofs.kirdanzug_open.Goals as goal

pub returns : goal.returns
returns c = c.words.ensures ∙ ap move_words c.begin.ensures
