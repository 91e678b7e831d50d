-- `abi::kirdanzug_step` meets its contract: the words of what `step` answers.
use mathlib.Core.Path.{ap, ◌∙◌}
use Rattle.answers.specs.Words.{move_words}
use Rattle.abi.proofs.kirdanzug_step.Goals as goal

pub returns : goal.returns
returns c = c.words.ensures ∙ ap move_words c.step.ensures
