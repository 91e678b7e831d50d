-- `abi::kirdanzug_check_table` meets its contract: the words of what `check` answers.
use mathlib.Core.Path.{ap, ◌∙◌}
use Rattle.answers.specs.Words.{check_words}
use Rattle.abi.proofs.kirdanzug_check_table.Goals as goal

pub returns : goal.returns
returns c = c.words.ensures ∙ ap check_words c.check.ensures
