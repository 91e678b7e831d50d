-- `abi::kirdanzug_show` meets its contract: the words of what `find` answers.
use mathlib.Core.Path.{ap, ◌∙◌}
use Rattle.answers.specs.Words.{show_words}
use Rattle.abi.proofs.kirdanzug_show.Goals as goal

pub returns : goal.returns
returns c = c.words.ensures ∙ ap show_words c.find.ensures
