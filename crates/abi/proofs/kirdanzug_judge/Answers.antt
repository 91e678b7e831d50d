-- `abi::kirdanzug_judge` meets its contract: the words of what `judge` answers.
use mathlib.Core.Path.{ap, ◌∙◌}
use Rattle.answers.specs.Words.{judge_words}
use Rattle.abi.proofs.kirdanzug_judge.Goals as goal

pub returns : goal.returns
returns c = c.words.ensures ∙ ap judge_words c.judge.ensures
