-- `abi::kirdanzug_judge_card` meets its contract: the words of what `judge_card` answers, and accepted means safe.
use mathlib.Core.Path.{ap, ◌∙◌}
use Rattle.answers.specs.Words.{check_words}
use Rattle.abi.proofs.Told.{accepted_told}
use Rattle.abi.proofs.kirdanzug_judge_card.Goals as goal

pub returns : goal.returns
returns c = record {
  determined = c.words.ensures ∙ ap check_words c.judge_card.ensures.determined;
  safe = accepted_told _ c.judge_card.result _ c.words.ensures c.judge_card.ensures.safe;
}
