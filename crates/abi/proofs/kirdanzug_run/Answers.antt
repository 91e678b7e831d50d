-- `abi::kirdanzug_run` meets its contract: the words of what `run` answers, and what it leaves.
use Rattle.answers.specs.Words.{ran_words}
use Rattle.abi.proofs.Told.{tells}
use Rattle.abi.proofs.kirdanzug_run.Goals as goal

pub returns : goal.returns
returns c = tells ran_words _ c.run.result _ _ c.of_run.ensures c.run.ensures
