-- `abi::kirdanzug_rewrite` meets its contract: the words of what `rewrite` answers, and what it leaves.
use Rattle.answers.specs.Words.{written_words}
use Rattle.abi.proofs.Told.{tells, rewrite_same}
use Rattle.abi.proofs.kirdanzug_rewrite.Goals as goal

pub returns : goal.returns
returns c =
    let told = tells written_words _ c.rewrite.result _ _ c.words.ensures c.rewrite.ensures in
    record { out_after = told; same = rewrite_same _ _ _ told }
