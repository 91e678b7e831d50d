-- `abi::kirdanzug_join` meets its contract: the words of what `join` answers, and what it leaves.
use Rattle.answers.specs.Words.{written_words}
use Rattle.abi.proofs.Told.{tells, list_plain}
use Rattle.abi.proofs.kirdanzug_join.Goals as goal

pub returns : goal.returns
returns c = record {
  out_after = tells written_words _ c.join.result _ _ c.words.ensures c.join.ensures.out_after;
  plain = list_plain _ c.join.result c.words.ensures _ _ c.join.ensures.plain;
}
