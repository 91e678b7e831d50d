-- `abi::kirdanzug_meet` meets its contract: the words of what `meet` answers, and what it leaves.
use Rattle.answers.specs.Words.{written_words}
use Rattle.abi.proofs.Told.{tells, list_plain}
use Rattle.abi.proofs.kirdanzug_meet.Goals as goal

pub returns : goal.returns
returns c = record {
  out_after = tells written_words _ c.meet.result _ _ c.words.ensures c.meet.ensures.out_after;
  plain = list_plain _ c.meet.result c.words.ensures _ _ c.meet.ensures.plain;
}
