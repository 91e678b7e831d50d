-- `abi::kirdanzug_write` meets its contract: the words of what `write` answers, what it leaves, and that it reads back.
use Rattle.answers.specs.Words.{written_words}
use Rattle.abi.proofs.Told.{tells, write_read_back}
use Rattle.abi.proofs.kirdanzug_write.Goals as goal

pub returns : goal.returns
returns c = record {
  out_after = tells written_words _ c.write.result _ _ c.words.ensures c.write.ensures.answers;
  read_back = write_read_back _ c.write.result c.words.ensures _ _ c.write.ensures.read_back;
}
