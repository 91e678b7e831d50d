-- `abi::kirdanzug_write_kiss` meets its contract: the words of what `write` answers, what it leaves, and what it promises.
use Rattle.kiss_writer.specs.Write.{Answer, Writes}
use Rattle.answers.specs.Words.{text_words, length_words}
use Rattle.abi.proofs.Told.{tells, promised_of, length_tells}
use Rattle.abi.proofs.kirdanzug_write_kiss.Goals as goal

pub returns : goal.returns
returns c = record {
  determined = tells text_words _ c.write.result _ _ c.words.ensures c.write.ensures.determined;
  promised = promised_of length_words length_tells _ c.write.result c.words.ensures (λ (r : Answer). Writes c.args.card.now r c.write.new.out) c.write.ensures.promised;
}
