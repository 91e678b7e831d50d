-- `abi::kirdanzug_read_kiss` meets its contract: the words of what `read` answers, what it leaves, and what it promises.
use Rattle.kiss_reader.specs.Read.{Answer, Reads}
use Rattle.answers.specs.Words.{read_words, extent_words}
use Rattle.abi.proofs.Told.{tells, promised_of, read_tells}
use Rattle.abi.proofs.kirdanzug_read_kiss.Goals as goal

pub returns : goal.returns
returns c = record {
  determined = tells read_words _ c.read.result _ _ c.words.ensures c.read.ensures.determined;
  promised = promised_of extent_words read_tells _ c.read.result c.words.ensures (λ (r : Answer). Reads c.args.text.now r c.read.new.out) c.read.ensures.promised;
}
