-- `abi::kirdanzug_trim` meets its contract: the words of what `trim` answers, what it leaves, and what it promises.
use Rattle.trimmer.specs.Trimmer.{Answer, Trims}
use Rattle.answers.specs.Words.{trim_words, extent_words}
use Rattle.abi.proofs.Told.{tells, promised_of, read_tells}
use Rattle.abi.proofs.kirdanzug_trim.Goals as goal

pub returns : goal.returns
returns c = record {
  determined = tells trim_words _ c.trim.result _ _ c.words.ensures c.trim.ensures.determined;
  promised = promised_of extent_words read_tells _ c.trim.result c.words.ensures (λ (r : Answer). Trims c.args.card.now r c.trim.new.out) c.trim.ensures.promised;
}
