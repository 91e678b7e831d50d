-- `abi::kirdanzug_solve` meets its contract: the words of what `solve` answers, what it leaves, and what it promises.
use Rattle.solver.specs.Solve.{Answer, Promise}
use Rattle.answers.specs.Words.{solve_words, verdict_words}
use Rattle.abi.proofs.Told.{tells, promised_of, verdict_tells}
use Rattle.abi.proofs.kirdanzug_solve.Goals as goal

pub returns : goal.returns
returns c = record {
  determined = tells solve_words _ c.solve.result _ _ c.words.ensures c.solve.ensures.determined;
  promised = promised_of verdict_words verdict_tells _ c.solve.result c.words.ensures (λ (r : Answer). Promise c.args.table.now c.args.work.now c.args.card.now r c.solve.new.card) c.solve.ensures.promised;
}
