-- `kiss_reader::read` meets its contract.
use Rattle.std.proofs.Common.{arith}
use Rattle.std.proofs.lemmas.Result.{err_from_is_err_and}
use Rattle.kiss_reader.proofs.Answers.{card_told, card_departs, read_told}
use Rattle.kiss_reader.proofs.Promises.{small_text, whole}
use Rattle.kiss_reader.proofs.read.Goals as goal

pub returns : goal.returns
returns c =
    let w = whole c.args.text.now c.args.out.now (small_text _ (λ i. omega (arith, c.type_inv.text i))) _ _ (read_told _ _ _ (card_told _ _ _ _ _ c.in_ok-map_err.was c.map_err.ensures.cases c.read_card.ensures) _ c.tell.ensures) in
    record { determined = w.0; promised = w.1 }

pub returns-in_err-map_err : goal.returns-in_err-map_err
returns-in_err-map_err c =
    let p = err_from_is_err_and c.from_residual.result c.from_residual.ensures.1 in
    let w = whole c.args.text.now c.args.out.now (small_text _ (λ i. omega (arith, c.type_inv.text i))) _ _ (card_departs _ _ _ _ _ _ c.in_err-map_err.was c.map_err.ensures.cases c.read_card.ensures (λ p e. e)) in
    rw (p.1, p.2) (record { determined = w.0; promised = w.1 })
