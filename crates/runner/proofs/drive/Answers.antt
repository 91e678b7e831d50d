-- Each answer is that of one observation more, on the card that the runner holds.
use Rattle.std.proofs.Common.{◌≡◌, ℕ, [], ◌∷◌, List, Bor, sym, ap, ◌∙◌, arith}
use Rattle.cards.specs.Run.{stands, advances}
use Rattle.runner.specs.Runs.{standing}
use Rattle.runner.proofs.Plays.{standing_one, stands_more}
use Rattle.runner.proofs.drive.Goals as goal

pub returns : goal.returns
returns c =
    let w = c.args.card.now in
    let i = c.args.first.0 in
    let j = c.args.second.0 in
    let k = c.args.third.0 in
    let begun : stands c.start-opened.result.runner.cell c.start-opened.result.answer ≡ standing w (i ∷ []) = c.start-opened.ensures.1 ∙ sym (standing_one w i) in
    let next : stands c.advance-next.new.self.cell c.advance-next.result ≡ advances w c.start-opened.result.runner.cell c.args.second =
    c.advance-next.ensures.1
    ∙ ap (λ (b : Bor (List ℕ)). advances b.now c.start-opened.result.runner.cell c.args.second) c.start-opened.ensures.0 in
    let moved : stands c.advance-next.new.self.cell c.advance-next.result ≡ standing w (i ∷ j ∷ []) = stands_more w (i ∷ []) j (omega arith) begun next in
    let third : stands c.advance-next-2.new.self.cell c.advance-next-2.result ≡ advances w c.advance-next.new.self.cell c.args.third =
    c.advance-next-2.ensures.1
    ∙ ap (λ (b : Bor (List ℕ)). advances b.now c.advance-next.new.self.cell c.args.third) (c.advance-next.ensures.0 ∙ c.start-opened.ensures.0) in
    let last = stands_more w (i ∷ j ∷ []) k (omega arith) moved third in
    (c.stood-begun.ensures ∙ begun, c.stood-moved.ensures ∙ moved, c.stood-last.ensures ∙ last)
