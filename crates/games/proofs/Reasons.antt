-- A reason has its number for itself: two refusals of one number and one place are the same.
-- Assumes nothing.
use Rattle.std.proofs.Common.{◌≡◌, refl, sym, ap, ap₂, ◌∙◌, ℕ, cond, eqb}
use Rattle.games.specs.declared.Reason.{Reason}
use Rattle.games.specs.declared.Reason.TheVariants as reason
use Rattle.games.specs.declared.Refusal.{Refusal}
use Rattle.games.specs.Answers.{number_of}

-- the reason of a number
reason_of : ℕ → Reason
reason_of n =
    cond (eqb n 1) reason.NoWords
    (cond (eqb n 2) reason.BadHead
    (cond (eqb n 3) reason.BadLength
    (cond (eqb n 4) reason.Misplaced
    (cond (eqb n 5) reason.StateBeyond
    (cond (eqb n 6) reason.NoStart
    (cond (eqb n 7) reason.Unseen
    (cond (eqb n 8) reason.ShortWork
    (cond (eqb n 9) reason.ShortRoom
    (cond (eqb n 10) reason.ShortTable
    (cond (eqb n 11) reason.SlotUsed
    (cond (eqb n 12) reason.NumberBeyond
    (cond (eqb n 13) reason.NoCard
    (cond (eqb n 14) reason.CannotOccur
    (cond (eqb n 15) reason.ShortList
    (cond (eqb n 16) reason.Disagree
    (cond (eqb n 17) reason.RoundsBeyond
    (cond (eqb n 18) reason.NotSafe
    (cond (eqb n 19) reason.ParkedMoves
    (cond (eqb n 20) reason.IdleCell
    reason.Departs)))))))))))))))))))

number_back : (r : Reason) → reason_of (number_of r) ≡ r
unfolding reason_of
number_back reason.NoWords = refl
number_back reason.BadHead = refl
number_back reason.BadLength = refl
number_back reason.Misplaced = refl
number_back reason.StateBeyond = refl
number_back reason.NoStart = refl
number_back reason.Unseen = refl
number_back reason.ShortWork = refl
number_back reason.ShortRoom = refl
number_back reason.ShortTable = refl
number_back reason.SlotUsed = refl
number_back reason.NumberBeyond = refl
number_back reason.NoCard = refl
number_back reason.CannotOccur = refl
number_back reason.ShortList = refl
number_back reason.Disagree = refl
number_back reason.RoundsBeyond = refl
number_back reason.NotSafe = refl
number_back reason.ParkedMoves = refl
number_back reason.IdleCell = refl
number_back reason.Departs = refl

pub same_refusal : (e f : Refusal) → number_of e.reason ≡ number_of f.reason → e.place ≡ f.place → e ≡ f
same_refusal e f n p =
    let r : e.reason ≡ f.reason = sym (number_back e.reason) ∙ ap reason_of n ∙ number_back f.reason in
    ap₂ (λ (x : Reason) (y : ℕ). let s : Refusal = record { reason = x; place = y } in s) r p
