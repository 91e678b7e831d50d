-- Answers of entries: a refusal, else what follows; and an answer with what it leaves of what was lent.
-- Assumes nothing.
use Rattle.std.specs.Prelude.{ℕ, Result, Ok, Err}
use Rattle.games.specs.declared.Reason.{Reason}
use Rattle.games.specs.declared.Reason.TheVariants as reason
use Rattle.games.specs.declared.Refusal.{Refusal}

-- the number by which callers and people know a reason
abbrev pub number_of : Reason → ℕ
number_of reason.NoWords = 1
number_of reason.BadHead = 2
number_of reason.BadLength = 3
number_of reason.Misplaced = 4
number_of reason.StateBeyond = 5
number_of reason.NoStart = 6
number_of reason.Unseen = 7
number_of reason.ShortWork = 8
number_of reason.ShortRoom = 9
number_of reason.ShortTable = 10
number_of reason.SlotUsed = 11
number_of reason.NumberBeyond = 12
number_of reason.NoCard = 13
number_of reason.CannotOccur = 14
number_of reason.ShortList = 15
number_of reason.Disagree = 16
number_of reason.RoundsBeyond = 17
number_of reason.NotSafe = 18
number_of reason.ParkedMoves = 19
number_of reason.IdleCell = 20
number_of reason.Departs = 21

-- a refusal for a reason, at a place
abbrev pub refused : {A : Type 0} → Reason → ℕ → Result A Refusal
refused r p = Err (record { reason = r; place = p })

-- what a check answers: fine, or a refusal
abbrev pub Checked : Type 0
Checked = Result (Unit {0}) Refusal

-- what a writer answers: how many words stand in front of the buffer, or a refusal
abbrev pub Written : Type 0
Written = Result ℕ Refusal

-- a check's refusal, as `stop` tells it, else what follows
abbrev pub unless : {A : Type 0} → Checked → (Refusal → A) → A → A
unless (Ok _) stop next = next
unless (Err e) stop next = stop e

-- an answer, and what it leaves of what was lent
pub record Leaves (A L : Type 0) : Type 0 where
  pub answer : A
  pub left : L

abbrev pub leaves : {A L : Type 0} → A → L → Leaves A L
leaves r d = record { answer = r; left = d }
