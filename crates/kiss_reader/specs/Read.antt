-- What the reader does: the answer and every lent word (document 02, change 6).
-- Assumes nothing.
use Rattle.std.specs.Prelude.{◌≡◌, cond, List, ◌++◌, ℕ, ltb, length, take, drop}
use Rattle.sets.specs.Bounded.{nothing, at_found}
use Rattle.games.specs.Answers.{Leaves, leaves}
use Rattle.cards.specs.Card.{card_cells}
use Rattle.form.specs.Form.{Outcome, read, departs}
use Rattle.kiss.specs.Profile.{reading}
use Rattle.kiss.specs.Idle.{idle, LowestIdle}
use Rattle.kiss.specs.Promise.{OfText}
use Rattle.games.specs.declared.Refusal.{Refusal}
use Rattle.cards.specs.declared.Extent.{Extent}
use Rattle.std.specs.Prelude.{Result, Ok}
use Rattle.games.specs.declared.Reason.TheVariants as reason
use Rattle.games.specs.Answers.{refused}

-- what reading answers: the words of the card and its cells, or a refusal
abbrev pub Answer : Type 0
Answer = Result Extent Refusal

abbrev pub read_as : (words cells : ℕ) → Answer
read_as words cells = Ok (record { words = words; cells = cells })

-- the card fills the front of its room if that has room (9)
unfoldable pub by_room : (card out : List ℕ) → Leaves Answer (List ℕ)
by_room x d =
    let need = length x in
    cond (ltb (length d) need) (leaves (refused reason.ShortRoom need) d) (leaves (read_as need (card_cells x)) (x ++ drop need d))

-- before that the lowest idle cell (20)
unfoldable pub of_card : (card out : List ℕ) → Leaves Answer (List ℕ)
of_card x d = at_found (idle x) (λ c. leaves (refused reason.IdleCell c) d) (by_room x d)

-- by what the text reads as; where it departs from the profile, that place (21)
unfoldable pub told : Outcome → (out : List ℕ) → Leaves Answer (List ℕ)
told (departs p) d = leaves (refused reason.Departs p) d
told (read x) d = of_card x d

unfoldable pub read_into : (text out : List ℕ) → Leaves Answer (List ℕ)
read_into t d = told (reading t) d

-- what is promised: all that is said of texts; what was read stands in front of its room, with no idle cell; 21 is told just where the text
-- departs; 20 names the lowest cell that the card said by the text enters on no list of observations
pub record Reads (t : List ℕ) (r : Answer) (left : List ℕ) : Type 0 where
  pub promise : OfText t
  pub stands : (n m : ℕ) → r ≡ read_as n m → reading t ≡ read (take n left)
  pub no_idle : (n m : ℕ) → r ≡ read_as n m → idle (take n left) ≡ nothing
  pub departed : (p : ℕ) → r ≡ refused reason.Departs p → reading t ≡ departs p
  pub lowest : (c : ℕ) → r ≡ refused reason.IdleCell c → (x : List ℕ) × (reading t ≡ read x) × LowestIdle x c
