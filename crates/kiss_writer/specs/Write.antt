-- What writing a card as KISS2 text does: the answer and every byte of the room that is lent (document 02, change 6).
-- Assumes nothing.
use Rattle.std.specs.Prelude.{◌≡◌, cond, List, ◌++◌, ℕ, ltb, length, take, drop}
use Rattle.sets.specs.Bounded.{at_found}
use Rattle.games.specs.Answers.{unless, Leaves, leaves}
use Rattle.cards.specs.Card.{checked}
use Rattle.kiss.specs.Text.{kiss_text}
use Rattle.kiss.specs.Idle.{idle, LowestIdle}
use Rattle.kiss.specs.Promise.{ReadsBack}
use Rattle.games.specs.declared.Refusal.{Refusal}
use Rattle.games.specs.declared.Reason.TheVariants as reason
use Rattle.games.specs.Answers.{refused}
use Rattle.std.specs.Prelude.{Result, Ok, Err}

-- what writing answers: the bytes of the text, or a refusal
abbrev pub Answer : Type 0
Answer = Result ℕ Refusal

-- the text fills the front of its room if that has room (9)
unfoldable pub by_room : (card out : List ℕ) → Leaves Answer (List ℕ)
by_room w d =
    let need = length (kiss_text w) in
    cond (ltb (length d) need) (leaves (refused reason.ShortRoom need) d) (leaves (Ok need) (kiss_text w ++ drop need d))

-- the card's check comes first (13), then the lowest idle cell (20)
unfoldable pub written_to : (card out : List ℕ) → Leaves Answer (List ℕ)
written_to w d =
    unless (checked w) (λ e. leaves (Err e) d)
    (at_found (idle w) (λ c. leaves (refused reason.IdleCell c) d)
    (by_room w d))

-- what is promised: where the text was written, it stands in front of its room and reads back; 20 names the lowest cell that the card enters
-- on no list of observations
pub record Writes (w : List ℕ) (r : Answer) (left : List ℕ) : Type 0 where
  pub stands : (n : ℕ) → r ≡ Ok n → take n left ≡ kiss_text w
  pub back : (n : ℕ) → r ≡ Ok n → ReadsBack w
  pub lowest : (c : ℕ) → r ≡ refused reason.IdleCell c → LowestIdle w c
