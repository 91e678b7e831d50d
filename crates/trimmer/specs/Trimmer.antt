-- What the trimmer does: the answer and every lent word (document 02, change 5).
-- Assumes nothing.
use Rattle.std.specs.Prelude.{◌≡◌, cond, List, ◌++◌, ℕ, ltb, length, take, drop}
use Rattle.sets.specs.Bounded.{fill}
use Rattle.games.specs.Answers.{unless, Leaves, leaves}
use Rattle.cards.specs.Card.{card_cells, card_observations, automaton, checked}
use Rattle.trimming.specs.Trim.{kept, trimmed}
use Rattle.trimming.specs.Promise.{Promise}
use Rattle.games.specs.declared.Refusal.{Refusal}
use Rattle.cards.specs.declared.Extent.{Extent}
use Rattle.games.specs.declared.Reason.TheVariants as reason
use Rattle.games.specs.Answers.{refused}
use Rattle.std.specs.Prelude.{Result, Ok, Err}

-- what trimming answers: the words of the trimmed card and its cells, or a refusal
abbrev pub Answer : Type 0
Answer = Result Extent Refusal

abbrev pub done_with : (words cells : ℕ) → Answer
done_with words cells = Ok (record { words = words; cells = cells })

-- how many cells of a card are kept
abbrev pub kept_cells : List ℕ → ℕ
kept_cells w = length (kept (automaton w) (card_observations w))

-- the trimmed card fills the front of its room if that has room (9)
unfoldable pub by_room : (card out : List ℕ) → Leaves Answer (List ℕ)
by_room w d =
    let need = length (trimmed w) in
    cond (ltb (length d) need) (leaves (refused reason.ShortRoom need) d) (leaves (done_with need (kept_cells w)) (trimmed w ++ drop need d))

-- the two buffers that are lent: the work, and the room for the trimmed card
pub record Buffers : Type 0 where
  pub work : List ℕ
  pub out : List ℕ

abbrev pub buffers : (work out : List ℕ) → Buffers
buffers work d = record { work = work; out = d }

-- for a card: 8 where there are fewer words of work than cells, then 9; so many words of the work are left at 0
unfoldable pub with_work : (card work out : List ℕ) → Leaves Answer Buffers
with_work w work d =
    let need = card_cells w in
    let done = by_room w d in
    cond (ltb (length work) need) (leaves (refused reason.ShortWork need) (buffers work d)) (leaves done.answer (buffers (fill need 0 work) done.left))

-- the card's check comes first (13)
unfoldable pub trimmed_into : (card work out : List ℕ) → Leaves Answer Buffers
trimmed_into w work d = unless (checked w) (λ e. leaves (Err e) (buffers work d)) (with_work w work d)

-- what is promised where a card was trimmed: it stands in front of its room, and all that `Promise` says holds of it
pub record Trims (w : List ℕ) (r : Answer) (left : List ℕ) : Type 0 where
  pub stands : (words cells : ℕ) → r ≡ done_with words cells → take words left ≡ trimmed w
  pub promise : (words cells : ℕ) → r ≡ done_with words cells → Promise w
