-- What solve does: the answer and every lent word (document 01, "Entries", "Order" and the rule on lent words).
-- Assumes nothing.
use Rattle.std.specs.Prelude.{◌≡◌, cond, ◌↔◌, ◌⊎◌, List, ◌++◌, ℕ, ◌*◌, ◌^◌, ◌≤◌, ltb, length, take, drop}
use Rattle.sets.specs.Bounded.{fill}
use Rattle.games.specs.Answers.{unless, Leaves, leaves}
use Rattle.games.specs.Game.{Game}
use Rattle.games.specs.Play.{Strategy, Clear}
use Rattle.games.specs.Verdict.{Verdict, Yes, No, verdict, cells}
use Rattle.games.specs.Words.{game, card_length, card_of}
use Rattle.games.specs.Demands.{Third}
use Rattle.tables.specs.Check.{checked}
use Rattle.cards.specs.Kept.{Kept}
use Rattle.games.specs.declared.Refusal.{Refusal}
use Rattle.solver.specs.declared.Verdict.{Verdict as Said}
use Rattle.solver.specs.declared.Verdict.TheVariants.{Yes as SaysYes, No as SaysNo}
use Rattle.games.specs.declared.Reason.TheVariants as reason
use Rattle.games.specs.Answers.{refused}
use Rattle.std.specs.Prelude.{Result, Ok, Err}

-- solve's answer: a verdict, with its numbers, or a refusal
abbrev pub Answer : Type 0
Answer = Result Said Refusal

abbrev pub says_yes : (settled cells : ℕ) → Answer
says_yes settled m = Ok (SaysYes settled m)

abbrev pub says_no : (round : ℕ) → Answer
says_no k = Ok (SaysNo k)

-- the words of the work that document 01 asks for
abbrev pub work_words : ℕ → ℕ
work_words n = 4 * 2 ^ n

-- after the search: a yes writes the card at the front of the card room if that has room (9), a no writes nothing
unfoldable pub by_verdict : Game → List ℕ → Verdict → Leaves Answer (List ℕ)
by_verdict g d (Yes settled m) =
    let need = card_length m g.observations in
    cond (ltb (length d) need) (leaves (refused reason.ShortRoom need) d) (leaves (says_yes settled m) (card_of g ++ drop need d))
by_verdict g d (No k) = leaves (says_no k) d

-- the two buffers that are lent: the work and the card room
pub record Buffers : Type 0 where
  pub work : List ℕ
  pub card : List ℕ

abbrev pub buffers : (work card : List ℕ) → Buffers
buffers work d = record { work = work; card = d }

-- for an accepted table: 8, the search, 9; a search leaves the first words of the work at 0
unfoldable pub searched : Game → (work card : List ℕ) → Leaves Answer Buffers
searched g work d =
    let need = work_words g.states in
    let done = by_verdict g d (verdict g) in
    cond (ltb (length work) need) (leaves (refused reason.ShortWork need) (buffers work d)) (leaves done.answer (buffers (fill need 0 work) done.left))

-- the table checks come first
unfoldable pub solved : (table work card : List ℕ) → Leaves Answer Buffers
solved w work d = unless (checked w) (λ e. leaves (Err e) (buffers work d)) (searched (game w) work d)

-- ---- the demands on the answer

-- the answer is yes; it is a refusal by 9
abbrev pub IsYes : Answer → Type 0
IsYes r = (settled : ℕ) × (m : ℕ) × (r ≡ says_yes settled m)

abbrev pub IsNine : Answer → Type 0
IsNine r = (need : ℕ) × (r ≡ refused reason.ShortRoom need)

-- some strategy keeps every play clear
abbrev pub Winnable : Game → Type 0
Winnable g = (ρ : Strategy g) × Clear g ρ

-- an accepted table, with work enough; and with room for its card
pub record WorkEnough (w work : List ℕ) : Type 0 where
  pub fine : checked w ≡ Ok tt
  pub enough : work_words (game w).states ≤ length work

abbrev pub CardFits : (w card : List ℕ) → Type 0
CardFits w d = card_length (length (cells (game w))) (game w).observations ≤ length d

-- the card that stands at the front of the card room after a yes with m cells
abbrev pub written : List ℕ → ℕ → List ℕ → List ℕ
written w m d = take (card_length m (game w).observations) d

-- what solve promises of its answer, over every strategy and every play
pub record Promise (w work card : List ℕ) (r : Answer) (left : List ℕ) : Type 0 where
  -- with work enough the answer is yes, or a refusal by 9, if and only if some strategy keeps every play clear
  pub nine_iff : WorkEnough w work → (IsYes r ⊎ IsNine r) ↔ Winnable (game w)
  -- with room for the card it is yes if and only if some strategy does
  pub yes_iff : WorkEnough w work → CardFits w card → IsYes r ↔ Winnable (game w)
  -- the card written with a yes keeps every play clear
  pub yes_card : (settled m : ℕ) → r ≡ says_yes settled m → Kept (game w) (written w m left)
  -- the third demand
  pub no_round : (k : ℕ) → r ≡ says_no k → Third (game w) k
