-- What a runner does, and what a run over a list of observations answers and writes (document 01, "Entries": Run).
-- Assumes nothing.
use Rattle.std.specs.Prelude.{◌≡◌, cond, List, [], ◌∷◌, ℕ, zero, suc, ◌+◌, ◌≤◌, ltb, length, take}
use Rattle.sets.specs.Bounded.{filled_by}
use Rattle.games.specs.Answers.{unless, Leaves, leaves}
use Rattle.games.specs.Automaton.{no_cell}
use Rattle.cards.specs.Card.{checked}
use Rattle.cards.specs.Run.{Move, opened, stepped, ran, as_cell, as_observation, stands, starts, advances}
use Rattle.cards.specs.declared.Stood.{Stood}
use Rattle.runner.specs.declared.Stopped.{Stopped}
use Rattle.games.specs.declared.Reason.{Reason}
use Rattle.games.specs.declared.Reason.TheVariants as reason
use Rattle.std.specs.Prelude.{Result, Ok, Err, Option, None, Some}
use Rattle.games.specs.declared.Cell.{Cell}

-- ---- the runner

-- moved by a list of observations
unfoldable pub standing_from : (card : List ℕ) → Stood → List ℕ → Stood
standing_from w s [] = s
standing_from w s (j ∷ h) = standing_from w (advances w s.cell (as_observation j)) h

-- opened with the first observation of a list and moved by the others; before the first it is in no cell, as `ran` has it
unfoldable pub standing : (card seen : List ℕ) → Stood
standing w [] = stands (as_cell no_cell) (ran w [])
standing w (j ∷ h) = standing_from w (starts w (as_observation j)) h

-- ---- the run over a list of observations

-- the card's move on the observation at place i
abbrev pub move_at : (card seen : List ℕ) → ℕ → Move
move_at w h i = ran w (take (suc i) h)

-- the same from the cell that it is in; where it is in none yet, the observation opens the card
abbrev pub move_from : (card : List ℕ) → Option Cell → (seen : ℕ) → Move
move_from w None j = opened w j
move_from w (Some c) j = stepped w c.0 j

-- the action that a move gives
abbrev pub action_of : Move → ℕ
action_of (Ok m) = m.action.0
action_of (Err e) = 0

-- what a run comes to: how many observations were taken, all of them, or where it stopped
abbrev pub Ran : Type 0
Ran = Result ℕ Stopped

abbrev pub stopped : Reason → (place taken : ℕ) → Ran
stopped r p i = Err (record { refusal = record { reason = r; place = p }; taken = i })

-- one observation more: it is taken, or refused with the number of those taken before it; a refusal stays
abbrev pub further : Ran → Move → Ran
further (Ok i) (Ok m) = Ok (i + 1)
further (Ok i) (Err e) = Err (record { refusal = e; taken = i })
further (Err s) m = Err s

-- what the run comes to on the first k observations
unfoldable pub ran_up_to : (card seen : List ℕ) → ℕ → Ran
ran_up_to w h zero = Ok 0
ran_up_to w h (suc k) = further (ran_up_to w h k) (move_at w h k)

-- the actions after the first k observations, in front of the buffer
abbrev pub with_actions : (card seen : List ℕ) → ℕ → List ℕ → List ℕ
with_actions w h k d = filled_by k (λ i. action_of (move_at w h i)) d

-- what the pass that writes asks: the run takes every observation, and there is a word for each
pub record Writable (card seen out : List ℕ) : Type 0 where
  pub taken : ran_up_to card seen (length seen) ≡ Ok (length seen)
  pub room : length seen ≤ length out

-- a run that was not refused on the way: 15 where there is no word for each observation; else their actions stand in front
abbrev pub written : (card seen out : List ℕ) → Ran → Leaves Ran (List ℕ)
written w h d (Ok k) = cond (ltb (length d) k) (leaves (stopped reason.ShortList k k) d) (leaves (Ok k) (with_actions w h k d))
written w h d (Err s) = leaves (Err s) d

-- the run of a checked card: 12 and 14 on the way, then 15
unfoldable pub writes : (card seen out : List ℕ) → Leaves Ran (List ℕ)
writes w h d = written w h d (ran_up_to w h (length h))

-- 13 first, whatever the observations; a refusal leaves the buffer as it was
unfoldable pub ran_into : (card seen out : List ℕ) → Leaves Ran (List ℕ)
ran_into w h d = unless (checked w) (λ e. leaves (Err (record { refusal = e; taken = 0 })) d) (writes w h d)
