-- The plain judge's answer (document 01, "Entries" and "Order").
-- Assumes nothing.
use Rattle.std.specs.Prelude.{Bool, cond, List, ℕ, ltb, length, Result, Ok, Err}
use Rattle.games.specs.Answers.{unless}
use Rattle.games.specs.Step.{good}
use Rattle.games.specs.Words.{game}
use Rattle.tables.specs.Check.{too_wide, checked}
use Rattle.games.specs.declared.Refusal.{Refusal}
use Rattle.games.specs.declared.Reason.TheVariants as reason
use Rattle.games.specs.Answers.{refused}

-- whether the set is good, or a refusal
abbrev pub Judged : Type 0
Judged = Result Bool Refusal

-- document 01: k up to 4
abbrev pub most_rounds : ℕ
most_rounds = 4

-- 17: k above 4; 5: the mask names a state from n up; else: is the set good for k?
unfoldable pub answered : (table : List ℕ) (mask rounds : ℕ) → Judged
answered w s k =
    cond (ltb most_rounds k) (refused reason.RoundsBeyond k)
    (cond (too_wide (game w).states s) (refused reason.StateBeyond (length w))
    (Ok (good (game w) k s)))

-- what the judge answers: table, 17, 5
unfoldable pub judged : (table : List ℕ) (mask rounds : ℕ) → Judged
judged w s k =
    unless (checked w) Err
    (answered w s k)
