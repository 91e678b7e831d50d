-- What join and meet of two lists answer, and what they leave in the buffer (document 01, "Lists").
-- Assumes nothing.
use Rattle.std.specs.Prelude.{Bool, cond, not, List, ◌++◌, ℕ, ◌^◌, ltb, length, drop}
use Rattle.sets.specs.Bounded.{Found, first, at_found, reaches}
use Rattle.sets.specs.Family.{join, meet}
use Rattle.games.specs.Format.{within, max_states}
use Rattle.games.specs.Answers.{Leaves, leaves}
use Rattle.games.specs.Answers.{Written}
use Rattle.games.specs.Answers.{refused}
use Rattle.games.specs.declared.Reason.TheVariants as reason
use Rattle.std.specs.Prelude.{Ok}

-- the widths of lists
abbrev pub is_width : ℕ → Bool
is_width n = within n max_states

-- the first mask that names a state from n up
abbrev pub foreign : ℕ → List ℕ → Found
foreign n l = first (length l) (reaches l (2 ^ n))

-- refusal 15 where the result is longer than the buffer; else its length, and it stands in front
abbrev pub fitted : List ℕ → List ℕ → Leaves Written (List ℕ)
fitted result d =
    cond (ltb (length d) (length result)) (leaves (refused reason.ShortList (length result)) d) (leaves (Ok (length result)) (result ++ drop (length result) d))

-- refusal 2; 5 at a mask found, the second list counted on after the first; 15; and the list that `op` makes of the two
unfoldable pub outcome : (List ℕ → List ℕ → List ℕ) → ℕ → List ℕ → List ℕ → List ℕ → Leaves Written (List ℕ)
outcome op n k l d =
    cond (not (is_width n)) (leaves (refused reason.BadHead 0) d)
    (at_found (foreign n (k ++ l)) (λ i. leaves (refused reason.StateBeyond i) d) (fitted (op k l) d))

-- join: the maximal sets of both lists
abbrev pub joined : ℕ → List ℕ → List ℕ → List ℕ → Leaves Written (List ℕ)
joined n k l d = outcome (join n) n k l d

-- meet: the maximal common parts of one set from each
abbrev pub met : ℕ → List ℕ → List ℕ → List ℕ → Leaves Written (List ℕ)
met n k l d = outcome (meet n) n k l d
