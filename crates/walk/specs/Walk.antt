-- What a set comes to under an action: one walk over its members in ascending order (document 02, change 4).
-- Assumes nothing.
use Rattle.std.specs.Prelude.{cond, List, [], ◌∷◌, ℕ, ◌+◌, Option, Some, None, Ok, Err}
use Rattle.sets.specs.Mask.{member, union}
use Rattle.sets.specs.Bounded.{select}
use Rattle.games.specs.Game.{Game, enabled}
use Rattle.walk.specs.declared.Walked.{Walked}

-- what one state comes to under an action: its successors (a parked state has none), or it is blocked there
unfoldable pub moved : Game → (action state : ℕ) → Option ℕ
moved g a i = cond (enabled g i a) (Some (g.successors a i)) None

-- an answer of the walk: the successors of the whole set, or the member where the action is blocked; and how many members were looked at
abbrev pub passed : (successors looked : ℕ) → Walked
passed u c = record { post = Ok u; looked = c }

abbrev pub stopped : (state looked : ℕ) → Walked
stopped i c = record { post = Err (record { 0 = i }); looked = c }

-- the members of a set of n states, ascending
unfoldable pub members : (states set : ℕ) → List ℕ
members n s = select n (member s)

-- by what a member comes to: the walk ends there, or goes on with its successors
abbrev pub turn : Option ℕ → Walked → (ℕ → Walked) → Walked
turn None ends goes = ends
turn (Some v) ends goes = goes v

-- the walk along these members, where u has the successors of those before them and c is how many those were
unfoldable pub along : Game → (action : ℕ) → List ℕ → (u c : ℕ) → Walked
along g a [] u c = passed u c
along g a (i ∷ l) u c = turn (moved g a i) (stopped i (c + 1)) (λ v. along g a l (union u v) (c + 1))

-- the walk along all members, from the lowest
unfoldable pub walked : Game → (set action : ℕ) → Walked
walked g s a = along g a (members g.states s) 0 0
