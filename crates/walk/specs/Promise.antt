-- The walk's answer in plain words (document 02, change 4), as statements that are proved of every game, set and action.
-- Assumes nothing.
use Rattle.std.specs.Prelude.{◌≡◌, true, false, ℕ, suc, ◌<◌, Result, Ok, Err, Some}
use Rattle.sets.specs.Mask.{member}
use Rattle.sets.specs.Bounded.{count}
use Rattle.games.specs.Game.{Game, Accepted, enabled}
use Rattle.games.specs.Step.{enabled_at, post}
use Rattle.games.specs.declared.State.{State}
use Rattle.walk.specs.declared.Walked.{Walked}
use Rattle.walk.specs.Walk.{moved, walked}

-- the action is enabled at all members, u has the successors of the whole set, and c is how many members it has
pub record Passes (g : Game) (s a u c : ℕ) : Type 0 where
  pub enabled_at_is : enabled_at g s a ≡ true
  pub successors : u ≡ post g s a
  pub looked : c ≡ count g.states (member s)

-- i is the lowest member where the action is blocked, and c is how many members there are up to and with it
pub record Stops (g : Game) (s a i c : ℕ) : Type 0 where
  pub state : i < g.states
  pub inside : member s i ≡ true
  pub blocked : enabled g i a ≡ false
  pub lowest : (j : ℕ) → j < i → member s j ≡ true → enabled g j a ≡ true
  pub looked : c ≡ count (suc i) (member s)

-- what an answer says
abbrev pub TellsOf : Game → (set action : ℕ) → Result ℕ State → (looked : ℕ) → Type 0
TellsOf g s a (Ok u) c = Passes g s a u c
TellsOf g s a (Err i) c = Stops g s a i.0 c

abbrev pub Tells : Game → (set action : ℕ) → Walked → Type 0
Tells g s a w = TellsOf g s a w.post w.looked

-- the walk's answer is right, and no other is
pub record Walks (g : Game) : Type 0 where
  pub right : (s a : ℕ) → Tells g s a (walked g s a)
  pub only : (s a : ℕ) (r : Walked) → Tells g s a r → r ≡ walked g s a

-- a parked member never blocks and adds nothing; like every member it counts as looked at
abbrev pub ParkedPass : Game → Type 0
ParkedPass g = Accepted g → (a i : ℕ) → a < g.actions → member g.parked i ≡ true → moved g a i ≡ Some 0
