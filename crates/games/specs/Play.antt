-- Strategies and plays (document 01, "The game").
-- Assumes nothing.
use Rattle.std.specs.Prelude.{◌≡◌, true, false, cond, List, [], ◌∷◌, ◌++◌, ℕ, suc, ◌≤◌, ◌<◌, leb}
use Rattle.sets.specs.Mask.{member}
use Rattle.games.specs.Game.{Game, Shows, enabled}

-- document 01's rule: one action for every list of observations; it sees nothing else
pub record Strategy (g : Game) : Type 0 where
  pub pick : List ℕ → ℕ
  pub legal : (seen : List ℕ) → pick seen < g.actions

-- a state and an observation; an action, a state and an observation; and so on. It may stop after any observation
pub data Play : Type 0 where
  begin : (state observation : ℕ) → Play
  more : (play : Play) (action state observation : ℕ) → Play

-- the state that the play is in
unfoldable pub last : Play → ℕ
last (begin i o) = i
last (more p a i o) = i

-- the observations so far
unfoldable pub seen : Play → List ℕ
seen (begin i o) = o ∷ []
seen (more p a i o) = seen p ++ (o ∷ [])

-- the number of rounds that the play has come to: its number of states
unfoldable pub rounds : Play → ℕ
rounds (begin i o) = 1
rounds (more p a i o) = suc (rounds p)

-- the play as it stood in round i; the whole of it where it has not come so far
unfoldable pub up_to : ℕ → Play → Play
up_to i (begin j o) = begin j o
up_to i (more p a j o) = cond (leb i (rounds p)) (up_to i p) (more p a j o)

-- it is a play of the game: a state of the start set and an observation it shows; an action; a successor and an observation it shows
unfoldable pub PlayOf : Game → Play → Type 0
PlayOf g (begin i o) = (member g.start i ≡ true) × Shows g i o
PlayOf g (more p a i o) = PlayOf g p × (a < g.actions) × (member (g.successors a (last p)) i ≡ true) × Shows g i o

-- each action in it is the one that the strategy picks there
unfoldable pub Under : {g : Game} → Strategy g → Play → Type 0
Under ρ (begin i o) = Unit {0}
Under ρ (more p a i o) = Under ρ p × (a ≡ ρ.pick (seen p))

-- the state that the play is in isn't bad, and the action that the strategy picks there is enabled in it
abbrev pub Survives : (g : Game) → Strategy g → Play → Type 0
Survives g ρ p = (member g.bad (last p) ≡ false) × (enabled g (last p) (ρ.pick (seen p)) ≡ true)

-- round i, from 1, is survived
abbrev pub Survived : (g : Game) → Strategy g → Play → ℕ → Type 0
Survived g ρ p i = Survives g ρ (up_to i p)

-- no play under the strategy comes to a round from 1 to k that isn't survived
unfoldable pub Lasts : (g : Game) → Strategy g → ℕ → Type 0
Lasts g ρ k = (p : Play) → PlayOf g p → Under ρ p → (i : ℕ) → 1 ≤ i → i ≤ k → i ≤ rounds p → Survived g ρ p i

-- document 01's "keeps every play clear": it lasts every number of rounds
abbrev pub Clear : (g : Game) → Strategy g → Type 0
Clear g ρ = (k : ℕ) → Lasts g ρ k
