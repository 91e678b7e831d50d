-- The demands as statements about the game, strategies and plays alone.
-- Assumes nothing.
use Rattle.std.specs.Prelude.{◌≡◌, true, false, ◌↔◌, ◌⊎◌, ℕ, ◌-◌, ◌^◌, ◌≤◌, ◌<◌}
use Rattle.sets.specs.Mask.{member}
use Rattle.games.specs.Game.{Game, enabled}
use Rattle.games.specs.Play.{Strategy, Play, begin, more, PlayOf, Under, Lasts, Clear, last, seen, rounds}
use Rattle.games.specs.Verdict.{Verdict, Yes, No}
use Rattle.games.specs.Automaton.{Automaton, cell_after, action_after}

-- a play under the strategy, of at most k rounds, whose last round is not survived: the state is bad, or the action picked is not
-- enabled in it
pub record Lost (g : Game) (ρ : Strategy g) (k : ℕ) : Type 0 where
  pub play : Play
  pub played : PlayOf g play
  pub under : Under ρ play
  pub short : rounds play ≤ k
  pub ends : (member g.bad (last play) ≡ true) ⊎ (enabled g (last play) (ρ.pick (seen play)) ≡ false)

-- the third demand: nobody survives round k, somebody survives every round before it, and k is below 2 ^ n
pub record Third (g : Game) (k : ℕ) : Type 0 where
  pub from_one : 1 ≤ k
  pub lost : (ρ : Strategy g) → Lost g ρ k
  pub no_strategy : (ρ : Strategy g) → Lasts g ρ k → ⊥
  pub before : (ρ : Strategy g) × Lasts g ρ (k - 1)
  pub below : k < 2 ^ g.states

-- the play is under the card: each action in it is the one that the automaton gives there
unfoldable pub UnderCard : Automaton → Play → Type 0
UnderCard A (begin i o) = Unit {0}
UnderCard A (more p a i o) = UnderCard A p × (a ≡ action_after A (seen p))

-- on the play the automaton is in a cell whose set holds the state; the state isn't bad, and the action given is one of the game's
-- and enabled there
pub record Keeps (g : Game) (A : Automaton) (p : Play) : Type 0 where
  pub cell_below : cell_after A (seen p) < A.size
  pub held : member (A.set (cell_after A (seen p))) (last p) ≡ true
  pub not_bad : member g.bad (last p) ≡ false
  pub action_below : action_after A (seen p) < g.actions
  pub action_enabled : enabled g (last p) (action_after A (seen p)) ≡ true

-- the strategy picks, on the plays of the game under the card, what the card gives
abbrev pub Agrees : {g : Game} → Strategy g → Automaton → Type 0
Agrees {g} ρ A = (p : Play) → PlayOf g p → UnderCard A p → ρ.pick (seen p) ≡ action_after A (seen p)

-- the second demand for a card: what it keeps on every play under it; there is a strategy that picks what it gives there, and every
-- such strategy keeps every play clear
pub record Second (g : Game) (A : Automaton) : Type 0 where
  pub keeps : (p : Play) → PlayOf g p → UnderCard A p → Keeps g A p
  pub strategy : (ρ : Strategy g) × Agrees ρ A
  pub clear : (ρ : Strategy g) → Agrees ρ A → Clear g ρ

-- both demands on an answer: yes if and only if some strategy keeps every play clear, and then the card does; for a no the third demand
pub record Decides (g : Game) (answer : Verdict) (A : Automaton) : Type 0 where
  pub yes_iff : ((settled : ℕ) × (cells : ℕ) × (answer ≡ Yes settled cells)) ↔ ((ρ : Strategy g) × Clear g ρ)
  pub yes_card : (settled cells : ℕ) → answer ≡ Yes settled cells → Second g A
  pub no_round : (k : ℕ) → answer ≡ No k → Third g k
