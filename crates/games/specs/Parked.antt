-- What parked states mean (document 02, change 2), as statements that are proved: of every accepted game, and of words without the bit.
-- Assumes nothing.
use Rattle.std.specs.Prelude.{◌≡◌, true, false, List, ℕ, suc, ◌+◌, ◌*◌, ◌<◌, get_or}
use Rattle.sets.specs.Mask.{member, subset, without}
use Rattle.games.specs.Fields.{low_field, head_states, head_actions, head_observations, head_marked}
use Rattle.games.specs.Game.{Game, has_successor, enabled}
use Rattle.games.specs.Play.{Strategy, Play, more, PlayOf, Survives, last}
use Rattle.games.specs.Step.{safe, enabled_at, post, good}
use Rattle.games.specs.Words.{game}

pub record Finishes (g : Game) : Type 0 where
  -- no play goes on from a parked state
  pub ends : (p : Play) (a i o : ℕ) → member g.parked (last p) ≡ true → PlayOf g (more p a i o) → ⊥
  -- whatever the strategy picks, its round is survived; where the state is bad as well, it isn't
  pub survived : (ρ : Strategy g) (p : Play) → member g.parked (last p) ≡ true → member g.bad (last p) ≡ false → Survives g ρ p
  pub lost : (ρ : Strategy g) (p : Play) → member g.parked (last p) ≡ true → member g.bad (last p) ≡ true → Survives g ρ p → ⊥
  -- in a set it asks nothing of the action, and adds no successor
  pub asks_nothing : (s a i : ℕ) → member g.parked i ≡ true → enabled_at g (without s i) a ≡ enabled_at g s a
  pub adds_nothing : (s a i : ℕ) → a < g.actions → member g.parked i ≡ true → post g (without s i) a ≡ post g s a
  -- a set of parked states alone is good for every k, unless one of them is bad
  pub always_good : (s k : ℕ) → subset s g.parked ≡ true → safe g s ≡ true → good g k s ≡ true
  pub bad_one : (s k : ℕ) → subset s g.parked ≡ true → safe g s ≡ false → good g (suc k) s ≡ false

-- the game that words mean by document 01 alone
unfoldable pub plain_game : List ℕ → Game
plain_game w =
    let n = head_states (get_or w 0 0) in
    let o = head_observations (get_or w 0 0) in
    record {
      states = n;
      actions = head_actions (get_or w 0 0);
      observations = o;
      start = low_field (get_or w 1 0);
      bad = low_field (get_or w 2 0);
      parked = 0;
      shown = λ j. low_field (get_or w (3 + j) 0);
      successors = λ a i. low_field (get_or w (3 + o + a * n + i) 0);
    }

-- words without the bit mean what they meant: no state is parked, and an action is enabled where it has a successor
pub record AsBefore (w : List ℕ) : Type 0 where
  pub meaning : game w ≡ plain_game w
  pub enabled_is : (i a : ℕ) → enabled (game w) i a ≡ has_successor (game w) i a

abbrev pub Unmarked : List ℕ → Type 0
Unmarked w = head_marked (get_or w 0 0) ≡ false → AsBefore w
