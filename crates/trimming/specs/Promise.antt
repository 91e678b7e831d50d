-- What is promised of trimming (document 02, change 5), for every card: words that pass the card check.
-- Assumes nothing.
use Rattle.std.specs.Prelude.{◌≡◌, true, ◌↔◌, ℕ, ◌≤◌, ◌<◌, length, get_or}
use mathlib.Core.List.{List, Memᴰ}
use Rattle.sets.specs.Bounded.{count}
use Rattle.sets.specs.Family.{Ascending}
use Rattle.games.specs.Game.{Game}
use Rattle.games.specs.Automaton.{Automaton}
use Rattle.games.specs.Words.{game, card_length}
use Rattle.std.specs.Prelude.{Ok, Err}
use Rattle.games.specs.declared.Refusal.{Refusal}
use Rattle.cards.specs.Card.{card_cells, card_actions, card_observations, automaton, checked}
use Rattle.cards.specs.Run.{Move, ran}
use Rattle.cards.specs.Kept.{Kept}
use Rattle.runner.specs.Control.{Controls}
use Rattle.certificates.specs.Certificate.{certified, Safe}
use Rattle.trimming.specs.Reach.{Names, Reached}
use Rattle.trimming.specs.Trim.{reached, kept, renumbered, trimmed}
use Rattle.std.specs.Prelude.{Ok, Err}

-- ---- the cells, over an automaton and o observations

-- the rounds find just the reached cells
abbrev pub Finds : Automaton → (o : ℕ) → Type 0
Finds A o = (c : ℕ) → Names A c → (reached A o c ≡ true) ↔ Reached A o c

-- the kept cells are the reached ones, at least one, in their order; a kept cell's new number is how many kept cells are below it, and
-- new and old number go back and forth
pub record Keeping (A : Automaton) (o : ℕ) : Type 0 where
  pub some : 1 ≤ length (kept A o)
  pub just : (c : ℕ) → Memᴰ c (kept A o) ↔ Reached A o c
  pub ascending : Ascending (kept A o)
  pub inside : (c : ℕ) → Reached A o c → Names A c
  pub number : (c : ℕ) → Reached A o c → renumbered A o c ≡ count c (reached A o)
  pub number_below : (c : ℕ) → Reached A o c → renumbered A o c < length (kept A o)
  pub back : (c : ℕ) → Reached A o c → get_or (kept A o) (renumbered A o c) 0 ≡ c
  pub forth : (i : ℕ) → i < length (kept A o) → renumbered A o (get_or (kept A o) i 0) ≡ i

-- ---- the card

-- what one sees of a move: the action, or the refusal; the cell's number is not seen
pub data Told : Type 0 where
  acts : (action : ℕ) → Told
  refuses : Refusal → Told

unfoldable pub told : Move → Told
told (Ok m) = acts m.action.0
told (Err e) = refuses e

module _ (w : List ℕ) where
  -- the card's automaton and its observations; the trimmed card's automaton
  abbrev A : Automaton
  A = automaton w

  abbrev o : ℕ
  o = card_observations w

  abbrev B : Automaton
  B = automaton (trimmed w)

  -- the trimmed words are a card of the kept cells, for as many actions and observations; a kept cell's set and action stay, and the
  -- first and next cells are the renumbered ones
  pub record Trimming : Type 0 where
    pub right : checked (trimmed w) ≡ Ok tt
    pub cells : card_cells (trimmed w) ≡ length (kept A o)
    pub words : length (trimmed w) ≡ card_length (length (kept A o)) o
    pub actions : card_actions (trimmed w) ≡ card_actions w
    pub observations : card_observations (trimmed w) ≡ o
    pub set_same : (c : ℕ) → Reached A o c → B.set (renumbered A o c) ≡ A.set c
    pub action_same : (c : ℕ) → Reached A o c → B.action (renumbered A o c) ≡ A.action c
    pub begins_same : (j : ℕ) → j < o → B.begins j ≡ renumbered A o (A.begins j)
    pub next_same : (c j : ℕ) → Reached A o c → j < o → B.next (renumbered A o c) j ≡ renumbered A o (A.next c j)

  -- on every list of numbers the trimmed card gives the same action, or the same refusal with the same place
  abbrev pub SameRuns : Type 0
  SameRuns = (h : List ℕ) → told (ran (trimmed w) h) ≡ told (ran w h)

  -- all of it: the trimmed card runs the same, keeps clear what the card keeps clear, controls what it controls, and is accepted where the
  -- card is (so it is safe); trimming twice changes nothing
  pub record Promise : Type 0 where
    pub found : Finds A o
    pub keeping : Keeping A o
    pub card : Trimming
    pub same_runs : SameRuns
    pub stays_kept : (g : Game) → Kept g w → Kept g (trimmed w)
    pub stays_controlled : (g : Game) → Controls g w → Controls g (trimmed w)
    pub stays_certified : (table : List ℕ) → certified table w ≡ Ok tt → certified table (trimmed w) ≡ Ok tt
    pub stays_safe : (table : List ℕ) → certified table w ≡ Ok tt → Safe (game table) (trimmed w)
    pub twice : trimmed (trimmed w) ≡ trimmed w
