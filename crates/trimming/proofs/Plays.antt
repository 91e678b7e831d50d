-- On the plays of a game on which a card enters a cell, the trimmed card is in that cell's new number and gives the same action; so it keeps
-- them clear where the card does, and controls the station where the card does.
-- Assumes nothing.
use mathlib.Core.Path.{◌≡◌, sym, ap, ap₂, ◌∙◌, subst}
use mathlib.Core.Bool.{true}
use mathlib.Core.List.{List}
use Prim.Native.Nat.{ℕ, ◌<◌}
use Rattle.games.specs.Game.{Game}
use Rattle.games.specs.Play.{Play, begin, more, PlayOf, seen}
use Rattle.games.specs.Automaton.{Automaton, cell_after, action_after}
use Rattle.games.specs.Demands.{UnderCard, Keeps, Second}
use Rattle.cards.specs.Card.{card_observations, automaton, checked}
use Rattle.cards.specs.Run.{entered, ran}
use Rattle.cards.specs.Kept.{Kept}
use Rattle.cards.proofs.Runs.{action_after_lem, not_entered, same_entered, ran_cell}
use Rattle.runner.specs.Control.{Controls}
use Rattle.runner.proofs.Control.{Runs, runs_controls, controls_runs}
use Rattle.trimming.specs.Trim.{reached, renumbered, trimmed}
use Rattle.trimming.proofs.Trimmed.{trimmed_checked, new_inside, new_set, new_action}
use Rattle.trimming.proofs.Running.{Beside, both_enter, both_refuse, ran_beside}
use Rattle.std.specs.Prelude.{Ok}

-- after the observations the card is in a reached cell, and the trimmed card in that cell's new number, with the same action
record Along (w h : List ℕ) : Type 0 where
  cell_in : cell_after (automaton w) h < (automaton w).size
  cell_reached : reached (automaton w) (card_observations w) (cell_after (automaton w) h) ≡ true
  cell_new : cell_after (automaton (trimmed w)) h ≡ renumbered (automaton w) (card_observations w) (cell_after (automaton w) h)
  action_same : action_after (automaton (trimmed w)) h ≡ action_after (automaton w) h
  run : ran (trimmed w) h ≡ entered (cell_after (automaton (trimmed w)) h) (action_after (automaton (trimmed w)) h)

along_run : (w : List ℕ) → checked w ≡ Ok tt → (h : List ℕ) → ran w h ≡ entered (cell_after (automaton w) h) (action_after (automaton w) h)
    → Beside (automaton w) (card_observations w) (ran (trimmed w) h) (ran w h) → Along w h
along_run w e h runs (both_refuse n p f g) = not_entered n p (cell_after (automaton w) h) (action_after (automaton w) h) (sym g ∙ runs)
along_run w e h runs (both_enter c a l r f g) =
    let A = automaton w in
    let B = automaton (trimmed w) in
    let o = card_observations w in
    let same = same_entered c a (cell_after A h) (action_after A h) (sym g ∙ runs) in
    let here = same.0 in
    let gives = same.1 in
    let there : cell_after B h ≡ renumbered A o c = ran_cell (trimmed w) (trimmed_checked w e) (renumbered A o c) a h f in
    let given : action_after B h ≡ a = action_after_lem B h ∙ ap B.action there ∙ new_action w e c l r ∙ ap A.action here ∙ sym (action_after_lem A h) ∙ sym gives in
    record {
      cell_in = subst (λ (d : ℕ). d < A.size) here l;
      cell_reached = subst (λ (d : ℕ). reached A o d ≡ true) here r;
      cell_new = there ∙ ap (renumbered A o) here;
      action_same = given ∙ gives;
      run = f ∙ ap₂ entered (sym there) (sym given);
    }

-- a card that enters a cell on every play of a game under it
module _ (g : Game) (w : List ℕ) (right : checked w ≡ Ok tt) (runs : Runs g w) where
  abbrev C : Automaton
  C = automaton w

  abbrev T : Automaton
  T = automaton (trimmed w)

  along : (p : Play) → PlayOf g p → UnderCard C p → Along w (seen p)
  along p m u = along_run w right (seen p) (runs p m u) (ran_beside w right (seen p))

  -- the same plays are under both
  under_trimmed : (p : Play) → PlayOf g p → UnderCard C p → UnderCard T p
  unfolding PlayOf UnderCard
  under_trimmed (begin i j) m u = tt
  under_trimmed (more p a i j) m u = (under_trimmed p m.0 u.0, u.1 ∙ sym (along p m.0 u.0).action_same)

  under_full : (p : Play) → PlayOf g p → UnderCard T p → UnderCard C p
  unfolding PlayOf UnderCard
  under_full (begin i j) m u = tt
  under_full (more p a i j) m u = let v = under_full p m.0 u.0 in (v, u.1 ∙ (along p m.0 v).action_same)

  -- the trimmed card enters one too
  trimmed_runs : Runs g (trimmed w)
  trimmed_runs p m u = (along p m (under_full p m u)).run

  -- and it keeps them clear where the card does
  module _ (S : Second g C) where
    trimmed_keeps : (p : Play) → PlayOf g p → UnderCard T p → Keeps g T p
    trimmed_keeps p m u =
        let v = under_full p m u in
        let k = S.keeps p m v in
        let s = along p m v in
        let c = cell_after C (seen p) in
        record {
          cell_below = rw s.cell_new (new_inside w right c s.cell_in s.cell_reached);
          held = rw (s.cell_new, new_set w right c s.cell_in s.cell_reached) k.held;
          not_bad = k.not_bad;
          action_below = rw s.action_same k.action_below;
          action_enabled = rw s.action_same k.action_enabled;
        }

    trimmed_second : Second g T
    trimmed_second =
        record {
          keeps = trimmed_keeps;
          strategy = (
            S.strategy.0,
            λ p m u. let v = under_full p m u in S.strategy.1 p m v ∙ sym (along p m v).action_same,
          );
          clear = λ ρ agrees. S.clear ρ (λ p m u. agrees p m (under_trimmed p m u) ∙ (along p m u).action_same);
        }

-- ---- the trimmed card on the plays of a game

module _ (g : Game) (w : List ℕ) where
  pub trimmed_kept : Kept g w → Kept g (trimmed w)
  trimmed_kept K = record {
    right = trimmed_checked w K.right;
    second = trimmed_second g w K.right K.runs K.second;
    runs = trimmed_runs g w K.right K.runs;
  }

  pub trimmed_controls : checked w ≡ Ok tt → Controls g w → Controls g (trimmed w)
  trimmed_controls right C = runs_controls g (trimmed w) (trimmed_checked w right) (trimmed_runs g w right (controls_runs g w C))
