-- A card that keeps every play clear controls the station, in a runner and in a run over a list.
-- Assumes nothing.
use mathlib.Core.Path.{◌≡◌, sym, ap, subst, ◌∙◌}
use mathlib.Core.List.{List}
use Prim.Native.Nat.{ℕ, suc}
use native.Mathlib.Nat.{le_refl}
use native.Mathlib.Omega.{arith}
use lib.ListN.{take}
use lib.Seq.{take-length}
use Rattle.sets.specs.Bounded.{filled_by}
use Rattle.games.specs.Answers.{leaves}
use Rattle.games.specs.Game.{Game}
use Rattle.games.specs.Play.{Play, begin, more, PlayOf, seen, rounds}
use Rattle.games.specs.Demands.{UnderCard}
use Rattle.games.proofs.Plays.{rounds_from_one, rounds_seen, some_seen}
use Rattle.cards.specs.Card.{automaton, checked}
use Rattle.cards.specs.Run.{entered, moved, ran, as_observation, advances}
use Rattle.cards.specs.Kept.{Kept}
use Rattle.cards.specs.Run.{Move}
use Rattle.cards.specs.declared.Stood.{Stood}
use Rattle.cards.proofs.Runs.{moved_entered, ran_one, ran_more}
use Rattle.runner.specs.Runs.{ran_into}
use Rattle.runner.specs.Control.{cell, action, Enters, Controls}
use Rattle.runner.proofs.Plays.{standing_one, standing_more, runner_goes, run_goes}
use Rattle.std.specs.Prelude.{Ok}

module _ (g : Game) (k : List ℕ) where
  -- the card enters a cell on every play under it
  abbrev pub Runs : Type 0
  Runs = (p : Play) → PlayOf g p → UnderCard (automaton k) p → ran k (seen p) ≡ entered (cell k (seen p)) (action k (seen p))

  -- a card that is right and does so controls the station, whoever drew it
  pub runs_controls : checked k ≡ Ok tt → Runs → Controls g k
  runs_controls right runs =
      let A = automaton k in
      record {
        each_move = λ p played under i from_one most. runner_goes g A k runs p played under i from_one (omega (arith, rounds_seen p));
        whole_run = λ p played under d room.
            subst (λ (n : ℕ). ran_into k (seen p) d ≡ leaves (Ok n) (filled_by n (λ i. action k (take (suc i) (seen p))) d)) (rounds_seen p)
            (run_goes g A k runs right p played under d (omega (arith, rounds_seen p)));
      }

  pub kept_controls : Kept g k → Controls g k
  kept_controls K = runs_controls K.right K.runs

  -- and one that controls the station does so
  module _ (C : Controls g k) where
    last : (p : Play) → PlayOf g p → UnderCard (automaton k) p → Enters k (seen p)
    last p played under =
        subst (Enters k) (ap (λ (n : ℕ). take n (seen p)) (sym (rounds_seen p)) ∙ take-length (seen p))
        (C.each_move p played under (rounds p) (rounds_from_one p) (le_refl (rounds p)))

    pub controls_runs : Runs
    unfolding PlayOf UnderCard seen
    controls_runs (begin i o) m u = ran_one k o ∙ ap (λ (s : Stood). s.answer) (sym (standing_one k o) ∙ last (begin i o) m u)
    controls_runs (more p b i o) m u =
        let h = seen p in
        let l = some_seen p in
        ran_more k h o l
        ∙ ap (λ (r : Move). moved k r o) (controls_runs p m.0 u.0)
        ∙ moved_entered k (cell k h) (action k h) o
        ∙ ap (λ (s : Stood). s.answer)
        (sym (ap (λ (s : Stood). advances k s.cell (as_observation o)) (last p m.0 u.0)) ∙ sym (standing_more k h o l) ∙ last (more p b i o) m u)
