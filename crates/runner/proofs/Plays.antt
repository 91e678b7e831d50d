-- Words that enter a cell on every play of a game under a card are never refused there: not where a runner is opened on them and moved
-- by the play's observations, and not where they are run over these.
-- Assumes nothing.
use mathlib.Core.Path.{◌≡◌, refl, sym, ap, ap₂, subst, ◌∙◌}
use mathlib.Core.Logic.{⊎_elim}
use mathlib.Core.List.{List, [], ◌∷◌, ◌++◌}
use Prim.Native.Nat.{ℕ, zero, suc, ◌≤◌, ◌<◌}
use native.Mathlib.Nat.{not-suc-le-zero, eq-or-lt_of_le}
use native.Mathlib.Numerals.{add-one}
use native.Mathlib.Omega.{arith}
use lib.ListN.{length, take, length-append}
use lib.Seq.{take-append-le, take-length}
use Rattle.games.specs.Game.{Game}
use Rattle.games.specs.Play.{Play, begin, more, PlayOf, seen}
use Rattle.games.specs.Automaton.{Automaton, cell_after, action_after}
use Rattle.games.specs.Demands.{UnderCard}
use Rattle.games.proofs.Plays.{some_seen}
use Rattle.sets.specs.Bounded.{filled_by}
use Rattle.sets.proofs.Fills.{filled_ext}
use Rattle.games.specs.Answers.{leaves}
use Rattle.cards.specs.Card.{checked}
use Rattle.cards.specs.Run.{entered, opened, stepped, moved, ran, as_cell, as_observation, stands, starts, advances}
use Rattle.cards.specs.Run.{Move}
use Rattle.cards.specs.declared.Stood.{Stood}
use Rattle.cards.proofs.Runs.{moved_entered, ran_one, ran_more}
use Rattle.runner.specs.Runs.{standing_from, standing, move_at, action_of, further, ran_up_to, with_actions, ran_into}
use Rattle.runner.proofs.Laws.{run_done, into_fine}
use Rattle.std.specs.Prelude.{Ok}

-- ---- one observation more moves the runner

standing_from_more : (w : List ℕ) (s : Stood) (h : List ℕ) (j : ℕ) → standing_from w s (h ++ (j ∷ [])) ≡ advances w (standing_from w s h).cell (as_observation j)
unfolding standing_from
standing_from_more w s [] j = refl
standing_from_more w s (i ∷ h) j = standing_from_more w (advances w s.cell (as_observation i)) h j

pub standing_one : (w : List ℕ) (j : ℕ) → standing w (j ∷ []) ≡ starts w (as_observation j)
unfolding standing standing_from
standing_one w j = refl

pub standing_more : (w h : List ℕ) (j : ℕ) → 0 < length h → standing w (h ++ (j ∷ [])) ≡ advances w (standing w h).cell (as_observation j)
unfolding standing
standing_more w [] j l = absurd (not-suc-le-zero l)
standing_more w (i ∷ h) j l = standing_from_more w (starts w (as_observation i)) h j

-- a runner that stands after observations, moved by one more
pub stands_more : (w h : List ℕ) (j : ℕ) {s t : Stood} → 0 < length h → s ≡ standing w h → t ≡ advances w s.cell (as_observation j) → t ≡ standing w (h ++ (j ∷ []))
stands_more w h j l e f = f ∙ ap (λ (u : Stood). advances w u.cell (as_observation j)) e ∙ sym (standing_more w h j l)

-- where a cell is entered, the runner is in it
starts_entered : (w : List ℕ) (j c a : ℕ) → opened w j ≡ entered c a → starts w (as_observation j) ≡ stands (as_cell c) (entered c a)
starts_entered w j c a e = rw e

advances_entered : (w : List ℕ) (b j c a : ℕ) → stepped w b j ≡ entered c a → advances w (as_cell b) (as_observation j) ≡ stands (as_cell c) (entered c a)
advances_entered w b j c a e = rw e

-- ---- c and a are the cell that the card is said to be in after observations, and its action

module _ (w : List ℕ) (c a : List ℕ → ℕ) where
  -- the card enters that cell on the last of them
  abbrev pub Enters : List ℕ → Type 0
  Enters h = ran w h ≡ entered (c h) (a h)

  -- a runner that was opened and moved by them is in that cell, and has given the action
  abbrev pub Runs : List ℕ → Type 0
  Runs h = standing w h ≡ stands (as_cell (c h)) (entered (c h) (a h))

  runs_one : (j : ℕ) → Enters (j ∷ []) → Runs (j ∷ [])
  runs_one j e = standing_one w j ∙ starts_entered w j (c (j ∷ [])) (a (j ∷ [])) (sym (ran_one w j) ∙ e)

  runs_more : (h : List ℕ) (j : ℕ) → 0 < length h → Enters h → Enters (h ++ (j ∷ [])) → Runs h → Runs (h ++ (j ∷ []))
  runs_more h j l e f r =
      standing_more w h j l
      ∙ ap (λ (s : Stood). advances w s.cell (as_observation j)) r
      ∙ advances_entered w (c h) j (c (h ++ (j ∷ []))) (a (h ++ (j ∷ [])))
      (sym (ran_more w h j l ∙ ap (λ (m : Move). moved w m j) e ∙ moved_entered w (c h) (a h) j) ∙ f)

  -- the card enters a cell on each of them: the run takes them all and writes the actions
  module _ (h : List ℕ) (fine : checked w ≡ Ok tt) (each : (k : ℕ) → 0 < k → k ≤ length h → Enters (take k h)) where
    taken : (k : ℕ) → k ≤ length h → ran_up_to w h k ≡ Ok k
    unfolding ran_up_to
    taken zero l = refl
    taken (suc k) l = ap₂ further (taken k (omega arith)) (each (suc k) (omega arith) l) ∙ ap Ok (add-one k)

    run_enters : (d : List ℕ) → length h ≤ length d → ran_into w h d ≡ leaves (Ok (length h)) (filled_by (length h) (λ i. a (take (suc i) h)) d)
    run_enters d l =
        into_fine w h d fine
        ∙ sym (run_done w h d (length h) (with_actions w h (length h) d) (taken (length h) (omega arith)) l refl)
        ∙ ap (leaves (Ok (length h)))
        (filled_ext (λ i. action_of (move_at w h i)) (λ i. a (take (suc i) h)) (length h) d (λ i b. ap action_of (each (suc i) (omega arith) b)))

-- ---- on the plays under the card

-- words w that, on every play under a card, enter the cell that its automaton is in and give its action (`ran`)
module _ (g : Game) (A : Automaton) (w : List ℕ) (enters : (p : Play) → PlayOf g p → UnderCard A p → Enters w (cell_after A) (action_after A) (seen p)) where
  abbrev InCell : List ℕ → Type 0
  InCell h = Enters w (cell_after A) (action_after A) h

  abbrev Standing : List ℕ → Type 0
  Standing h = Runs w (cell_after A) (action_after A) h

  -- the beginnings of a play are plays: what holds after every play holds after each of its observations
  beginning : (P : List ℕ → Type 0) → ((p : Play) → PlayOf g p → UnderCard A p → P (seen p)) → (p : Play) → PlayOf g p → UnderCard A p → (k : ℕ) → 0 < k → k ≤ length (seen p) → P (take k (seen p))
  unfolding PlayOf UnderCard seen
  beginning P after (begin i o) m u k s l =
      let e : 1 ≡ k = omega arith in
      subst (λ (n : ℕ). P (take n (o ∷ []))) e (after (begin i o) m u)
  beginning P after (more p b i o) m u k s l =
      let h = seen p ++ (o ∷ []) in
      ⊎_elim
      (λ (e : k ≡ length h). subst P (sym (ap (λ (n : ℕ). take n h) e ∙ take-length h)) (after (more p b i o) m u))
      (λ (f : k < length h).
      let n : k ≤ length (seen p) = omega (arith, length-append (seen p) (o ∷ [])) in
      subst P (sym (take-append-le k (seen p) (o ∷ []) n)) (beginning P after p m.0 u.0 k s n))
      (eq-or-lt_of_le l)

  -- opened with the play's first observation and moved by the others, the runner is not refused by the last
  stands_last : (p : Play) → PlayOf g p → UnderCard A p → Standing (seen p)
  unfolding PlayOf UnderCard seen
  stands_last (begin i o) m u = runs_one w (cell_after A) (action_after A) o (enters (begin i o) m u)
  stands_last (more p b i o) m u =
      runs_more w (cell_after A) (action_after A) (seen p) o (some_seen p) (enters p m.0 u.0) (enters (more p b i o) m u)
      (stands_last p m.0 u.0)

  -- so it is refused by none
  pub runner_goes : (p : Play) → PlayOf g p → UnderCard A p → (k : ℕ) → 0 < k → k ≤ length (seen p) → Standing (take k (seen p))
  runner_goes = beginning Standing stands_last

  -- and where the words are a card, the run over the play's observations takes them all
  pub run_goes : checked w ≡ Ok tt → (p : Play) → PlayOf g p → UnderCard A p → (d : List ℕ) → length (seen p) ≤ length d
      → ran_into w (seen p) d ≡ leaves (Ok (length (seen p))) (filled_by (length (seen p)) (λ i. action_after A (take (suc i) (seen p))) d)
  run_goes fine p m u d l = run_enters w (cell_after A) (action_after A) (seen p) fine (beginning InCell enters p m u) d l
