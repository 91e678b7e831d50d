-- Laws of a cell's words: trying the actions, the cell for each observation.
-- Assumes nothing.
use mathlib.Core.Path.{◌≡◌, sym, ap, ap₂, ◌∙◌, subst}
use mathlib.Core.Bool.{true, false}
use mathlib.Core.List.{List, [], ◌∷◌}
use Prim.Native.Nat.{ℕ, ◌+◌, ◌^◌, ◌≤◌, ◌<◌}
use native.Mathlib.Omega.{arith}
use lib.ListN.{length}
use Rattle.sets.specs.Mask.{common}
use Rattle.sets.specs.Bounded.{Found, nothing, first, or_else, gather, all}
use Rattle.sets.specs.Family.{holds}
use Rattle.sets.proofs.Logic.{clash}
use Rattle.sets.proofs.Fills.{gather_ext}
use Rattle.sets.proofs.Bounded.{first_nothing, first_skip, first_stop, all_refuted}
use Rattle.games.specs.Format.{max_actions, max_observations, kind_cell, kind_next}
use Rattle.games.specs.Game.{Game, Accepted}
use Rattle.games.specs.Step.{after, meets, lowest}
use Rattle.games.specs.Verdict.{settled, cells}
use Rattle.games.specs.Fields.{word}
use Rattle.games.specs.Automaton.{holding, chosen}
use Rattle.games.proofs.Steps.{step_action, shown_below}
use Rattle.games.proofs.Settling.{cells_hold, settled_step}
use Rattle.std.specs.Prelude.{Option, Some, None}
use Rattle.games.specs.declared.Cell.{Cell}
use Rattle.index.specs.Index.{held_by}
use Rattle.index.proofs.Answer.{nowhere_unheld, by_holding}
use Rattle.moves.specs.Halves.{posted, shown_in}
use Rattle.moves.proofs.Posting.{posted_post, meets_blocked, meets_shown}
use Rattle.writing.specs.Writing.{SettledSet, set_words}

-- no action below a meets the step
pub record NoneMeets (g : Game) (s o last a : ℕ) (out : List ℕ) : Type 0 where
  pub observations_are : o ≡ g.observations
  pub observations_few : o ≤ max_observations
  pub actions_are : last ≡ g.actions
  pub actions_few : last ≤ max_actions
  pub within : a ≤ last
  pub size : length out ≡ 1 + o
  pub none : first a (meets g (settled g) s) ≡ nothing

-- the word of an observation when the successors are u
abbrev pub next_word : Game → List ℕ → ℕ → ℕ → ℕ
next_word g l u j = word kind_next (holding l (common u (g.shown j))) j 0

module _ (g : Game) (s o last a : ℕ) (out : List ℕ) (w : NoneMeets g s o last a out) where
  pub none_next : meets g (settled g) s a ≡ false → a < last → NoneMeets g s o last (a + 1) out
  none_next h b =
      record {
        observations_are = w.observations_are;
        observations_few = w.observations_few;
        actions_are = w.actions_are;
        actions_few = w.actions_few;
        within = omega arith;
        size = w.size;
        none = first_skip a (meets g (settled g) s) w.none h;
      }

  -- another content of the part
  pub none_with : (e : List ℕ) → length e ≡ 1 + o → NoneMeets g s o last a e
  none_with e h =
      record {
        observations_are = w.observations_are;
        observations_few = w.observations_few;
        actions_are = w.actions_are;
        actions_few = w.actions_few;
        within = w.within;
        size = h;
        none = w.none;
      }

  pub chosen_is : a < last → meets g (settled g) s a ≡ true → chosen g s ≡ a
  unfolding chosen lowest
  chosen_is b h =
      ap (λ (f : Found). or_else f 0)
      (first_stop g.actions (meets g (settled g) s) a (subst (λ (n : ℕ). a < n) w.actions_are b) w.none h)

  -- an action that meets the step is found
  pub never_none : Accepted g → SettledSet g s → last ≤ a → ⊥
  never_none A c b =
      let h = step_action g (settled g) s (sym (settled_step g A s c.below) ∙ c.is_settled) in
      clash h.2 (first_nothing a (meets g (settled g) s) w.none h.0 (omega (arith, w.actions_are, h.1)))

module _ (g : Game) (s a : ℕ) (r : Option ℕ) (is : r ≡ posted g s a) where
  pub blocked_fails : r ≡ None → meets g (settled g) s a ≡ false
  blocked_fails e = sym (meets_blocked g (settled g) s a r is e)

  module _ (u : ℕ) (e : r ≡ Some u) where
    pub uncovered_fails : (j : ℕ) → j < g.observations → settled g (common u (g.shown j)) ≡ false → meets g (settled g) s a ≡ false
    unfolding shown_in
    uncovered_fails j l f =
        sym (meets_shown g (settled g) s a r is u e) ∙ all_refuted g.observations (λ o. settled g (common u (g.shown o))) j l f

    pub covered_meets : all g.observations (λ o. settled g (common u (g.shown o))) ≡ true → meets g (settled g) s a ≡ true
    unfolding shown_in
    covered_meets h = sym (meets_shown g (settled g) s a r is u e) ∙ h

    pub after_is : (j : ℕ) → common u (g.shown j) ≡ after g s a j
    unfolding after
    after_is j = ap (λ (v : ℕ). common v (g.shown j)) (sym (posted_post g s a r is u e).1)

-- the part of the successors u that shows an observation: a cell holds it where it is settled
module _ (g : Game) (A : Accepted g) (l : List ℕ) (listed : l ≡ cells g) (u b j : ℕ) (there : j < g.observations) (shown : b ≡ g.shown j) where
  pub part_below : common u b < 2 ^ g.states
  part_below = subst (λ (x : ℕ). common u x < 2 ^ g.states) (sym shown) (shown_below g A u j there)

  part_held : settled g (common u (g.shown j)) ≡ holds l (common u b)
  part_held =
      ap (λ (x : ℕ). settled g (common u x)) (sym shown) ∙ sym (cells_hold g A (common u b) part_below)
      ∙ ap (λ (k : List ℕ). holds k (common u b)) (sym listed)

  module _ (r : Option Cell) (is : r ≡ held_by l (common u b)) where
    pub part_lost : r ≡ None → settled g (common u (g.shown j)) ≡ false
    part_lost e = part_held ∙ nowhere_unheld l (common u b) r is e

    pub part_named : (c : Cell) → r ≡ Some c → (settled g (common u (g.shown j)) ≡ true) × (c.0 ≡ holding l (common u b))
    part_named c e = let w = by_holding l (common u b) r is c e in (part_held ∙ w.0, w.1)

pub set_words_lem : (g : Game) (l : List ℕ) → l ≡ cells g → (s a u o x : ℕ) → o ≡ g.observations → chosen g s ≡ a → ((j : ℕ) → common u (g.shown j) ≡ after g s a j) → x ≡ word kind_cell s 0 a → x ∷ gather o (λ j. next_word g l u j ∷ []) ≡ set_words g s
unfolding set_words
set_words_lem g l e s a u o x h c f i =
    ap₂ (λ (y : ℕ) (r : List ℕ). y ∷ r) (i ∙ ap (word kind_cell s 0) (sym c))
    (ap₂ (λ (n : ℕ) (k : List ℕ). gather n (λ j. next_word g k u j ∷ [])) h e
    ∙ gather_ext g.observations (λ j. next_word g (cells g) u j ∷ []) (λ j. word kind_next (holding (cells g) (after g s (chosen g s) j)) j 0 ∷ [])
    (λ j b. ap (λ (t : ℕ). word kind_next (holding (cells g) t) j 0 ∷ []) (f j ∙ ap (λ (b : ℕ). after g s b j) (sym c))))

pub next_word_lem : (g : Game) (l : List ℕ) (u j r c b t : ℕ) → r ≡ word kind_next c j 0 → c ≡ holding l t → t ≡ common u b → b ≡ g.shown j → r ≡ next_word g l u j
next_word_lem g l u j r c b t is named cut shown =
    is ∙ ap (λ (x : ℕ). word kind_next x j 0) (named ∙ ap (holding l) (cut ∙ ap (common u) shown))
