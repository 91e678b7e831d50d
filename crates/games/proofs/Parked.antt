-- Parked states end a play well, and words without the bit mean what they meant.
-- Assumes nothing.
use mathlib.Core.Path.{◌≡◌, refl, sym, ap, ◌∙◌}
use mathlib.Core.Bool.{true, false}
use mathlib.Core.Logic.{⊎_elim}
use mathlib.Core.List.{List}
use Prim.Native.Nat.{ℕ, zero, suc, ◌<◌}
use lib.ListN.{get_or}
use Rattle.sets.specs.Mask.{member, subset, without}
use Rattle.sets.proofs.Logic.{decided, clash, same_truth, refuted}
use Rattle.sets.proofs.Mask.{member_zero, member_below, ext_all, subset_member, without_subset, member_without_other, union_over_found, union_over_intro}
use Rattle.games.specs.Fields.{head_marked}
use Rattle.games.specs.Places.{parked_words}
use Rattle.games.specs.Game.{Game, Accepted}
use Rattle.games.specs.Play.{Play, more, PlayOf, last, seen}
use Rattle.games.specs.Step.{safe, enabled_at, post, after, step, good}
use Rattle.games.specs.Words.{game}
use Rattle.games.specs.Parked.{Finishes, plain_game, Unmarked}
use Rattle.games.proofs.Enabled.{enabled_parked, enabled_unparked}
use Rattle.games.proofs.Steps.{enabled_at_is, enabled_intro, enabled_subset, after_found, meets_intro, step_safe, step_intro, good_empty}

module _ (g : Game) (A : Accepted g) where
  parked_state : (i : ℕ) → member g.parked i ≡ true → i < g.states
  parked_state i e = member_below g.states g.parked i A.parked_below e

  -- no state is a successor of a parked one
  no_successor : (a i j : ℕ) → a < g.actions → member g.parked i ≡ true → member (g.successors a i) j ≡ false
  no_successor a i j l e = rw (A.parked_end a i l (parked_state i e) e) (member_zero j)

  ends : (p : Play) (a i o : ℕ) → member g.parked (last p) ≡ true → PlayOf g (more p a i o) → ⊥
  unfolding PlayOf
  ends p a i o e h = clash h.2 (no_successor a (last p) i h.1 e)

  -- a member that isn't i is a member without it
  apart : (s i j : ℕ) → member g.parked i ≡ true → member g.parked j ≡ false → member s j ≡ true → member (without s i) j ≡ true
  apart s i j e f m = member_without_other s i j (λ q. clash e (rw q at f)) ∙ m

  asks_nothing : (s a i : ℕ) → member g.parked i ≡ true → enabled_at g (without s i) a ≡ enabled_at g s a
  asks_nothing s a i e =
      same_truth (enabled_at g (without s i) a) (enabled_at g s a)
      (λ h. enabled_intro g s a
      (λ j l m.
      ⊎_elim (λ q. enabled_parked g j a q) (λ q. enabled_at_is g (without s i) a h j l (apart s i j e q m)) (decided (member g.parked j))))
      (λ h. enabled_subset g s (without s i) a (without_subset s i) h)

  adds_nothing : (s a i : ℕ) → a < g.actions → member g.parked i ≡ true → post g (without s i) a ≡ post g s a
  unfolding post
  adds_nothing s a i l e =
      let n = g.states in
      let f = g.successors a in
      ext_all (post g (without s i) a) (post g s a)
      (λ j. same_truth (member (post g (without s i) a) j) (member (post g s a) j)
      (λ h. let x = union_over_found n (without s i) f j h in union_over_intro n s f j x.0 x.1 (subset_member (without s i) s (without_subset s i) x.0 x.2) x.3)
      (λ h. let x = union_over_found n s f j h in
      ⊎_elim (λ q. clash x.3 (no_successor a x.0 j l q))
      (λ q. union_over_intro n (without s i) f j x.0 x.1 (apart s i x.0 e q x.2) x.3)
      (decided (member g.parked x.0))))

  -- a set of parked states has no successors
  nothing_after : (s a o : ℕ) → a < g.actions → subset s g.parked ≡ true → after g s a o ≡ 0
  nothing_after s a o l h =
      ext_all (after g s a o) 0
      (λ j. refuted (member (after g s a o) j)
      (λ m. let x = after_found g s a o j m in clash x.3 (no_successor a x.0 j l (subset_member s g.parked h x.0 x.2)))
      ∙ sym (member_zero j))

  always_good : (s k : ℕ) → subset s g.parked ≡ true → safe g s ≡ true → good g k s ≡ true
  unfolding good
  always_good s zero h e = refl
  always_good s (suc k) h e =
      step_intro g (good g k) s 0 e A.some_action
      (meets_intro g (good g k) s 0
      (enabled_intro g s 0 (λ i l m. enabled_parked g i 0 (subset_member s g.parked h i m)))
      (λ o l. ap (good g k) (nothing_after s 0 o A.some_action h) ∙ good_empty g A k))

  bad_one : (s k : ℕ) → safe g s ≡ false → good g (suc k) s ≡ false
  unfolding good
  bad_one s k e = refuted (step g (good g k) s) (λ h. clash (step_safe g (good g k) s h) e)

  pub finishes : Finishes g
  finishes =
      record {
        ends = ends;
        survived = λ ρ p e f. (f, enabled_parked g (last p) (ρ.pick (seen p)) e);
        lost = λ ρ p e f h. clash f h.0;
        asks_nothing = asks_nothing;
        adds_nothing = adds_nothing;
        always_good = always_good;
        bad_one = λ s k h e. bad_one s k e;
      }

-- ---- words without the bit

module _ (w : List ℕ) (none : head_marked (get_or w 0 0) ≡ false) where
  pub unparked : (game w).parked ≡ 0
  unfolding game
  unparked = rw none

  meaning : game w ≡ plain_game w
  unfolding game plain_game parked_words
  meaning = rw none

pub unmarked : (w : List ℕ) → Unmarked w
unmarked w none =
    record { meaning = meaning w none; enabled_is = λ i a. enabled_unparked (game w) i a (unparked w none) }
