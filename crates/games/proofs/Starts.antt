-- The sets before the first action: every first state and observation of a play belong to one of them, and each has only such states.
-- Assumes nothing.
use mathlib.Core.Path.{◌≡◌, sym, ◌∙◌}
use mathlib.Core.Bool.{true, false}
use Prim.Native.Nat.{ℕ, ◌^◌, ◌<◌}
use Rattle.sets.specs.Mask.{member}
use Rattle.sets.specs.Family.{Family}
use Rattle.sets.proofs.Logic.{and_intro, and_left, and_right}
use Rattle.sets.specs.Bounded.{all}
use Rattle.sets.proofs.Bounded.{all_at, all_intro, all_fails, all_refuted, all_ext}
use Rattle.sets.proofs.Mask.{member_and, common_lt_left}
use Rattle.games.specs.Game.{Game, Accepted, Shows}
use Rattle.games.specs.Verdict.{start_sets, start_set, starts_in}

-- the stations come first, so that a wrong definition is refused by the station that it breaks

module _ (g : Game) where
  pub start_below : Accepted g → (o : ℕ) → start_set g o < 2 ^ g.states
  unfolding start_set
  start_below A o = common_lt_left g.states g.start (g.shown o) A.start_below

  -- a start state that shows o is a member of set number o
  pub start_member : (i o : ℕ) → member g.start i ≡ true → Shows g i o → (o < start_sets g) × (member (start_set g o) i ≡ true)
  unfolding start_set start_sets
  start_member i o m shows = (shows.0, member_and g.start (g.shown o) i ∙ and_intro m shows.1)

  -- and its members are such states
  pub start_state : (i o : ℕ) → o < start_sets g → member (start_set g o) i ≡ true → (member g.start i ≡ true) × Shows g i o
  unfolding start_set start_sets
  start_state i o l m =
      let both = sym (member_and g.start (g.shown o) i) ∙ m in
      (and_left (member g.start i) (member (g.shown o) i) both, (l, and_right (member g.start i) (member (g.shown o) i) both))

  -- all of them are in the family, or one is not
  module _ (F : Family) where
    pub starts_at : starts_in g F ≡ true → (o : ℕ) → o < start_sets g → F (start_set g o) ≡ true
    unfolding starts_in
    starts_at h = all_at (start_sets g) (λ o. F (start_set g o)) h

    pub starts_all : ((o : ℕ) → o < start_sets g → F (start_set g o) ≡ true) → starts_in g F ≡ true
    unfolding starts_in
    starts_all h = all_intro (start_sets g) (λ o. F (start_set g o)) h

    pub starts_fail : starts_in g F ≡ false → (o : ℕ) × (o < start_sets g) × (F (start_set g o) ≡ false)
    unfolding starts_in
    starts_fail h = all_fails (start_sets g) (λ o. F (start_set g o)) h

    -- as code goes through them
    pub starts_passed : all (start_sets g) (λ o. F (start_set g o)) ≡ true → starts_in g F ≡ true
    unfolding starts_in
    starts_passed h = h

    pub starts_stop : (o : ℕ) → o < start_sets g → F (start_set g o) ≡ false → starts_in g F ≡ false
    unfolding starts_in
    starts_stop o l h = all_refuted (start_sets g) (λ j. F (start_set g j)) o l h

    pub starts_ext : (G : Family) → ((o : ℕ) → o < start_sets g → F (start_set g o) ≡ G (start_set g o)) → starts_in g F ≡ starts_in g G
    unfolding starts_in
    starts_ext G h = all_ext (start_sets g) (λ o. F (start_set g o)) (λ o. G (start_set g o)) h
