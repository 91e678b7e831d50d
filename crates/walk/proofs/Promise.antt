-- The walk's answer in plain words: it is right, and no other answer is.
-- Assumes nothing.
use mathlib.Core.Path.{◌≡◌, refl, sym, ap, ap₂, ◌∙◌, subst}
use mathlib.Core.Logic.{⊎_elim}
use mathlib.Core.Bool.{Bool, true, false, not, ◌&&◌}
use mathlib.Core.List.{List, [], ◌∷◌, ◌++◌}
use Prim.Native.Nat.{ℕ, zero, suc, ◌+◌, ◌<◌}
use native.Mathlib.Nat.{le_refl, le_step}
use native.Mathlib.Numerals.{add-one}
use Rattle.sets.specs.Mask.{member, union, union_over}
use Rattle.sets.specs.Bounded.{count, select}
use Rattle.sets.proofs.Logic.{decided, clash, refuted, and_intro, and_left, and_right, true_not, false_not}
use Rattle.sets.proofs.Bounded.{first_cases, count_zero, count_hit, count_skip_suc, select_zero, select_hit_suc, select_skip_suc, select_front}
use Rattle.sets.proofs.Mask.{union_over_zero, union_over_hit, union_over_skip}
use Rattle.games.specs.Game.{Game, enabled}
use Rattle.games.specs.Step.{enabled_at, post}
use Rattle.games.proofs.Steps.{enabled_at_is, enabled_intro}
use Rattle.walk.specs.declared.Walked.{Walked}
use Rattle.walk.specs.Walk.{passed, stopped, members, along, walked}
use Rattle.std.specs.Prelude.{Result, Ok, Err}
use Rattle.games.specs.declared.State.{State}
use Rattle.walk.specs.Promise.{Stops, TellsOf, Tells, Walks}
use Rattle.walk.proofs.Moves.{moved_enabled, moved_blocked}
use Rattle.walk.proofs.Walks.{along_none, along_blocked, along_more}

-- from an answer, on with what comes behind; a blocked walk has ended
abbrev onward_of : Result ℕ State → ℕ → (ℕ → ℕ → Walked) → Walked
onward_of (Err i) c next = record { post = Err i; looked = c }
onward_of (Ok u) c next = next u c

abbrev onward : Walked → (ℕ → ℕ → Walked) → Walked
onward w next = onward_of w.post w.looked next

module _ (g : Game) (a : ℕ) where
  -- the walk along two lists
  along_append : (k l : List ℕ) (u c : ℕ) → along g a (k ++ l) u c ≡ onward (along g a k u c) (λ v d. along g a l v d)
  along_append [] l u c = ap (λ (r : Walked). onward r (λ v d. along g a l v d)) (sym (along_none g a u c))
  along_append (i ∷ k) l u c =
      ⊎_elim
      (λ e.
      let m = moved_enabled g a i e in
      along_more g a i (k ++ l) u c (g.successors a i) m ∙ along_append k l (union u (g.successors a i)) (c + 1)
      ∙ ap (λ (r : Walked). onward r (λ v d. along g a l v d)) (sym (along_more g a i k u c (g.successors a i) m)))
      (λ e.
      let m = moved_blocked g a i e in
      along_blocked g a i (k ++ l) u c m ∙ ap (λ (r : Walked). onward r (λ v d. along g a l v d)) (sym (along_blocked g a i k u c m)))
      (decided (enabled g i a))

  module _ (s : ℕ) where
    -- where the action is enabled at the members below n
    below_passes : (n : ℕ) → ((j : ℕ) → j < n → member s j ≡ true → enabled g j a ≡ true) → along g a (select n (member s)) 0 0 ≡ passed (union_over n s (g.successors a)) (count n (member s))
    below_passes zero h =
        ap (λ (l : List ℕ). along g a l 0 0) (select_zero (member s)) ∙ along_none g a 0 0
        ∙ ap₂ passed (sym (union_over_zero s (g.successors a))) (sym (count_zero (member s)))
    below_passes (suc n) h =
        let before = below_passes n (λ j l. h j (le_step l)) in
        ⊎_elim
        (λ m.
        ap (λ (l : List ℕ). along g a l 0 0) (select_hit_suc n (member s) m)
        ∙ along_append (select n (member s)) (n ∷ []) 0 0
        ∙ ap (λ (r : Walked). onward r (λ v d. along g a (n ∷ []) v d)) before
        ∙ along_more g a n [] (union_over n s (g.successors a)) (count n (member s)) (g.successors a n) (moved_enabled g a n (h n (le_refl (suc n)) m))
        ∙ along_none g a (union (union_over n s (g.successors a)) (g.successors a n)) (count n (member s) + 1)
        ∙ ap₂ passed (sym (union_over_hit n s (g.successors a) m)) (sym (count_hit n (member s) m))
        ∙ ap (λ (k : ℕ). passed (union_over k s (g.successors a)) (count k (member s))) (add-one n))
        (λ m.
        ap (λ (l : List ℕ). along g a l 0 0) (select_skip_suc n (member s) m)
        ∙ before
        ∙ ap₂ passed (sym (union_over_skip n s (g.successors a) m) ∙ ap (λ (k : ℕ). union_over k s (g.successors a)) (add-one n)) (sym (count_skip_suc n (member s) m)))
        (decided (member s n))

    -- where it is, and i is blocked, the walk ends at i, whatever comes behind it
    stops_at : (n i : ℕ) → i < n → member s i ≡ true → enabled g i a ≡ false → ((j : ℕ) → j < i → member s j ≡ true → enabled g j a ≡ true) → along g a (select n (member s)) 0 0 ≡ stopped i (count (suc i) (member s))
    stops_at n i l m e h =
        let w = select_front (suc i) n (member s) l in
        ap (λ (l : List ℕ). along g a l 0 0) w.1
        ∙ along_append (select (suc i) (member s)) w.0 0 0
        ∙ ap (λ (r : Walked). onward r (λ v d. along g a w.0 v d)) here
      where
        here : along g a (select (suc i) (member s)) 0 0 ≡ stopped i (count (suc i) (member s))
        here =
            ap (λ (l : List ℕ). along g a l 0 0) (select_hit_suc i (member s) m)
            ∙ along_append (select i (member s)) (i ∷ []) 0 0
            ∙ ap (λ (r : Walked). onward r (λ v d. along g a (i ∷ []) v d)) (below_passes i h)
            ∙ along_blocked g a i [] (union_over i s (g.successors a)) (count i (member s)) (moved_blocked g a i e)
            ∙ ap (stopped i) (sym (count_hit i (member s) m) ∙ ap (λ (k : ℕ). count k (member s)) (add-one i))

    pub walked_passes : enabled_at g s a ≡ true → walked g s a ≡ passed (post g s a) (count g.states (member s))
    unfolding walked members post
    walked_passes e = below_passes g.states (λ j l m. enabled_at_is g s a e j l m)

    pub walked_stops : (i c : ℕ) → Stops g s a i c → walked g s a ≡ stopped i c
    unfolding walked members
    walked_stops i c t = stops_at g.states i t.state t.inside t.blocked t.lowest ∙ ap (stopped i) (sym t.looked)

    passes : enabled_at g s a ≡ true → Tells g s a (walked g s a)
    passes e =
        subst (Tells g s a) (sym (walked_passes e)) (record { enabled_at_is = e; successors = refl; looked = refl })

    -- i is a member, and the action is blocked there
    abbrev blocked_at : ℕ → Bool
    blocked_at i = member s i && not (enabled g i a)

    pub told : Tells g s a (walked g s a)
    told =
        ⊎_elim
        (λ w. passes (enabled_intro g s a (λ i l. free i (w.1 i l))))
        (λ w.
        let t : Stops g s a w.0 (count (suc w.0) (member s)) =
        record {
          state = w.2.0;
          inside = and_left (member s w.0) (not (enabled g w.0 a)) w.2.1;
          blocked = not_enabled w.0 (and_right (member s w.0) (not (enabled g w.0 a)) w.2.1);
          lowest = λ j l. free j (w.2.2 j l);
          looked = refl;
        } in
        subst (Tells g s a) (sym (walked_stops w.0 (count (suc w.0) (member s)) t)) t)
        (first_cases g.states blocked_at)
      where
        free : (j : ℕ) → blocked_at j ≡ false → member s j ≡ true → enabled g j a ≡ true
        free j f m = ⊎_elim (λ (e : enabled g j a ≡ true). e) (λ e. clash (and_intro m (false_not e)) f) (decided (enabled g j a))

        not_enabled : (j : ℕ) → not (enabled g j a) ≡ true → enabled g j a ≡ false
        not_enabled j t = ⊎_elim (λ e. clash t (true_not e)) (λ (e : enabled g j a ≡ false). e) (decided (enabled g j a))

    -- what an answer says of the step
    pub post_is : (u : ℕ) → (walked g s a).post ≡ Ok u → (enabled_at g s a ≡ true) × (u ≡ post g s a)
    post_is u e =
        let t = subst (λ (r : Result ℕ State). TellsOf g s a r (walked g s a).looked) e told in
        (t.enabled_at_is, t.successors)

    pub stops_not : (i c : ℕ) → Stops g s a i c → enabled_at g s a ≡ false
    stops_not i c t = refuted (enabled_at g s a) (λ h. clash (enabled_at_is g s a h i t.state t.inside) t.blocked)

    pub blocked_is : (i : State) → (walked g s a).post ≡ Err i → enabled_at g s a ≡ false
    blocked_is i e =
        stops_not i.0 (walked g s a).looked (subst (λ (r : Result ℕ State). TellsOf g s a r (walked g s a).looked) e told)

only_of : (g : Game) (s a : ℕ) (r : Result ℕ State) (c : ℕ) → TellsOf g s a r c → ◌≡◌ {A = Walked} (record { post = r; looked = c }) (walked g s a)
only_of g s a (Ok u) c t = ap₂ passed t.successors t.looked ∙ sym (walked_passes g a s t.enabled_at_is)
only_of g s a (Err i) c t = sym (walked_stops g a s i.0 c t)

only : (g : Game) (s a : ℕ) (r : Walked) → Tells g s a r → r ≡ walked g s a
only g s a r t = only_of g s a r.post r.looked t

pub walks : (g : Game) → Walks g
walks g = record { right = λ s a. told g a s; only = only g }
