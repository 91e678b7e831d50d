-- One theorem on strategies with memory: it serves the lasting strategy, the winning one and every card.
-- A memory state is entered by the first observation and changed by each later one, and gives an action. Where a relation between rounds
-- left, memory and state holds at the start, is kept by the moves and grants survival, it holds on every play whose actions are those
-- that the memory gives, and a strategy that picks these on such plays lasts.
-- Assumes nothing.
use mathlib.Core.Path.{◌≡◌, refl, sym, ◌∙◌, subst}
use mathlib.Core.Bool.{true, false}
use mathlib.Core.List.{List, [], ◌∷◌, ◌++◌}
use Prim.Native.Nat.{ℕ, suc, ◌+◌, ◌-◌, ◌<◌}
use native.Mathlib.Nat.{not-suc-le-zero}
use native.Mathlib.Omega.{arith}
use lib.ListN.{length}
use Rattle.sets.specs.Mask.{member}
use Rattle.games.specs.Game.{Game, Shows, enabled}
use Rattle.games.specs.Play.{Strategy, Play, begin, more, last, seen, rounds, PlayOf, Under, Lasts}
use Rattle.games.proofs.Plays.{some_seen, lasts_by_last}

module _ {M : Type 0} (idle : M) (first : ℕ → M) (next : M → ℕ → M) where
  unfoldable pub from : M → List ℕ → M
  from m [] = m
  from m (o ∷ h) = from (next m o) h

  -- the memory after the observations
  unfoldable pub memory : List ℕ → M
  memory [] = idle
  memory (o ∷ h) = from (first o) h

  from_more : (m : M) (h : List ℕ) (o : ℕ) → from m (h ++ (o ∷ [])) ≡ next (from m h) o
  unfolding from
  from_more m [] o = refl
  from_more m (x ∷ h) o = from_more (next m x) h o

  memory_more : (h : List ℕ) (o : ℕ) → 0 < length h → memory (h ++ (o ∷ [])) ≡ next (memory h) o
  unfolding memory
  memory_more [] o l = absurd (not-suc-le-zero l)
  memory_more (x ∷ h) o l = from_more (first x) h o

  module _ (g : Game) (act : M → ℕ) where
    -- each action of the play is the one that the memory gives there
    unfoldable pub Acts : Play → Type 0
    Acts (begin i o) = Unit {0}
    Acts (more p a i o) = Acts p × (a ≡ act (memory (seen p)))

    module _ (Inv : ℕ → M → ℕ → Type 0)
        (survives : (j : ℕ) (m : M) (i : ℕ) → Inv (suc j) m i → (member g.bad i ≡ false) × (enabled g i (act m) ≡ true))
        (moves : (j : ℕ) (m : M) (i i' o : ℕ) → Inv (suc j) m i → member (g.successors (act m) i) i' ≡ true → Shows g i' o → Inv j (next m o) i')
        (k : ℕ) (begins : (i o : ℕ) → member g.start i ≡ true → Shows g i o → Inv k (first o) i) where
      -- the relation holds on every such play, with the rounds that are left
      pub holds_on : (p : Play) → PlayOf g p → Acts p → (j : ℕ) → rounds p + j ≡ suc k → Inv j (memory (seen p)) (last p)
      unfolding PlayOf Acts seen last rounds memory from
      holds_on (begin i o) h u j e = subst (λ (n : ℕ). Inv n (first o) i) (omega arith) (begins i o h.0 h.1)
      holds_on (more p a i o) h u j e =
          let inv : Inv (suc j) (memory (seen p)) (last p) = holds_on p h.0 u.0 (suc j) (omega arith) in
          subst (λ (m : M). Inv j m i) (sym (memory_more (seen p) o (some_seen p)))
          (moves j (memory (seen p)) (last p) i o inv (subst (λ (b : ℕ). member (g.successors b (last p)) i ≡ true) u.1 h.2) h.3)

      -- a strategy that picks, on these plays, what the memory gives lasts k rounds
      module _ (ρ : Strategy g) (agrees : (p : Play) → PlayOf g p → Acts p → ρ.pick (seen p) ≡ act (memory (seen p))) where
        pub under_acts : (p : Play) → PlayOf g p → Under ρ p → Acts p
        unfolding PlayOf Under Acts
        under_acts (begin i o) h u = tt
        under_acts (more p a i o) h u =
            let acts = under_acts p h.0 u.0 in
            (acts, u.1 ∙ agrees p h.0 acts)

        pub memory_lasts : Lasts g ρ k
        memory_lasts =
            lasts_by_last g ρ k
            (λ p h u l.
            let acts = under_acts p h u in
            let inv : Inv (suc (k - rounds p)) (memory (seen p)) (last p) = holds_on p h acts (suc (k - rounds p)) (omega arith) in
            let s = survives (k - rounds p) (memory (seen p)) (last p) inv in
            (s.0, subst (λ (a : ℕ). enabled g (last p) a ≡ true) (sym (agrees p h acts)) s.1))
