-- The outcome, refusal by refusal.
-- Assumes nothing.
use mathlib.Core.Path.{◌≡◌, sym, ap, ◌∙◌, subst}
use mathlib.Core.Bool.{Bool, false, cond, true}
use mathlib.Core.List.{List, ◌++◌}
use Prim.Native.Nat.{ℕ, ◌+◌, ◌^◌, ◌≤◌, ◌<◌}
use lib.ListN.{length, get_or, drop}
use borrow.Author.Tests.{lt-ltb, le-ltb, lt-leb, le-leb}
use Rattle.sets.specs.Bounded.{Found, nothing, found, at_found, reaches}
use Rattle.sets.proofs.Logic.{true_not, false_not}
use Rattle.sets.proofs.Bounded.{first_none, first_is}
use Rattle.games.specs.Format.{max_states}
use Rattle.games.proofs.Limits.{within_high}
use Rattle.games.specs.Answers.{leaves}
use Rattle.games.specs.Answers.{refused}
use Rattle.lists.specs.Lists.{is_width, foreign, fitted, outcome}
use Rattle.lists.specs.Merging.{Masks}
use Rattle.lists.proofs.Checks.{reaches_within, found_first, found_second, found_neither}
use Rattle.games.specs.declared.Reason.TheVariants as reason
use Rattle.std.specs.Prelude.{Ok, Option, Some, None, MatchOption}

-- ---- the result and its room

-- a longer result is refused
pub fitted_long : (r d : List ℕ) (w : ℕ) → w ≡ length r → length d < w → leaves (refused reason.ShortList w) d ≡ fitted r d
fitted_long r d w e h =
    ap (λ (x : ℕ). leaves (refused reason.ShortList x) d) e
    ∙ sym (ap (λ (b : Bool). cond b (leaves (refused reason.ShortList (length r)) d) (leaves (Ok (length r)) (r ++ drop (length r) d))) (lt-ltb (length d) (length r) (subst (λ (x : ℕ). length d < x) e h)))

-- one that fits is written in front
pub fitted_fits : (r d : List ℕ) (w : ℕ) (x : List ℕ) → w ≡ length r → w ≤ length d → x ≡ r ++ drop w d → leaves (Ok w) x ≡ fitted r d
fitted_fits r d w x e h f =
    ap (leaves (Ok w)) f
    ∙ ap (λ (y : ℕ). leaves (Ok y) (r ++ drop y d)) e
    ∙ sym (ap (λ (b : Bool). cond b (leaves (refused reason.ShortList (length r)) d) (leaves (Ok (length r)) (r ++ drop (length r) d))) (le-ltb (length d) (length r) (subst (λ (y : ℕ). y ≤ length d) e h)))

-- ---- the refusals before it

-- what a search for a mask with a state too many finds
pub foreign_is : (n : ℕ) (l : List ℕ) (end : ℕ) → end ≡ 2 ^ n → (r : Option ℕ)
    → MatchOption r ((j : ℕ) → j < length l → get_or l j 0 < end) (λ i. (i < length l) × (end ≤ get_or l i 0) × ((j : ℕ) → j < i → get_or l j 0 < end))
    → MatchOption r (foreign n l ≡ nothing) (λ i. (i < length l) × (foreign n l ≡ found i))
foreign_is n l end e None f = rw (← e) (first_none (length l) (reaches l end) (λ j h. lt-leb end (get_or l j 0) (f j h)))
foreign_is n l end e (Some i) w =
    (w.0, rw (← e) (first_is (length l) (reaches l end) i w.0 (le-leb end (get_or l i 0) w.1) (λ j h. lt-leb end (get_or l j 0) (w.2 j h))))

module _ (n : ℕ) (k l : List ℕ) where
  -- the width is wrong
  pub refused_width : is_width n ≡ false → (op : List ℕ → List ℕ → List ℕ) (d : List ℕ) → outcome op n k l d ≡ leaves (refused reason.BadHead 0) d
  unfolding outcome
  refused_width e op d = ap (λ (b : Bool). cond b (leaves (refused reason.BadHead 0) d) (at_found (foreign n (k ++ l)) (λ i. leaves (refused reason.StateBeyond i) d) (fitted (op k l) d))) (false_not e)

  module _ (w : is_width n ≡ true) where
    -- it is right: what the masks decide
    decided_by : (f : Found) → foreign n (k ++ l) ≡ f → (op : List ℕ → List ℕ → List ℕ) (d : List ℕ) → outcome op n k l d ≡ at_found f (λ i. leaves (refused reason.StateBeyond i) d) (fitted (op k l) d)
    unfolding outcome
    decided_by f e op d =
        ap (λ (b : Bool). cond b (leaves (refused reason.BadHead 0) d) (at_found (foreign n (k ++ l)) (λ i. leaves (refused reason.StateBeyond i) d) (fitted (op k l) d))) (true_not w)
        ∙ ap (λ (x : Found). at_found x (λ i. leaves (refused reason.StateBeyond i) d) (fitted (op k l) d)) e

    -- a mask of the first list is refused
    pub refused_first : (i : ℕ) → foreign n k ≡ found i → (op : List ℕ → List ℕ → List ℕ) (d : List ℕ) → outcome op n k l d ≡ leaves (refused reason.StateBeyond i) d
    refused_first i e = decided_by (found i) (found_first k l (2 ^ n) i e)

    -- one of the second list, counted on
    pub refused_second : (j : ℕ) → foreign n k ≡ nothing → foreign n l ≡ found j → (op : List ℕ → List ℕ → List ℕ) (d : List ℕ) → outcome op n k l d ≡ leaves (refused reason.StateBeyond (length k + j)) d
    refused_second j c e = decided_by (found (length k + j)) (found_second k l (2 ^ n) j c e)

    -- none is
    pub allowed : foreign n k ≡ nothing → foreign n l ≡ nothing → (op : List ℕ → List ℕ → List ℕ) (d : List ℕ) → outcome op n k l d ≡ fitted (op k l) d
    allowed a b = decided_by nothing (found_neither k l (2 ^ n) a b)

    -- and the lists are as the work asks for them
    pub masks : foreign n k ≡ nothing → foreign n l ≡ nothing → Masks n k l
    masks a b = record { width = within_high n max_states w; first = reaches_within n k a; second = reaches_within n l b }

-- each way out of the check is one case of the outcome
pub ruleset checking = (refused_width, refused_first, refused_second, allowed, masks)
