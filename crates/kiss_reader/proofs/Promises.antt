-- What is promised of reading follows from what it answers and leaves.
-- Assumes nothing.
use Prim.{tt}
use mathlib.Core.Path.{◌≡◌, refl, sym, ap, subst, ◌∙◌}
use mathlib.Core.Bool.{Bool, true, false, cond}
use mathlib.Core.List.{List, [], ◌∷◌, ◌++◌}
use Prim.Native.Nat.{ℕ, suc, ◌<◌}
use native.Mathlib.Omega.{arith}
use lib.Dec.{ltb}
use lib.ListN.{length, get_or, take, drop}
use lib.Seq.{take_at}
use Rattle.sets.specs.Bounded.{Found, nothing, found, at_found}
use Rattle.games.specs.Answers.{Leaves, leaves}
use Rattle.cards.specs.Card.{card_cells}
use Rattle.form.specs.Form.{Outcome, read, departs}
use Rattle.form.proofs.Spelled.{Small}
use Rattle.kiss.specs.Profile.{reading}
use Rattle.kiss.specs.Idle.{idle, LowestIdle}
use Rattle.kiss.proofs.Leading.{lowest_idle}
use Rattle.kiss.proofs.Final.{written_read}
use Rattle.kiss.proofs.Promised.{of_text}
use Rattle.kiss_reader.specs.Read.{Answer, read_as, by_room, of_card, told, read_into, Reads}
use Rattle.games.specs.declared.Reason.{Reason}
use Rattle.games.specs.declared.Reason.TheVariants as reason
use Rattle.games.specs.Answers.{number_of, refused}
use Rattle.std.proofs.Common.{Ok, Err}

-- a text whose elements are bytes
pub small_text : (t : List ℕ) → ((i : ℕ) → get_or t i 0 < 256) → Small t
unfolding Small
small_text [] f = tt
small_text (b ∷ t) f = (f 0, small_text t (λ i. f (suc i)))

-- answers apart
abbrev is_read : Answer → ℕ
is_read (Ok x) = 1
is_read (Err e) = 0

abbrev reason_in : Answer → Reason
reason_in (Ok x) = reason.NoWords
reason_in (Err e) = e.reason

abbrev count_in : Answer → ℕ
count_in (Ok x) = x.words
count_in (Err e) = e.place

abbrev refusal : Reason → ℕ → Answer
refusal n p = refused n p

other : {X : Type 0} (n : Reason) (p m k : ℕ) → refusal n p ≡ read_as m k → X
other n p m k e = let z : 0 ≡ 1 = ap is_read e in absurd (omega (arith, z))

apart : {X : Type 0} (n m : Reason) → (number_of n ≡ number_of m → ⊥) → n ≡ m → X
apart n m f e = absurd (f (ap number_of e))

same_refusal : (n : Reason) (p : ℕ) (m : Reason) (q : ℕ) → refusal n p ≡ refusal m q → (n ≡ m) × (p ≡ q)
same_refusal n p m q e = (ap reason_in e, ap count_in e)

same_count : (n k m l : ℕ) → read_as n k ≡ read_as m l → n ≡ m
same_count n k m l e = ap count_in e

module _ (t d : List ℕ) (s : Small t) (r : Answer) (left : List ℕ) where
  refused_reads : (n : Reason) (p : ℕ) → r ≡ refused n p → (n ≡ reason.Departs → reading t ≡ departs p) → (n ≡ reason.IdleCell → (x : List ℕ) × (reading t ≡ read x) × LowestIdle x p) → Reads t r left
  refused_reads n p e f g =
      record {
        promise = of_text t s;
        stands = λ m k h. other n p m k (sym e ∙ h);
        no_idle = λ m k h. other n p m k (sym e ∙ h);
        departed = λ q h. let z = same_refusal n p reason.Departs q (sym e ∙ h) in f z.0 ∙ ap departs z.1;
        lowest = λ c h. let z = same_refusal n p reason.IdleCell c (sym e ∙ h) in let y = g z.0 in (y.0, y.1, subst (LowestIdle y.0) z.1 y.2);
      }

  module _ (x : List ℕ) (is : reading t ≡ read x) where
    by_room_lem : idle x ≡ nothing → (b : Bool)
        → leaves r left ≡ cond b (leaves (refused reason.ShortRoom (length x)) d) (leaves (read_as (length x) (card_cells x)) (x ++ drop (length x) d)) → Reads t r left
    by_room_lem i true h = refused_reads reason.ShortRoom (length x) (ap (λ (y : Leaves Answer (List ℕ)). y.answer) h) (apart _ _ (λ z. omega (arith, z))) (apart _ _ (λ z. omega (arith, z)))
    by_room_lem i false h =
        let a : r ≡ read_as (length x) (card_cells x) = ap (λ (y : Leaves Answer (List ℕ)). y.answer) h in
        let l : left ≡ x ++ drop (length x) d = ap (λ (y : Leaves Answer (List ℕ)). y.left) h in
        let back : (m k : ℕ) → r ≡ read_as m k → take m left ≡ x =
        λ m k g. ap (take m) l ∙ take_at x (drop (length x) d) m (same_count (length x) (card_cells x) m k (sym a ∙ g)) in
        record {
          promise = of_text t s;
          stands = λ m k g. is ∙ ap read (sym (back m k g));
          no_idle = λ m k g. ap idle (back m k g) ∙ i;
          departed = λ q g. other reason.Departs q (length x) (card_cells x) (sym g ∙ a);
          lowest = λ c g. other reason.IdleCell c (length x) (card_cells x) (sym g ∙ a);
        }

    by_idle : (f : Found) → idle x ≡ f → leaves r left ≡ at_found f (λ c. leaves (refused reason.IdleCell c) d) (by_room x d) → Reads t r left
    unfolding by_room
    by_idle (found c) i h =
        refused_reads reason.IdleCell c (ap (λ (y : Leaves Answer (List ℕ)). y.answer) h) (apart _ _ (λ z. omega (arith, z))) (λ z. (x, is, lowest_idle x (written_read t x s is).0 c i))
    by_idle nothing i h = by_room_lem i (ltb (length d) (length x)) h

  by_outcome : (o : Outcome) → reading t ≡ o → leaves r left ≡ told o d → Reads t r left
  unfolding told of_card
  by_outcome (departs p) e h = refused_reads reason.Departs p (ap (λ (y : Leaves Answer (List ℕ)). y.answer) h) (λ z. e) (apart _ _ (λ z. omega (arith, z)))
  by_outcome (read x) e h = by_idle x e (idle x) refl h

  reads : leaves r left ≡ read_into t d → Reads t r left
  unfolding read_into
  reads h = by_outcome (reading t) refl h

  -- the outcome that the definition gives has all that is promised
  pub whole : leaves r left ≡ read_into t d → (leaves r left ≡ read_into t d) × Reads t r left
  whole h = (h, reads h)
