-- What is promised of writing follows from what it answers and leaves.
-- Assumes nothing.
use mathlib.Core.Path.{◌≡◌, refl, sym, ap, subst, ◌∙◌}
use mathlib.Core.Bool.{Bool, true, false, cond, not}
use mathlib.Core.List.{List, ◌++◌}
use Prim.Native.Nat.{ℕ}
use native.Mathlib.Omega.{arith}
use lib.Dec.{eqb, ltb}
use lib.ListN.{length, get_or, take, drop}
use lib.Seq.{take_at}
use Rattle.sets.specs.Bounded.{Found, nothing, found, first, at_found}
use Rattle.games.specs.Words.{card_length}
use Rattle.games.specs.Answers.{unless, Leaves, leaves}
use Rattle.games.specs.Answers.{Checked}
use Rattle.games.specs.Answers.{refused, number_of}
use Rattle.cards.specs.Card.{head_place, card_cells, card_observations, head_fits, word_fits, words_checked, checked}
use Rattle.kiss.specs.Text.{kiss_text}
use Rattle.kiss.specs.Idle.{idle, LowestIdle}
use Rattle.kiss.proofs.Leading.{lowest_idle}
use Rattle.kiss.proofs.Promised.{reads_back}
use Rattle.kiss_writer.specs.Write.{by_room, written_to, Writes}
use Rattle.kiss_writer.specs.Write.{Answer}
use Rattle.games.specs.declared.Reason.{Reason}
use Rattle.games.specs.declared.Refusal.{Refusal}
use Rattle.games.specs.declared.Reason.TheVariants as reason
use Rattle.std.specs.Prelude.{Result, Ok, Err}

-- ---- the card's check refuses by 13 alone

err_is : {A : Type 0} (e f : Refusal) → ◌≡◌ {A = Result A Refusal} (Err e) (Err f) → e ≡ f
err_is e f h = cc

no_card : {A : Type 0} (p : ℕ) (e : Refusal) → ◌≡◌ {A = Result A Refusal} (refused reason.NoCard p) (Err e) → e.reason ≡ reason.NoCard
no_card p e h = sym (ap (λ (r : Refusal). r.reason) (err_is (record { reason = reason.NoCard; place = p }) e h))

reason_is : (a b c : Bool) (l : ℕ) (f : Found) (e : Refusal)
    → ◌≡◌ {A = Checked} (cond a (refused reason.NoCard 0) (cond b (refused reason.NoCard 0) (cond c (refused reason.NoCard l) (at_found f (refused reason.NoCard) (Ok tt))))) (Err e)
    → e.reason ≡ reason.NoCard
reason_is true b c l f e h = no_card 0 e h
reason_is false true c l f e h = no_card 0 e h
reason_is false false true l f e h = no_card l e h
reason_is false false false l (found i) e h = no_card i e h
reason_is false false false l nothing e h = cc

thirteen : (w : List ℕ) (e : Refusal) → checked w ≡ Err e → e.reason ≡ reason.NoCard
unfolding checked words_checked
thirteen w e h =
    reason_is (eqb (length w) 0) (not (head_fits (get_or w head_place 0))) (not (eqb (length w) (card_length (card_cells w) (card_observations w)))) (length w)
    (first (length w) (λ q. not (word_fits w q))) e h

-- ---- what the answer says

other : {X : Type 0} (e : Refusal) (m : ℕ) → ◌≡◌ {A = Answer} (Err e) (Ok m) → X
other e m h = let z : ◌≡◌ {A = ℕ} 0 1 = cc in absurd (omega arith)

same_count : (n m : ℕ) → ◌≡◌ {A = Answer} (Ok n) (Ok m) → n ≡ m
same_count n m e = cc

-- a reason is no other one where its number isn't
apart : {X : Type 0} (r s : Reason) → r ≡ s → (number_of r ≡ number_of s → ⊥) → X
apart r s e n = absurd (n (ap number_of e))

refused_writes : (w : List ℕ) (r : Answer) (left : List ℕ) (e : Refusal) → r ≡ Err e → (e.reason ≡ reason.IdleCell → LowestIdle w e.place) → Writes w r left
refused_writes w r left e h f =
    record {
      stands = λ m g. other e m (sym h ∙ g);
      back = λ m g. other e m (sym h ∙ g);
      lowest = λ c g.
          let s : e ≡ record { reason = reason.IdleCell; place = c } = err_is e (record { reason = reason.IdleCell; place = c }) (sym h ∙ g) in
          subst (LowestIdle w) (ap (λ (x : Refusal). x.place) s) (f (ap (λ (x : Refusal). x.reason) s));
    }

module _ (w d : List ℕ) (r : Answer) (left : List ℕ) where
  abbrev need : ℕ
  need = length (kiss_text w)

  by_room_lem : checked w ≡ Ok tt → idle w ≡ nothing → (b : Bool)
      → leaves r left ≡ cond b (leaves (refused reason.ShortRoom need) d) (leaves (Ok need) (kiss_text w ++ drop need d)) → Writes w r left
  by_room_lem e i true h =
      refused_writes w r left (record { reason = reason.ShortRoom; place = need }) (ap (λ (y : Leaves Answer (List ℕ)). y.answer) h)
      (λ z. apart reason.ShortRoom reason.IdleCell z (λ q. omega arith))
  by_room_lem e i false h =
      let s : r ≡ Ok need = ap (λ (x : Leaves Answer (List ℕ)). x.answer) h in
      let l : left ≡ kiss_text w ++ drop need d = ap (λ (x : Leaves Answer (List ℕ)). x.left) h in
      record {
        stands = λ m g. let n = same_count need m (sym s ∙ g) in ap (take m) l ∙ take_at (kiss_text w) (drop need d) m n;
        back = λ m g. reads_back w e i;
        lowest = λ c g. other (record { reason = reason.IdleCell; place = c }) need (sym g ∙ s);
      }

  by_check : (k : Checked) (f : Found) → checked w ≡ k → idle w ≡ f
      → leaves r left ≡ unless k (λ e. leaves (Err e) d) (at_found f (λ c. leaves (refused reason.IdleCell c) d) (by_room w d)) → Writes w r left
  unfolding by_room
  by_check (Err stop) f e i h =
      refused_writes w r left stop (ap (λ (y : Leaves Answer (List ℕ)). y.answer) h)
      (λ z. apart reason.NoCard reason.IdleCell (sym (thirteen w stop e) ∙ z) (λ q. omega arith))
  by_check (Ok u) (found c) e i h =
      refused_writes w r left (record { reason = reason.IdleCell; place = c }) (ap (λ (y : Leaves Answer (List ℕ)). y.answer) h) (λ z. lowest_idle w e c i)
  by_check (Ok u) nothing e i h = by_room_lem e i (ltb (length d) need) h

  writes : leaves r left ≡ written_to w d → Writes w r left
  unfolding written_to
  writes h = by_check (checked w) (idle w) refl refl h

  -- the outcome that the definition gives has all that is promised
  pub whole : leaves r left ≡ written_to w d → (leaves r left ≡ written_to w d) × Writes w r left
  whole h = (h, writes h)
