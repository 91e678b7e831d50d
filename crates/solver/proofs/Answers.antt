-- Laws of the answers: each return of the solver is the outcome that the definition gives, and the ways in which solve ends.
-- Assumes nothing.
use mathlib.Core.Path.{◌≡◌, refl, sym, ap, ap₂, ◌∙◌, subst}
use mathlib.Core.Logic.{⊎_elim}
use mathlib.Core.Bool.{true}
use mathlib.Core.List.{List, ◌++◌}
use Prim.Native.Nat.{ℕ, ◌^◌, ◌≤◌, ◌<◌}
use lib.Dec.{ltb}
use lib.ListN.{length, drop}
use borrow.Author.Tests.{lt-ltb, le-ltb, ltb-true, ltb-false}
use Rattle.sets.specs.Bounded.{fill}
use Rattle.sets.proofs.Logic.{decided}
use Rattle.games.specs.Answers.{unless, Leaves, leaves}
use Rattle.games.specs.Game.{Game}
use Rattle.games.specs.Step.{settling}
use Rattle.games.specs.Verdict.{Verdict, Yes, No, starts_in, settled, cells, verdict}
use Rattle.games.specs.Words.{game, card_length, card_of}
use Rattle.games.specs.Answers.{Checked}
use Rattle.games.specs.Answers.{refused}
use Rattle.games.proofs.Decided.{verdict_yes}
use Rattle.tables.specs.Check.{checked}
use Rattle.solver.specs.Solve.{work_words, by_verdict, Buffers, buffers, searched, solved, WorkEnough}
use Rattle.solver.specs.Solve.{Answer, says_yes, says_no}
use Rattle.games.specs.declared.Refusal.{Refusal}
use Rattle.games.specs.declared.Reason.TheVariants as reason
use Rattle.std.specs.Prelude.{Ok, Err}

-- the number of sets, as the code has it
pub size_is : (g : Game) (n size : ℕ) → n ≡ g.states → size ≡ 2 ^ n → size ≡ 2 ^ g.states
size_is g n size e h = h ∙ ap (λ (m : ℕ). 2 ^ m) e

-- a verdict's yes: no room for the card, or the card is written
module _ (g : Game) (d : List ℕ) (t m need : ℕ) (is : need ≡ card_length m g.observations) where
  pub granted_short : length d < need → leaves (refused reason.ShortRoom need) d ≡ by_verdict g d (Yes t m)
  unfolding by_verdict
  granted_short h =
      let n = card_length m g.observations in
      ap (λ (x : ℕ). leaves (refused reason.ShortRoom x) d) is ∙ sym (rw (lt-ltb (length d) n (subst (λ (x : ℕ). length d < x) is h)))

  pub granted_written : need ≤ length d → (e : List ℕ) → e ≡ card_of g ++ drop (card_length m g.observations) d → leaves (says_yes t m) e ≡ by_verdict g d (Yes t m)
  unfolding by_verdict
  granted_written h e w =
      let n = card_length m g.observations in
      ap (leaves (says_yes t m)) w ∙ sym (rw (le-ltb (length d) n (subst (λ (x : ℕ). x ≤ length d) is h)))

module _ (g : Game) (d : List ℕ) where
  pub decided_no : (k : ℕ) → verdict g ≡ No k → leaves (says_no k) d ≡ by_verdict g d (verdict g)
  unfolding by_verdict
  decided_no k e = sym (ap (by_verdict g d) e)

  pub decided_yes : (k m : ℕ) → settling g ≡ k → starts_in g (settled g) ≡ true → m ≡ length (cells g) → (x : Leaves Answer (List ℕ)) → x ≡ by_verdict g d (Yes k m) → x ≡ by_verdict g d (verdict g)
  decided_yes k m s h l x e = e ∙ ap (by_verdict g d) (ap₂ Yes (sym s) l ∙ sym (verdict_yes g h))

module _ (w work d : List ℕ) where
  pub solved_stopped : (stop : Refusal) → checked w ≡ Err stop → leaves (Err stop) (buffers work d) ≡ solved w work d
  unfolding solved
  solved_stopped stop e = sym (rw e)

  module _ (fine : checked w ≡ Ok tt) (need : ℕ) (is : need ≡ work_words (game w).states) where
    fine_is : solved w work d ≡ searched (game w) work d
    unfolding solved
    fine_is = rw fine

    pub solved_short : length work < need → leaves (refused reason.ShortWork need) (buffers work d) ≡ solved w work d
    unfolding searched
    solved_short h =
        let n = work_words (game w).states in
        ap (λ (k : ℕ). leaves (refused reason.ShortWork k) (buffers work d)) is
        ∙ sym (fine_is ∙ rw (lt-ltb (length work) n (subst (λ (k : ℕ). length work < k) is h)))

    pub solved_done : need ≤ length work → (r : Answer) (left e : List ℕ) → leaves r e ≡ by_verdict (game w) d (verdict (game w)) → left ≡ fill need 0 work → leaves r (buffers left e) ≡ solved w work d
    unfolding searched
    solved_done h r left e by cleared =
        let n = work_words (game w).states in
        ap₂ (λ (x : Leaves Answer (List ℕ)) (y : List ℕ). leaves x.answer (buffers y x.left)) by (cleared ∙ ap (λ (k : ℕ). fill k 0 work) is)
        ∙ sym (fine_is ∙ rw (le-ltb (length work) n (subst (λ (k : ℕ). k ≤ length work) is h)))

-- ---- the ways in which solve ends, with the answer r and the words e in the card room

pub data Ending (w work d : List ℕ) (r : Answer) (e : List ℕ) : Type 0 where
  stopped : {stop : Refusal} → checked w ≡ Err stop → r ≡ Err stop → Ending w work d r e
  no_work : checked w ≡ Ok tt → length work < work_words (game w).states → r ≡ refused reason.ShortWork (work_words (game w).states) → Ending w work d r e
  lost : {k : ℕ} → WorkEnough w work → verdict (game w) ≡ No k → r ≡ says_no k → Ending w work d r e
  no_card : {t m : ℕ} → WorkEnough w work → verdict (game w) ≡ Yes t m → length d < card_length m (game w).observations → r ≡ refused reason.ShortRoom (card_length m (game w).observations) → Ending w work d r e
  granted : {t m : ℕ} → WorkEnough w work → verdict (game w) ≡ Yes t m → card_length m (game w).observations ≤ length d → r ≡ says_yes t m → e ≡ card_of (game w) ++ drop (card_length m (game w).observations) d → Ending w work d r e

module _ (w work d : List ℕ) (r : Answer) (e : List ℕ) where
  by_verdict_lem : (v : Verdict) → verdict (game w) ≡ v → WorkEnough w work → leaves r e ≡ by_verdict (game w) d v → Ending w work d r e
  unfolding by_verdict
  by_verdict_lem (No k) v room is = lost room v (ap (λ (x : Leaves Answer (List ℕ)). x.answer) is)
  by_verdict_lem (Yes t m) v room is =
      let need = card_length m (game w).observations in
      ⊎_elim
      (λ h. let s = rw h at is in no_card room v (ltb-true (length d) need h) (ap (λ (x : Leaves Answer (List ℕ)). x.answer) s))
      (λ h.
      let s = rw h at is in
      granted room v (ltb-false (length d) need h) (ap (λ (x : Leaves Answer (List ℕ)). x.answer) s) (ap (λ (x : Leaves Answer (List ℕ)). x.left) s))
      (decided (ltb (length d) need))

  after_check : checked w ≡ Ok tt → (left : List ℕ) → leaves r (buffers left e) ≡ searched (game w) work d → Ending w work d r e
  unfolding searched
  after_check fine left is =
      let need = work_words (game w).states in
      ⊎_elim
      (λ h. no_work fine (ltb-true (length work) need h) (ap (λ (x : Leaves Answer Buffers). x.answer) (rw h at is)))
      (λ h.
      by_verdict_lem (verdict (game w)) refl (record { fine = fine; enough = ltb-false (length work) need h })
      (ap (λ (x : Leaves Answer Buffers). leaves x.answer x.left.card) (rw h at is)))
      (decided (ltb (length work) need))

  by_check : (c : Checked) → checked w ≡ c → (left : List ℕ) → leaves r (buffers left e) ≡ unless c (λ x. leaves (Err x) (buffers work d)) (searched (game w) work d) → Ending w work d r e
  by_check (Ok tt) c left is = after_check c left is
  by_check (Err stop) c left is = stopped c (ap (λ (x : Leaves Answer Buffers). x.answer) is)

  pub ends : (left : List ℕ) → leaves r (buffers left e) ≡ solved w work d → Ending w work d r e
  unfolding solved
  ends left is = by_check (checked w) refl left is
