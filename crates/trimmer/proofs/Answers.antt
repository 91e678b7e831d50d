-- Laws of the answers: each return of the trimmer is the outcome that the definition gives; and what is promised of a card that was
-- trimmed.
-- Assumes nothing.
use mathlib.Core.Path.{◌≡◌, refl, sym, ap, ap₂, ◌∙◌, subst}
use mathlib.Core.Logic.{⊎_elim}
use mathlib.Core.List.{List, ◌++◌}
use Prim.Native.Nat.{ℕ, ◌≤◌, ◌<◌}
use native.Mathlib.Omega.{arith}
use lib.Dec.{ltb}
use lib.ListN.{length, take, drop}
use lib.Seq.{take_at}
use borrow.Author.Tests.{lt-ltb, le-ltb}
use Rattle.sets.specs.Bounded.{fill}
use Rattle.sets.proofs.Logic.{decided}
use Rattle.games.specs.Answers.{Leaves, leaves}
use Rattle.games.specs.Answers.{refused}
use Rattle.cards.specs.Card.{card_cells, checked}
use Rattle.trimming.specs.Trim.{trimmed}
use Rattle.trimming.proofs.Promised.{promised as promised-of}
use Rattle.trimmer.specs.Trimmer.{done_with, kept_cells, by_room, buffers, with_work, trimmed_into, Trims}
use Rattle.trimmer.specs.Trimmer.{Answer}
use Rattle.games.specs.declared.Reason.{Reason}
use Rattle.games.specs.declared.Reason.TheVariants as reason
use Rattle.std.specs.Prelude.{Ok, Err}

-- the room is short, or the trimmed card is written
module _ (w d : List ℕ) (need : ℕ) (is : need ≡ length (trimmed w)) where
  pub room_short : length d < need → leaves (refused reason.ShortRoom need) d ≡ by_room w d
  unfolding by_room
  room_short h =
      let n = length (trimmed w) in
      ap (λ (x : ℕ). leaves (refused reason.ShortRoom x) d) is ∙ sym (rw (lt-ltb (length d) n (subst (λ (x : ℕ). length d < x) is h)))

  pub room_filled : need ≤ length d → (m : ℕ) (e : List ℕ) → m ≡ kept_cells w → e ≡ trimmed w ++ drop (length (trimmed w)) d → leaves (done_with need m) e ≡ by_room w d
  unfolding by_room
  room_filled h m e many wrote =
      let n = length (trimmed w) in
      ap₂ (λ (x : ℕ) (y : List ℕ). leaves (done_with x m) y) is wrote
      ∙ ap (λ (x : ℕ). leaves (done_with n x) (trimmed w ++ drop n d)) many
      ∙ sym (rw (le-ltb (length d) n (subst (λ (x : ℕ). x ≤ length d) is h)))

module _ (w work d : List ℕ) where
  pub trim_stopped : (n : Reason) (p : ℕ) → checked w ≡ refused n p → leaves (refused n p) (buffers work d) ≡ trimmed_into w work d
  unfolding trimmed_into
  trim_stopped n p e = sym (rw e)

  module _ (fine : checked w ≡ Ok tt) (need : ℕ) (is : need ≡ card_cells w) where
    fine_is : trimmed_into w work d ≡ with_work w work d
    unfolding trimmed_into
    fine_is = rw fine

    pub trim_short : length work < need → leaves (refused reason.ShortWork need) (buffers work d) ≡ trimmed_into w work d
    unfolding with_work
    trim_short h =
        let n = card_cells w in
        ap (λ (k : ℕ). leaves (refused reason.ShortWork k) (buffers work d)) is
        ∙ sym (fine_is ∙ rw (lt-ltb (length work) n (subst (λ (k : ℕ). length work < k) is h)))

    pub trim_done : need ≤ length work → (r : Answer) (left e : List ℕ) → leaves r e ≡ by_room w d → left ≡ fill need 0 work → leaves r (buffers left e) ≡ trimmed_into w work d
    unfolding with_work
    trim_done h r left e by cleared =
        let n = card_cells w in
        ap₂ (λ (x : Leaves Answer (List ℕ)) (y : List ℕ). leaves x.answer (buffers y x.left)) by (cleared ∙ ap (λ (k : ℕ). fill k 0 work) is)
        ∙ sym (fine_is ∙ rw (le-ltb (length work) n (subst (λ (k : ℕ). k ≤ length work) is h)))

-- ---- the promise, from the outcome

-- a refusal is no trimmed card
refused_not : {A : Type 0} (n : Reason) (p words cells : ℕ) → refused n p ≡ done_with words cells → A
refused_not n p words cells e = absurd (let z : ◌≡◌ {A = ℕ} 0 1 = cc in omega arith)

pub refused_trims : (w : List ℕ) (n : Reason) (p : ℕ) (e : List ℕ) → Trims w (refused n p) e
refused_trims w n p e = record {
  stands = λ words cells h. refused_not n p words cells h;
  promise = λ words cells h. refused_not n p words cells h;
}

-- the words that an answer tells
words_or : Answer → ℕ
words_or (Ok t) = t.words
words_or (Err e) = 0

-- what the trimmer leaves of its room, where there is work enough
pub room_trims : (w d : List ℕ) → checked w ≡ Ok tt → (r : Answer) (e : List ℕ) → leaves r e ≡ by_room w d → Trims w r e
unfolding by_room words_or
room_trims w d fine r e is =
    let n = length (trimmed w) in
    ⊎_elim
    (λ h. let s = rw h at is in rw (ap (λ (x : Leaves Answer (List ℕ)). x.answer) s) (refused_trims w reason.ShortRoom n e))
    (λ h.
    let s = rw h at is in
    let said : r ≡ done_with n (kept_cells w) = ap (λ (x : Leaves Answer (List ℕ)). x.answer) s in
    let stood : e ≡ trimmed w ++ drop n d = ap (λ (x : Leaves Answer (List ℕ)). x.left) s in
    record {
      stands = λ words cells f. let k : words ≡ n = ap words_or (sym f ∙ said) in ap₂ take k stood ∙ take_at (trimmed w) (drop n d) n refl;
      promise = λ words cells f. promised-of w fine;
    })
    (decided (ltb (length d) n))
