-- Laws of the answers: each return of the writer is the outcome that the definition gives.
-- Assumes nothing.
use mathlib.Core.Path.{◌≡◌, sym, ap, ap₂, ◌∙◌, subst}
use mathlib.Core.List.{List, ◌++◌}
use Prim.Native.Nat.{ℕ, ◌≤◌, ◌<◌}
use lib.ListN.{length, drop}
use borrow.Author.Tests.{lt-ltb, le-ltb}
use Rattle.sets.specs.Bounded.{at_found}
use Rattle.games.specs.Answers.{leaves}
use Rattle.games.specs.Answers.{refused}
use Rattle.cards.specs.Card.{checked}
use Rattle.text.specs.Puts.{Puts}
use Rattle.text.specs.declared.Writer.{Writer}
use Rattle.text.proofs.Writing.{wrote_front}
use Rattle.kiss.specs.Text.{kiss_text}
use Rattle.kiss.specs.Idle.{idle, cell_found}
use Rattle.kiss.proofs.Idling.{cell_some, cell_none}
use Rattle.kiss_writer.specs.Write.{by_room, written_to}
use Rattle.kiss_writer.specs.Write.{Answer}
use Rattle.games.specs.declared.Cell.{Cell}
use Rattle.games.specs.declared.Refusal.{Refusal}
use Rattle.games.specs.declared.Reason.TheVariants as reason
use Rattle.std.specs.Prelude.{Ok, Err, None, Some}

-- the room is short, or the text is written
module _ (w d : List ℕ) (need : ℕ) (is : need ≡ length (kiss_text w)) where
  pub room_short : length d < need → leaves (refused reason.ShortRoom need) d ≡ by_room w d
  unfolding by_room
  room_short h =
      let n = length (kiss_text w) in
      ap (λ (x : ℕ). leaves (refused reason.ShortRoom x) d) is ∙ sym (rw (lt-ltb (length d) n (subst (λ (x : ℕ). length d < x) is h)))

  -- e is what a writer that began with d left
  pub room_filled : need ≤ length d → (e : List ℕ) {v r : Writer} → r.at ≡ 0 → r.out.now ≡ d → Puts (kiss_text w) r v → e ≡ v.out.now
      → leaves {A = Answer} (Ok need) e ≡ by_room w d
  unfolding by_room
  room_filled h e {v} {r} z f puts g =
      let n = length (kiss_text w) in
      let l : n ≤ length d = subst (λ (x : ℕ). x ≤ length d) is h in
      let k : e ≡ kiss_text w ++ drop n d = g ∙ wrote_front (rw (z, f) at puts.wrote) l in
      ap₂ (λ (x : ℕ) (y : List ℕ). leaves (Ok x) y) is k ∙ sym (rw (le-ltb (length d) n l))

module _ (w d : List ℕ) where
  pub write_stopped : (e : Refusal) → checked w ≡ Err e → leaves {A = Answer} (Err e) d ≡ written_to w d
  unfolding written_to
  write_stopped e h = sym (rw h)

  module _ (fine : checked w ≡ Ok tt) where
    fine_is : written_to w d ≡ at_found (idle w) (λ c. leaves (refused reason.IdleCell c) d) (by_room w d)
    unfolding written_to
    fine_is = rw fine

    pub write_idle : (c : Cell) → Some c ≡ cell_found (idle w) → leaves (refused reason.IdleCell c.0) d ≡ written_to w d
    write_idle c h = sym (fine_is ∙ rw (cell_some (idle w) c h))

    pub write_whole : None ≡ cell_found (idle w) → (r : Answer) (e : List ℕ) → leaves r e ≡ by_room w d → leaves r e ≡ written_to w d
    write_whole n r e h = h ∙ sym (fine_is ∙ rw (cell_none (idle w) n))
