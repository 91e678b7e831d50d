-- Laws of the answers: what a text reads as, and each return of the reader as the outcome that the definition gives.
-- Assumes nothing.
use mathlib.Core.Path.{◌≡◌, sym, ap, ap₂, ◌∙◌, subst}
use mathlib.Core.List.{List, [], ◌++◌}
use Prim.Native.Nat.{ℕ, ◌+◌, ◌*◌, ◌-◌, ◌≤◌, ◌<◌}
use native.Mathlib.Omega.{arith}
use lib.ListN.{length, take, drop}
use lib.Seq.{take_at}
use borrow.Author.Tests.{lt-ltb, le-ltb}
use Rattle.sets.specs.Bounded.{Found, found, nothing, at_found}
use Rattle.std.proofs.Common.{Result, Ok, Err}
use Rattle.std.specs.Prelude.{MatchResult}
use Rattle.std.specs.Result.{IsErrAnd}
use Rattle.games.specs.declared.Refusal.{Refusal}
use Rattle.games.specs.Answers.{Leaves, leaves}
use Rattle.games.specs.Words.{card_length}
use Rattle.cards.specs.Card.{card_cells, checked}
use Rattle.cards.specs.declared.words.Card.{Card}
use Rattle.cards.proofs.Written.{written_checked}
use Rattle.text.specs.declared.Wrong.{Wrong}
use Rattle.form.specs.Form.{Form, Outcome, read, departs, reads, byte_at}
use Rattle.form.specs.Cursors.{runs, behind}
use Rattle.form.specs.declared.Reader.{Reader}
use Rattle.kiss.specs.Profile.{blank, lines, profile, reading}
use Rattle.kiss.specs.Idle.{idle}
use Rattle.games.specs.declared.Reason.TheVariants as reason
use Rattle.games.specs.Answers.{refused}
use Rattle.kiss_reader.specs.declared.Head.{Head}
use Rattle.kiss_reader.specs.declared.sizes.Sizes.{Sizes}
use Rattle.kiss_reader.specs.Read.{Answer, read_as, by_room, of_card, told, read_into}
use Rattle.kiss_reader.specs.Reading.{HeadRead, Held, all_lines, LinesRead}
use Rattle.kiss_reader.proofs.Lines.{says_long}

-- ---- what the text reads as

from_start : (c : Reader) → c.at ≡ 0 → reading c.text.now ≡ runs profile c
unfolding reading runs
from_start c e = ap (reads profile (byte_at c.text.now)) (sym e)

abbrev from_head : ℕ → ℕ → ℕ → Form
from_head a o s = lines a o (s * o) (blank (s - 1)) 0 0

pub head_reading : (c r : Reader) (e : Result Head Wrong) → c.at ≡ 0 → HeadRead c r e → reading c.text.now ≡ behind e (λ x. runs (from_head x.counts.actions x.counts.observations x.states) r)
unfolding profile
head_reading c r e at g = from_start c at ∙ g.goes from_head

-- the sizes are those of the head
module _ (c r : Reader) (h : Head) (g : HeadRead c r (Ok h)) (at : c.at ≡ 0) (z : Sizes) (ea : z.actions ≡ h.counts.actions) (eo : z.observations ≡ h.counts.observations) (ec : z.cells ≡ h.states - 1) where
  same_lines : from_head h.counts.actions h.counts.observations h.states ≡ all_lines z
  same_lines =
      let es : h.states ≡ z.cells + 1 = omega (arith, g.bounded.some_state) in
      ap (λ (x : ℕ). lines x h.counts.observations (h.states * h.counts.observations) (blank (h.states - 1)) 0 0) (sym ea)
      ∙ ap (λ (x : ℕ). lines z.actions x (h.states * x) (blank (h.states - 1)) 0 0) (sym eo)
      ∙ ap₂ (λ (x y : ℕ). lines z.actions z.observations (x * z.observations) (blank y) 0 0) es (sym ec)

  pub lines_reading : (w : List ℕ) (e : Result (Unit {0}) Wrong) → LinesRead z r w e → reading c.text.now ≡ behind e (λ _. read w)
  lines_reading w e k = head_reading c r (Ok h) at g ∙ ap (λ (F : Form). runs F r) same_lines ∙ k.goes

-- the words that were read stand in front, and are a card
module _ (z : Sizes) (w : List ℕ) (held : Held z w) where
  pub held_front : (need : ℕ) (rest : List ℕ) → need ≡ card_length z.cells z.observations → take need (w ++ rest) ≡ w
  held_front need rest e = take_at w rest need (says_long z held.machine w held.says ∙ sym e)

  pub held_checked : checked w ≡ Ok tt
  held_checked = ap checked held.says.words ∙ written_checked held.machine z.actions z.observations held.says.fitting

-- ---- the answer for a card

module _ (w d : List ℕ) where
  pub tell_idle : (c : ℕ) → idle w ≡ found c → leaves (refused reason.IdleCell c) d ≡ of_card w d
  unfolding of_card
  tell_idle c e = sym (ap (λ (x : Found). at_found x (λ i. leaves (refused reason.IdleCell i) d) (by_room w d)) e)

  of_room : idle w ≡ nothing → of_card w d ≡ by_room w d
  unfolding of_card
  of_room e = ap (λ (x : Found). at_found x (λ i. leaves (refused reason.IdleCell i) d) (by_room w d)) e

  pub tell_short : idle w ≡ nothing → length d < length w → leaves (refused reason.ShortRoom (length w)) d ≡ of_card w d
  unfolding by_room
  tell_short e l = sym (of_room e ∙ rw (lt-ltb (length d) (length w) l))

  pub tell_card : idle w ≡ nothing → length w ≤ length d → (m : ℕ) (x : List ℕ) → m ≡ card_cells w → x ≡ w ++ drop (length w) d → leaves (read_as (length w) m) x ≡ of_card w d
  unfolding by_room
  tell_card e l m x em ex =
      ap₂ (λ (n : ℕ) (y : List ℕ). leaves (read_as (length w) n) y) em ex
      ∙ sym (of_room e ∙ rw (le-ltb (length d) (length w) l))

-- ---- the answer for a text

module _ (t d : List ℕ) where
  pub read_departs : (p : ℕ) → reading t ≡ departs p → leaves (refused reason.Departs p) d ≡ read_into t d
  unfolding read_into told
  read_departs p e = sym (ap (λ (x : Outcome). told x d) e)

  pub read_told : (w : List ℕ) → reading t ≡ read w → (x : Leaves Answer (List ℕ)) → x ≡ of_card w d → x ≡ read_into t d
  unfolding read_into told
  read_told w e x f = f ∙ sym (ap (λ (y : Outcome). told y d) e)

-- ---- with the refusal's reason

abbrev words_of : Result Card Refusal → List ℕ
words_of (Ok x) = x.words.now
words_of (Err q) = []

module _ (P : Wrong → Refusal → Type 0) (t : List ℕ) where
  pub card_told : (e : Result Card Wrong) (m : Result Card Refusal) (x : Card) → m ≡ Ok x → MatchResult e (λ y. m ≡ Ok y) (λ p. IsErrAnd m (P p)) → reading t ≡ behind e (λ y. read y.words.now) → reading t ≡ read x.words.now
  card_told (Ok y) m x is k r = r ∙ ap read (ap words_of (sym k ∙ is))
  card_told (Err p) m x is k r = absurd (subst (λ (y : Result Card Refusal). IsErrAnd y (P p)) is k)

  pub card_departs : (d : List ℕ) (e : Result Card Wrong) (m : Result Card Refusal) (q : Refusal) → m ≡ Err q → MatchResult e (λ x. m ≡ Ok x) (λ p. IsErrAnd m (P p)) → reading t ≡ behind e (λ y. read y.words.now) → ((p : Wrong) → P p q → q ≡ record { reason = reason.Departs; place = p.place }) → leaves (Err q) d ≡ read_into t d
  card_departs d (Ok x) m q is k r f = absurd (subst (λ (y : Result Card Refusal). MatchResult y (λ _. Unit {0}) (λ _. ⊥)) (sym k ∙ is) tt)
  card_departs d (Err p) m q is k r f = ap (λ (y : Refusal). leaves (Err y) d) (f p (subst (λ (y : Result Card Refusal). IsErrAnd y (P p)) is k)) ∙ read_departs t d p.place r
