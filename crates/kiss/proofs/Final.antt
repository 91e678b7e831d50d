-- The texts of the profile are just the texts of cards: what is read, and where a text departs.
-- Assumes nothing.
use Prim.{tt}
use mathlib.Core.Path.{◌≡◌, refl, sym, ap, ap₂, subst, ◌∙◌}
use mathlib.Core.Logic.{⊎_elim}
use mathlib.Core.List.{List, [], ◌∷◌, ◌++◌, append_assoc}
use Prim.Native.Nat.{ℕ, zero, suc, ◌+◌, ◌*◌, ◌-◌, ◌≤◌, ◌<◌}
use native.Mathlib.Omega.{arith, not-le}
use lib.ListN.{length, set, length-append}
use Rattle.sets.specs.Bounded.{gather}
use Rattle.sets.proofs.Fills.{gather_ext}
use Rattle.games.specs.Automaton.{Automaton, no_cell}
use Rattle.games.specs.Words.{card_words}
use Rattle.cards.specs.Card.{automaton, card_actions, card_observations, checked, Fitting}
use Rattle.cards.proofs.Checked.{fitting}
use Rattle.cards.proofs.Running.{named_cell}
use Rattle.cards.proofs.Written.{Agree, written_checked, written_agrees, written_actions, written_observations}
use Rattle.text.specs.Text.{bytes}
use Rattle.form.specs.Form.{Form, Has, Live, ending, read, departs, byte_at}
use Rattle.form.proofs.Laws.{taken, round, local, nearest}
use Rattle.form.proofs.Spelled.{Small, spells_self, begins, whole, changed}
use Rattle.kiss.specs.Text.{target, slot_text, state_text, head_text, machine_text, kiss_text, line_text}
use Rattle.kiss.specs.Profile.{blank, lines, profile, reading}
use Rattle.kiss.specs.Legible.{legible}
use Rattle.kiss.proofs.Slots.{behind, gather_behind, rows}
use Rattle.kiss.proofs.Machines.{slot_none, slot_line, target_named, fitting_blank, blank_size}
use Rattle.kiss.proofs.Said.{same_or_not, free_blank, told_blank, keeps_blank}
use Rattle.kiss.proofs.Head.{head_in, head_out, head_live}
use Rattle.kiss.proofs.Bytes.{text_small}
use Rattle.kiss.proofs.Lines.{slot, closing, MachineIs, lines_in, lines_out, lines_live}
use Rattle.std.specs.Prelude.{Ok}

-- ---- the text of a machine

-- its slots in one row, and the end
pub machine_row : (A : Automaton) (a o : ℕ) → 0 < o
    → machine_text A a o ++ (ending ∷ []) ≡ head_text a o A.size ++ (behind 0 (suc A.size * o) (slot A a o) ++ closing)
unfolding machine_text state_text
machine_row A a o l =
    let e : gather (suc A.size) (λ q. gather o (slot_text A a o q)) ≡ behind 0 (suc A.size * o) (slot A a o) =
    rows (suc A.size) o (slot_text A a o) l ∙ gather_behind (slot A a o) (suc A.size * o) in
    four (head_text a o A.size) _ (behind 0 (suc A.size * o) (slot A a o)) (bytes ".e\n") (ending ∷ []) e
  where
    four : (h g b c d : List ℕ) → g ≡ b → h ++ g ++ c ++ d ≡ h ++ (b ++ (c ++ d))
    four h g b c d e = simp append_assoc (rw (e))

-- machines that agree have one text
module _ (A C : Automaton) (a o : ℕ) (E : Agree A C o) (F : Fitting C a o) where
  same_target : (q j : ℕ) → q ≤ A.size → j < o → target A q j ≡ target C q j
  unfolding target
  same_target zero j l k = E.begins_same j k
  same_target (suc c) j l k = E.next_same c j l k

  same_piece : (q j : ℕ) → q ≤ A.size → j < o → slot_text A a o q j ≡ slot_text C a o q j
  same_piece q j l k =
      let t = same_target q j l k in
      let n = target C q j in
      ⊎_elim
      (λ e. slot_none A a o q j (t ∙ e) ∙ sym (slot_none C a o q j e))
      (λ e.
      let b : n < C.size = named_cell C n (target_named C a o q j F (omega (arith, E.size_same)) k) e in
      slot_line A a o q j (λ z. e (sym t ∙ z))
      ∙ ap₂ (line_text a o q j) t (ap A.action t ∙ E.action_same n (omega (arith, E.size_same)))
      ∙ sym (slot_line C a o q j e))
      (same_or_not n no_cell)

  pub same_text : machine_text A a o ≡ machine_text C a o
  unfolding machine_text state_text
  same_text =
      ap (λ (l : List ℕ). head_text a o A.size ++ l ++ bytes ".e\n")
      (gather_ext (suc A.size) (state_text A a o) (state_text C a o)
      (λ q l. gather_ext o (slot_text A a o q) (slot_text C a o q) (λ j k. same_piece q j (omega arith) k)))
      ∙ ap (λ (m : ℕ). head_text a o m ++ gather (suc m) (state_text C a o) ++ bytes ".e\n") E.size_same

-- ---- the profile

abbrev start : (a o s : ℕ) → Form
start a o s = lines a o (s * o) (blank (s - 1)) 0 0

begun : (a o m : ℕ) → start a o (suc m) ≡ lines a o (suc m * o) (blank m) 0 0
begun a o m = let e : suc m - 1 ≡ m = omega arith in rw (e)

module _ (A : Automaton) (a o : ℕ) (F : Fitting A a o) where
  machine_in : Has profile (machine_text A a o ++ (ending ∷ [])) (card_words (legible A o) a o)
  unfolding profile
  machine_in =
      let m = A.size in
      let size = blank_size m in
      subst (λ (t : List ℕ). Has profile t (card_words (legible A o) a o)) (sym (machine_row A a o F.some_observation))
      (head_in a o m start (behind 0 (suc m * o) (slot A a o) ++ closing) (card_words (legible A o) a o)
      F.some_action F.actions F.some_observation F.observations F.some_cell F.cells
      (subst (λ (G : Form). Has G (behind 0 (suc m * o) (slot A a o) ++ closing) (card_words (legible A o) a o)) (sym (begun a o m))
      (lines_in A a o F (suc m * o) (suc m * o) (blank m) 0 0 0
      (record {
        fits = fitting_blank m a o F.some_cell F.cells F.some_action F.actions F.some_observation F.observations;
        told = told_blank m o F.cells;
        free = free_blank m o 0;
        keeps = keeps_blank m A o refl;
        state_in = omega arith;
        from_in = omega arith;
        behind_lines = omega arith;
      })
      (omega (arith, ap (λ (x : ℕ). suc x * o) size)) (omega arith))))

-- the text of a card, and what it says of it
pub profile_in : (w : List ℕ) → checked w ≡ Ok tt
    → Has profile (kiss_text w ++ (ending ∷ [])) (card_words (legible (automaton w) (card_observations w)) (card_actions w) (card_observations w))
unfolding kiss_text
profile_in w e = machine_in (automaton w) (card_actions w) (card_observations w) (fitting w e)

-- a text of the profile is that of a card, whose words it says
pub record TextIs (t us : List ℕ) : Type 0 where
  pub fine : checked us ≡ Ok tt
  pub text : t ≡ kiss_text us ++ (ending ∷ [])

-- what is written of a machine is a card, with the machine's text
pub written_text : (C : Automaton) (a o : ℕ) → Fitting C a o → kiss_text (card_words C a o) ≡ machine_text C a o
unfolding kiss_text
written_text C a o F =
    let x = card_words C a o in
    rw (written_actions C a o F, written_observations C a o F) (same_text (automaton x) C a o (written_agrees C a o F) F)

pub profile_out : (t us : List ℕ) → Has profile t us → TextIs t us
unfolding profile
profile_out t us h =
    let d = head_out start t us h in
    let a = d.actions in
    let o = d.observations in
    let m = d.cells in
    let r = lines_out a o (suc m * o) (blank m) 0 0 d.rest us
    (fitting_blank m a o d.some_cell d.few_cells d.some_action d.few_actions d.some_observation d.few_observations)
    (free_blank m o (0 * o + 0)) (omega arith) (omega arith) (subst (λ (G : Form). Has G d.rest us) (begun a o m) d.has) in
    read_machine t us a o m d.rest d.some_observation d.text r
  where
    read_machine : (t us : List ℕ) (a o m : ℕ) (rest : List ℕ) → 1 ≤ o → t ≡ head_text a o m ++ rest → MachineIs a o (blank m) (0 * o + 0) rest us → TextIs t us
    read_machine t us a o m rest l e r =
        let C = r.machine in
        let size : C.size ≡ m = sym r.keeps.size_same ∙ blank_size m in
        let z : 0 * o + 0 ≡ 0 = omega arith in
        let g : rest ≡ behind 0 (suc C.size * o) (slot C a o) ++ closing =
        r.text (suc C.size * o) (omega (arith, ap (λ (x : ℕ). suc x * o) r.keeps.size_same)) ∙ ap (λ (p : ℕ). behind p (suc C.size * o) (slot C a o) ++ closing) z in
        let f : t ≡ machine_text C a o ++ (ending ∷ []) =
        e ∙ ap₂ (λ (x : ℕ) (y : List ℕ). head_text a o x ++ y) (sym size) g ∙ sym (machine_row C a o l) in
        record {
          fine = ap checked r.words ∙ written_checked C a o r.fits;
          text = f ∙ ap (λ (x : List ℕ). x ++ (ending ∷ [])) (sym (ap kiss_text r.words ∙ written_text C a o r.fits));
        }

pub profile_live : Live profile
unfolding profile
profile_live =
    head_live start (λ a o m a₁ a₂ o₁ o₂ m₁ m₂.
    subst Live (sym (begun a o m)) (lines_live a o (suc m * o) (blank m) 0 0 (fitting_blank m a o m₁ m₂ a₁ a₂ o₁ o₂) (omega arith) (omega arith)))

-- ---- reading and writing

-- reading what is written of a card: the words of what its text says
pub read_written : (w : List ℕ) → checked w ≡ Ok tt
    → reading (kiss_text w) ≡ read (card_words (legible (automaton w) (card_observations w)) (card_actions w) (card_observations w))
unfolding reading
read_written w e =
    round profile (byte_at (kiss_text w)) 0 (kiss_text w ++ (ending ∷ [])) (card_words (legible (automaton w) (card_observations w)) (card_actions w) (card_observations w))
    (profile_in w e) (spells_self (kiss_text w))

-- what is read is a card, and was written of it
pub written_read : (t x : List ℕ) → Small t → reading t ≡ read x → (checked x ≡ Ok tt) × (t ≡ kiss_text x)
unfolding reading
written_read t x s e =
    let k = taken profile (byte_at t) 0 x e in
    let h = profile_out k.text x k.has in
    (h.fine, whole t (kiss_text x) s (text_small x h.fine) (rw h.text at k.spells))

-- a place before a changed byte is the place without the change
pub change_later : (t : List ℕ) (i b q : ℕ) → reading (set t i b) ≡ departs q → q < i → reading t ≡ departs q
unfolding reading
change_later t i b q e l = changed profile t i b q e l

-- a text that is read departs nowhere
not_both : (t us : List ℕ) (q : ℕ) → reading t ≡ read us → reading t ≡ departs q → ⊥
not_both t us q f g = let z : ◌≡◌ {A = ℕ} 0 1 = cc in omega arith

-- so a card's text with one byte changed is refused at that byte or later, if at all
pub change_refused : (w : List ℕ) (i b q : ℕ) → checked w ≡ Ok tt → reading (set (kiss_text w) i b) ≡ departs q → i ≤ q
change_refused w i b q v e =
    let h : i < suc q = not-le (suc q) i (λ l. not_both (kiss_text w) _ q (read_written w v) (change_later (kiss_text w) i b q e (omega arith))) in
    omega arith

-- where a text departs: some card's text begins with the bytes before the place, and goes on there
pub record Place (t : List ℕ) (q : ℕ) : Type 0 where
  pub card : List ℕ
  pub fine : checked card ≡ Ok tt
  pub front : List ℕ
  pub next : ℕ
  pub back : List ℕ
  pub written : kiss_text card ++ (ending ∷ []) ≡ front ++ (next ∷ back)
  pub rest : List ℕ
  pub given : t ≡ front ++ rest
  pub place : q ≡ length front

nil_cons : (x : ℕ) (b : List ℕ) → ◌≡◌ {A = List ℕ} [] (x ∷ b) → ⊥
nil_cons x b e = let z : ◌≡◌ {A = ℕ} 0 1 = cc in omega arith

-- what stands before some byte of a text with its end is bytes
small_before : (w f b : List ℕ) (x : ℕ) → Small w → w ++ (ending ∷ []) ≡ f ++ (x ∷ b) → Small f
unfolding Small
small_before w [] b x s e = tt
small_before [] (y ∷ []) b x s e = let z : [] ≡ x ∷ b = cc in absurd (nil_cons x b z)
small_before [] (y ∷ z ∷ f) b x s e = let g : [] ≡ z ∷ (f ++ (x ∷ b)) = cc in absurd (nil_cons z (f ++ (x ∷ b)) g)
small_before (v ∷ w) (y ∷ f) b x s e =
    let p : v ≡ y = cc in
    let g : w ++ (ending ∷ []) ≡ f ++ (x ∷ b) = cc in
    (subst (λ (n : ℕ). n < 256) p s.0, small_before w f b x s.1 g)

pub departure : (t : List ℕ) (q : ℕ) → reading t ≡ departs q → Place t q
unfolding reading
departure t q e =
    let n = nearest profile (byte_at t) 0 q profile_live e in
    let h = profile_out (n.front ++ (n.next ∷ n.back)) n.numbers n.has in
    let g = begins t n.front (small_before (kiss_text n.numbers) n.front n.back n.next (text_small n.numbers h.fine) (sym h.text)) n.spells in
    record {
      card = n.numbers;
      fine = h.fine;
      front = n.front;
      next = n.next;
      back = n.back;
      written = sym h.text;
      rest = g.rest;
      given = g.text;
      place = omega (arith, n.long);
    }

pub place_within : (t : List ℕ) (q : ℕ) → reading t ≡ departs q → q ≤ length t
place_within t q e =
    let d = departure t q e in
    omega (arith, d.place, simp length-append at (ap length d.given))

-- and none goes on as the text does there
pub no_further : (t w : List ℕ) (q : ℕ) → checked w ≡ Ok tt → reading t ≡ departs q → ((j : ℕ) → j ≤ q → byte_at t j ≡ byte_at (kiss_text w) j) → ⊥
unfolding reading
no_further t w q v e a = not_both (kiss_text w) _ q (read_written w v) (local profile (byte_at t) (byte_at (kiss_text w)) 0 q e a)
