-- The texts of the lines of the profile are those of machines that keep what the lines before them say.
-- Assumes nothing.
use Prim.{tt}
use mathlib.Core.Path.{◌≡◌, refl, sym, ap, ap₂, subst, ◌∙◌}
use mathlib.Core.Logic.{⊎_elim}
use mathlib.Core.Bool.{Bool, true, false, cond}
use mathlib.Core.List.{List, [], ◌∷◌, ◌++◌, append_assoc}
use Prim.Native.Nat.{ℕ, zero, suc, ◌+◌, ◌*◌, ◌-◌, ◌/◌, ◌%◌, ◌≤◌, ◌<◌}
use native.Mathlib.Nat.{div-add-mod', mod-lt, div-lt_iff_lt-mul}
use native.Mathlib.Omega.{arith}
use lib.Dec.{ltb}
use borrow.Author.Tests.{eq-eqb, eqb-true, lt-ltb, le-ltb}
use Rattle.sets.proofs.Logic.{decided, clash, or_left, or_right, lt_or_le}
use Rattle.games.specs.Format.{max_cells}
use Rattle.games.specs.Automaton.{Automaton, no_cell}
use Rattle.games.specs.Words.{card_words}
use Rattle.cards.specs.Card.{Fitting}
use Rattle.cards.proofs.Running.{named_cell}
use Rattle.cards.proofs.Written.{Agree, same_words}
use Rattle.text.specs.Text.{bytes}
use Rattle.form.specs.Form.{Form, stop, Has, Live, ending, or_else}
use Rattle.form.proofs.Texts.{word_in, word_out, word_live, glued}
use Rattle.form.proofs.Choices.{first_in, second_in, either_out, either_live}
use Rattle.kiss.specs.Text.{target, line_text, slot_text}
use Rattle.kiss.specs.Profile.{with_line, known, more, least_input, least_state, least_output, most_output, line, end_rest, end, lines}
use Rattle.kiss.specs.Legible.{named, legible}
use Rattle.kiss.proofs.Slots.{behind, behind_skip, behind_at, state_up, state_above, slot_up, slot_along, slot_within}
use Rattle.kiss.proofs.Machines.{target_named, slot_none, slot_line, fitting_line, line_size, set_entered, action_entered, target_here}
use Rattle.kiss.proofs.Said.{Free, Told, Keeps, named_same, free_line, told_line, keeps_self, keeps_line, keeps_back, keeps_none, same_or_not}
use Rattle.kiss.proofs.Line.{Around, Fits, LineIs, line_in, line_out, line_live, output_below, line_unlike}

-- ---- the text of a slot, by its number

abbrev pub slot : Automaton → (a o : ℕ) → ℕ → List ℕ
slot A a o p = slot_text A a o (p / o) (p % o)

-- what stands behind the lines
abbrev pub closing : List ℕ
closing = bytes ".e\n" ++ (ending ∷ [])

-- the slots from p on have no line
free_slots : (A : Automaton) (a o p i : ℕ) → 1 ≤ o → Free A o p → behind p i (slot A a o) ≡ []
unfolding behind
free_slots A a o p i l f =
    let e : i + 0 ≡ i = omega arith in
    ap (λ (k : ℕ). behind p k (slot A a o)) (sym e)
    ∙ behind_skip (slot A a o) p i 0 (λ k h g. slot_none A a o (k / o) (k % o) (f (k / o) (k % o) (mod-lt k l) (omega (arith, div-add-mod' k o))))

-- ---- the end

stopped_has : (vs w us : List ℕ) → Has (stop vs) w us → (vs ≡ us) × (w ≡ [])
unfolding Has
stopped_has vs [] us h = (h, refl)
stopped_has vs (b ∷ w) us h = absurd h

module _ (a o : ℕ) (B : Automaton) where
  rest_in : Has (end_rest a o B) (bytes "e\n" ++ (ending ∷ [])) (card_words B a o)
  unfolding end_rest Has
  rest_in = word_in (bytes "e\n") _ (ending ∷ []) (card_words B a o) (word_in (ending ∷ []) (stop (card_words B a o)) [] (card_words B a o) refl)

  end_in : Has (end a o B) closing (card_words B a o)
  unfolding end
  end_in = word_in (bytes ".") (end_rest a o B) (bytes "e\n" ++ (ending ∷ [])) (card_words B a o) rest_in

  rest_out : (w us : List ℕ) → Has (end_rest a o B) w us → (w ≡ bytes "e\n" ++ (ending ∷ [])) × (us ≡ card_words B a o)
  unfolding end_rest
  rest_out w us h =
      let b = word_out (bytes "e\n") _ w us h in
      let c = word_out (ending ∷ []) (stop (card_words B a o)) b.rest us b.has in
      let d = stopped_has (card_words B a o) c.rest us c.has in
      (b.text ∙ ap (λ (l : List ℕ). bytes "e\n" ++ l) (c.text ∙ ap (λ (l : List ℕ). ending ∷ l) d.1), sym d.0)

  end_out : (w us : List ℕ) → Has (end a o B) w us → (w ≡ closing) × (us ≡ card_words B a o)
  unfolding end
  end_out w us h =
      let b = word_out (bytes ".") (end_rest a o B) w us h in
      let c = rest_out b.rest us b.has in
      (b.text ∙ ap (λ (l : List ℕ). 46 ∷ l) c.0, c.1)

  rest_live : Live (end_rest a o B)
  unfolding end_rest Live
  rest_live = word_live (bytes "e\n") _ (word_live (ending ∷ []) (stop (card_words B a o)) tt)

  end_live : Live (end a o B)
  unfolding end
  end_live = word_live (bytes ".") (end_rest a o B) rest_live

-- ---- the lines, by their case

abbrev then : (a o k : ℕ) → Automaton → (s j n u : ℕ) → Form
then a o k B s j n u = lines a o k (with_line B s j n u) s (j + 1)

module _ (a o k : ℕ) (B : Automaton) (q from : ℕ) where
  lines_on : more B.size o q from ≡ true → lines a o (suc k) B q from ≡ or_else 46 (end_rest a o B) (line a o B q from (then a o k B))
  unfolding lines
  lines_on e = rw (lines, e)

  lines_over : more B.size o q from ≡ false → lines a o (suc k) B q from ≡ end a o B
  unfolding lines
  lines_over e = rw (lines, e)

-- what is around a line that can come
around : (a o : ℕ) (B : Automaton) (q from : ℕ) → Fitting B a o → q ≤ B.size → from ≤ o → more B.size o q from ≡ true → Around a o B q from
around a o B q from F ql fl e =
    record {
      some_action = F.some_action;
      actions = F.actions;
      some_observation = F.some_observation;
      observations = F.observations;
      some_cell = F.some_cell;
      cells = F.cells;
      state_in = ql;
      from_in = fl;
      goes_on = e;
      action_below = F.action_below;
    }

-- the end may come at any time
close_in : (a o k : ℕ) (B : Automaton) (q from : ℕ) → Has (lines a o k B q from) closing (card_words B a o)
unfolding lines
close_in a o zero B q from = end_in a o B
close_in a o (suc k) B q from =
    ⊎_elim
    (λ e. subst (λ (F : Form). Has F closing (card_words B a o)) (sym (lines_on a o k B q from e))
    (first_in 46 (end_rest a o B) (line a o B q from (then a o k B)) (bytes "e\n" ++ (ending ∷ [])) (card_words B a o) (line_unlike a o B q from (then a o k B)) (rest_in a o B)))
    (λ e. subst (λ (F : Form). Has F closing (card_words B a o)) (sym (lines_over a o k B q from e)) (end_in a o B))
    (decided (more B.size o q from))

-- every byte that is waited for can come
pub lines_live : (a o k : ℕ) (B : Automaton) (q from : ℕ) → Fitting B a o → q ≤ B.size → from ≤ o → Live (lines a o k B q from)
unfolding lines
lines_live a o zero B q from F ql fl = end_live a o B
lines_live a o (suc k) B q from F ql fl =
    ⊎_elim
    (λ e. let r = around a o B q from F ql fl e in
    subst Live (sym (lines_on a o k B q from e))
    (either_live 46 (end_rest a o B) (line a o B q from (then a o k B)) (line_unlike a o B q from (then a o k B)) (rest_live a o B)
    (line_live a o B q from r (then a o k B) (λ s j n u f.
    lines_live a o k (with_line B s j n u) s (j + 1) (fitting_line B s j n u a o F f.cell_below (output_below a o B q from r s j n u f))
    (omega (arith, f.state_below, line_size B s j n u)) (omega (arith, f.input_below))))))
    (λ e. subst Live (sym (lines_over a o k B q from e)) (end_live a o B))
    (decided (more B.size o q from))

-- ---- a line that fits stands behind those before it

later : (o q from s j : ℕ) → from ≤ o → least_state q from j ≤ s → q * o + from ≤ s * o + j
later o q from s j l h =
    ⊎_elim
    (λ (b : j < from). slot_up o q from s j (let e : q + 1 ≤ s = rw (lt-ltb j from b) at h in omega arith) l)
    (λ (b : from ≤ j). slot_along o q from s j (rw (le-ltb j from b) at h) b)
    (lt_or_le j from)

-- a known cell's output is its action
pinned : (t : Bool) (x y u : ℕ) → t ≡ true → cond t x 0 ≤ u → u ≤ cond t x y → u ≡ x
pinned true x y u e a b = omega arith
pinned false x y u e a b = clash e refl

known_output : (a o : ℕ) (B : Automaton) (q from s j n u : ℕ) → Fits a o B q from s j n u → B.set n ≡ 0 → u ≡ B.action n
known_output a o B q from s j n u f e = pinned (known B n) (B.action n) (a - 1) u (eq-eqb (B.set n) 0 e) f.output_from f.output_to

-- ---- what a text of the lines says

-- a machine that keeps what was said below slot p, of which w is the rest of the text
pub record MachineIs (a o : ℕ) (B : Automaton) (p : ℕ) (w us : List ℕ) : Type 0 where
  pub machine : Automaton
  pub words : us ≡ card_words machine a o
  pub fits : Fitting machine a o
  pub keeps : Keeps B machine o p
  pub text : (i : ℕ) → p + i ≡ suc B.size * o → w ≡ behind p i (slot machine a o) ++ closing

-- no line more
no_more : (a o : ℕ) (B : Automaton) (p : ℕ) (w us : List ℕ) → Fitting B a o → Free B o p → w ≡ closing → us ≡ card_words B a o → MachineIs a o B p w us
no_more a o B p w us F f e g =
    record {
      machine = B;
      words = g;
      fits = F;
      keeps = keeps_self B o p;
      text = λ i h. e ∙ ap (λ (l : List ℕ). l ++ closing) (sym (free_slots B a o p i F.some_observation f));
    }

-- a text of a line and of what follows
joined : (w l r b c : List ℕ) → w ≡ l ++ r → r ≡ b ++ c → w ≡ l ++ b ++ c
joined w l r b c e f = simp append_assoc (rw (e, f))

-- the slots of a machine that keeps a line, from slot p on
module _ (a o : ℕ) (B C : Automaton) (p s j n u : ℕ) (jl : j < o) (below : p ≤ s * o + j) (free : Free B o p) (nl : n < B.size) (few : B.size ≤ max_cells)
    (known : B.set n ≡ 0 → u ≡ B.action n) (keeps : Keeps (with_line B s j n u) C o (s * o + (j + 1))) where
  empty_before : (k : ℕ) → p ≤ k → k < s * o + j → slot C a o k ≡ []
  empty_before k l h =
      let e = div-add-mod' k o in
      let m : k % o < o = mod-lt k (omega arith) in
      slot_none C a o (k / o) (k % o)
      ((keeps_back B o s j n u jl C (s * o + j) (omega arith) known keeps).targets (k / o) (k % o) m (omega arith) ∙ free (k / o) (k % o) m (omega arith))

  line_here : slot C a o (s * o + j) ≡ line_text a o s j n u
  line_here =
      let g = glued s j o jl in
      let t : target C s j ≡ n = keeps.targets s j jl (omega arith) ∙ target_here B s j n u in
      let e : C.action n ≡ u = keeps.actions n (omega (arith, line_size B s j n u)) (set_entered B s j n u) ∙ action_entered B s j n u in
      ap₂ (slot_text C a o) g.0 g.1 ∙ slot_line C a o s j (λ z. omega arith)
      ∙ ap₂ (λ (x y : ℕ). line_text a o s j x y) t (ap C.action t ∙ e)

  with_line_lem : (w rest : List ℕ) (i : ℕ) → s ≤ B.size → p + i ≡ suc B.size * o → w ≡ line_text a o s j n u ++ rest
      → ((k : ℕ) → s * o + (j + 1) + k ≡ suc B.size * o → rest ≡ behind (s * o + (j + 1)) k (slot C a o) ++ closing) → w ≡ behind p i (slot C a o) ++ closing
  with_line_lem w rest i sl e h g =
      let x = s * o + j in
      let within : x < suc B.size * o = slot_within o B.size s j sl jl in
      let c = slot C a o in
      let z : s * o + (j + 1) ≡ suc x = omega arith in
      let r : rest ≡ behind (suc x) (p + i - suc x) c ++ closing =
      g (p + i - suc x) (omega arith) ∙ ap (λ (y : ℕ). behind y (p + i - suc x) c ++ closing) z in
      joined w (line_text a o s j n u) rest (behind (suc x) (p + i - suc x) c) closing h r
      ∙ ap (λ (l : List ℕ). l ++ closing) (sym (behind_at c p x i (line_text a o s j n u) below (omega arith) empty_before line_here))

-- one line, and what follows it
one_more : (a o k : ℕ) (B : Automaton) (q from : ℕ) (w us : List ℕ) (F : Fitting B a o) → Free B o (q * o + from) → from ≤ o
    → (r : LineIs a o B q from (then a o k B) w us)
    → MachineIs a o (with_line B r.state r.observation r.cell r.output) (r.state * o + (r.observation + 1)) r.rest us
    → MachineIs a o B (q * o + from) w us
one_more a o k B q from w us F free fl r h =
    let f = r.fits in
    let s = r.state in
    let j = r.observation in
    let n = r.cell in
    let u = r.output in
    let p = later o q from s j fl f.state_from_lem in
    let known = known_output a o B q from s j n u f in
    record {
      machine = h.machine;
      words = h.words;
      fits = h.fits;
      keeps = keeps_back B o s j n u f.input_below h.machine (q * o + from) p known h.keeps;
      text = λ i e. with_line_lem a o B h.machine (q * o + from) s j n u f.input_below p free f.cell_below F.cells known h.keeps w r.rest i f.state_below e r.text
          (λ y g. h.text y (g ∙ ap (λ (m : ℕ). suc m * o) (sym (line_size B s j n u))));
    }

pub lines_out : (a o k : ℕ) (B : Automaton) (q from : ℕ) (w us : List ℕ) → Fitting B a o → Free B o (q * o + from) → q ≤ B.size → from ≤ o
    → Has (lines a o k B q from) w us → MachineIs a o B (q * o + from) w us
unfolding lines
lines_out a o zero B q from w us F free ql fl h =
    let e = end_out a o B w us h in
    no_more a o B (q * o + from) w us F free e.0 e.1
lines_out a o (suc k) B q from w us F free ql fl h =
    ⊎_elim
    (λ e. let r = around a o B q from F ql fl e in
    ⊎_elim
    (λ b. let c = rest_out a o B b.rest us b.has in
    no_more a o B (q * o + from) w us F free (b.text ∙ ap (λ (l : List ℕ). 46 ∷ l) c.0) c.1)
    (λ b. let c = line_out a o B q from r (then a o k B) w us b in
    let f = c.fits in
    let s = c.state in
    let j = c.observation in
    one_more a o k B q from w us F free fl c
    (lines_out a o k (with_line B s j c.cell c.output) s (j + 1) c.rest us
    (fitting_line B s j c.cell c.output a o F f.cell_below (output_below a o B q from r s j c.cell c.output f))
    (free_line B o s j c.cell c.output f.input_below (q * o + from) (later o q from s j fl f.state_from_lem) free)
    (omega (arith, f.state_below, line_size B s j c.cell c.output)) (omega (arith, f.input_below)) c.has))
    (either_out 46 (end_rest a o B) (line a o B q from (then a o k B)) w us (line_unlike a o B q from (then a o k B))
    (subst (λ (F : Form). Has F w us) (lines_on a o k B q from e) h)))
    (λ e. let c = end_out a o B w us (subst (λ (F : Form). Has F w us) (lines_over a o k B q from e) h) in
    no_more a o B (q * o + from) w us F free c.0 c.1)
    (decided (more B.size o q from))

-- ---- the text of a machine is one of the lines

-- after the last slot what was said is what a text says of the machine
module _ (A B : Automaton) (o : ℕ) (told : Told B o) (keeps : Keeps B A o (suc B.size * o)) where
  all_targets : (q j : ℕ) → q ≤ B.size → j < o → target A q j ≡ target B q j
  all_targets q j l k = keeps.targets q j k (slot_within o B.size q j l k)

  same_named : (c : ℕ) → named B o c ≡ named A o c
  same_named c = named_same B A o c keeps.size_same (λ q j l k e. all_targets q j l k ∙ e) (λ q j l k e. sym (all_targets q j l k) ∙ e)

  agrees : Agree B (legible A o) o
  unfolding legible target
  agrees =
      record {
        size_same = keeps.size_same;
        set_same = λ c l. ⊎_elim
            (λ e. told.entered_set c l e ∙ rw (sym (same_named c) ∙ e))
            (λ e. told.other_set c l e ∙ rw (sym (same_named c) ∙ e))
            (decided (named B o c));
        action_same = λ c l. ⊎_elim
            (λ e. sym (keeps.actions c l (told.entered_set c l e)) ∙ rw (sym (same_named c) ∙ e))
            (λ e. told.other_action c l e ∙ rw (sym (same_named c) ∙ e))
            (decided (named B o c));
        begins_same = λ j l. sym (all_targets 0 j (omega arith) l);
        next_same = λ c j l k. sym (all_targets (suc c) j l k);
      }

-- a line of A at slot s * o + j fits
module _ (A B : Automaton) (a o q from s j : ℕ) (F : Fitting A a o) (free : q * o + from ≤ s * o + j) (jl : j < o) (sl : s ≤ B.size) (ql : q ≤ B.size) where
  -- in the last state the observations go on
  last_state : B.size ≤ q → from ≤ j
  last_state l =
      let u : q ≤ s = state_up o q from s j free jl in
      let e : q ≡ s = omega arith in
      let z : q * o ≡ s * o = ap (λ (x : ℕ). x * o) e in
      omega arith

  goes_on : more B.size o q from ≡ true
  goes_on =
      ⊎_elim (λ l. or_left (ltb from o) (lt-ltb q B.size l))
      (λ l. or_right (ltb q B.size) (lt-ltb from o (omega (arith, last_state l))))
      (lt_or_le q B.size)

  input_right : least_input B.size q from ≤ j
  input_right =
      ⊎_elim (λ l. rw (lt-ltb q B.size l) (omega arith)) (λ l. rw (le-ltb q B.size l) (last_state l)) (lt_or_le q B.size)

  state_right : least_state q from j ≤ s
  state_right =
      ⊎_elim (λ l. let e : q < s = state_above o q from s j free jl l in rw (lt-ltb j from l) (omega arith))
      (λ l. let e : q ≤ s = state_up o q from s j free jl in rw (le-ltb j from l) e)
      (lt_or_le j from)

  module _ (n : ℕ) (size : B.size ≡ A.size) (nl : n < A.size) (same : B.set n ≡ 0 → A.action n ≡ B.action n) where
    output_low : least_output B n ≤ A.action n
    output_low =
        ⊎_elim (λ e. let g = same (eqb-true (B.set n) 0 e) in rw (e) (omega arith)) (λ e. rw (e) (omega arith)) (decided (known B n))

    output_high : A.action n ≤ most_output B a n
    output_high =
        ⊎_elim (λ e. let g = same (eqb-true (B.set n) 0 e) in rw (e) (omega arith)) (λ e. rw (e) (omega (arith, F.action_below n nl))) (decided (known B n))

    fits_in : Fits a o B q from s j n (A.action n)
    fits_in =
        record {
          input_below = jl;
          input_from = input_right;
          state_from_lem = state_right;
          state_below = sl;
          cell_below = omega arith;
          output_from = output_low;
          output_to = output_high;
        }

-- what holds where the slots from p on are left
pub record Left (A B : Automaton) (a o q from p : ℕ) : Type 0 where
  pub fits : Fitting B a o
  pub told : Told B o
  pub free : Free B o p
  pub keeps : Keeps B A o p
  pub state_in : q ≤ B.size
  pub from_in : from ≤ o
  pub behind_lines : q * o + from ≤ p

module _ (A : Automaton) (a o : ℕ) (F : Fitting A a o) where
  abbrev said : List ℕ
  said = card_words (legible A o) a o

  -- by the state and the observation of slot p
  module _ (B : Automaton) (q from p : ℕ) (h : Left A B a o q from p) (s j : ℕ) (jl : j < o) (at : s * o + j ≡ p) where
    passed : target A s j ≡ no_cell → Left A B a o q from (suc p)
    passed e =
        let z : s * o + (j + 1) ≡ suc p = omega arith in
        record {
          fits = h.fits;
          told = h.told;
          free = λ t i k l. h.free t i k (omega arith);
          keeps = subst (Keeps B A o) z (keeps_none B A o s j jl (subst (Keeps B A o) (sym at) h.keeps) (h.free s j jl (omega arith)) e);
          state_in = h.state_in;
          from_in = h.from_in;
          behind_lines = omega (arith, h.behind_lines);
        }

    module _ (sl : s ≤ B.size) (n : ℕ) (goes : target A s j ≡ n) (nl : n < A.size) where
      fitted : Fits a o B q from s j n (A.action n)
      fitted =
          fits_in A B a o q from s j F (omega (arith, h.behind_lines)) jl sl h.state_in n h.keeps.size_same nl
          (h.keeps.actions n (omega (arith, h.keeps.size_same)))

      taken : Left A (with_line B s j n (A.action n)) a o s (j + 1) (suc p)
      taken =
          let u = A.action n in
          let z : s * o + (j + 1) ≡ suc p = omega arith in
          let size = line_size B s j n u in
          record {
            fits = fitting_line B s j n u a o h.fits (omega (arith, h.keeps.size_same)) (F.action_below n nl);
            told = told_line B o s j n u jl h.fits.cells sl (h.free s j jl (omega arith)) h.told;
            free = subst (Free (with_line B s j n u) o) z (free_line B o s j n u jl p (omega arith) h.free);
            keeps = subst (Keeps (with_line B s j n u) A o) z (keeps_line B o s j n u jl A (subst (Keeps B A o) (sym at) h.keeps) goes refl);
            state_in = omega arith;
            from_in = omega arith;
            behind_lines = omega arith;
          }

      line_on : (k : ℕ) (w us : List ℕ) → Has (lines a o k (with_line B s j n (A.action n)) s (j + 1)) w us
          → Has (lines a o (suc k) B q from) (line_text a o s j n (A.action n) ++ w) us
      line_on k w us g =
          let u = A.action n in
          let e = goes_on A B a o q from s j F (omega (arith, h.behind_lines)) jl sl h.state_in in
          let r = around a o B q from h.fits h.state_in h.from_in e in
          subst (λ (G : Form). Has G (line_text a o s j n u ++ w) us) (sym (lines_on a o k B q from e))
          (second_in 46 (end_rest a o B) (line a o B q from (then a o k B)) (line_text a o s j n u ++ w) us (line_unlike a o B q from (then a o k B))
          (line_in a o B q from r s j n u (then a o k B) w us fitted g))

  pub lines_in : (i k : ℕ) (B : Automaton) (q from p : ℕ) → Left A B a o q from p → p + i ≡ suc B.size * o → i ≤ k
      → Has (lines a o k B q from) (behind p i (slot A a o) ++ closing) said
  unfolding behind
  lines_in zero k B q from p h e l =
      let z : p ≡ suc B.size * o = omega arith in
      subst (Has (lines a o k B q from) closing) (same_words B (legible A o) o (agrees A B o h.told (subst (Keeps B A o) z h.keeps)) a)
      (close_in a o k B q from)
  lines_in (suc i) zero B q from p h e l = absurd (omega arith)
  lines_in (suc i) (suc k) B q from p h e l =
      let s = p / o in
      let j = p % o in
      let at : s * o + j ≡ p = div-add-mod' p o in
      let jl : j < o = mod-lt p F.some_observation in
      let sl : s < suc B.size = (div-lt_iff_lt-mul F.some_observation).1 (omega arith) in
      let n = target A s j in
      let size = h.keeps.size_same in
      ⊎_elim
      (λ z. rw (slot_none A a o s j z) (lines_in i (suc k) B q from (suc p) (passed B q from p h s j jl at z) (omega arith) (omega arith)))
      (λ z.
      let nl : n < A.size = named_cell A n (target_named A a o s j F (omega arith) jl) z in
      rw (slot_line A a o s j z, append_assoc)
      (line_on B q from p h s j jl at (omega arith) n refl nl k (behind (suc p) i (slot A a o) ++ closing) said
      (lines_in i k (with_line B s j n (A.action n)) s (j + 1) (suc p) (taken B q from p h s j jl at (omega arith) n refl nl)
      (omega (arith, ap (λ (m : ℕ). suc m * o) (line_size B s j n (A.action n)))) (omega arith))))
      (same_or_not n no_cell)
