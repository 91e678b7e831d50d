-- The parts of the profile, as the code reads them.
-- Assumes nothing.
use mathlib.Core.Path.{◌≡◌, refl, sym, ap, subst, ◌∙◌}
use mathlib.Core.Bool.{Bool, true, false, cond, ◌&&◌}
use mathlib.Core.List.{List, [], ◌∷◌}
use Prim.Native.Nat.{ℕ, zero, suc, ◌+◌, ◌-◌, ◌^◌, ◌≤◌}
use native.Mathlib.Numerals.{add-one}
use native.Mathlib.Omega.{arith}
use lib.Dec.{eqb}
use lib.Pow.{pow_mono}
use borrow.Author.Tests.{eq-eqb, ne_eqb, eqb-true, eqb-false}
use mathlib.Core.Logic.{⊎_elim}
use Rattle.std.proofs.Common.{Result, Ok, Option, Some}
use Rattle.std.specs.Option.{option_eq}
use Rattle.sets.proofs.Logic.{and_left, and_right, and_false_cases}
use Rattle.text.specs.declared.Wrong.{Wrong}
use Rattle.form.specs.Places.{next_byte}
use Rattle.form.proofs.Bytes.{next_same, next_other}
use Rattle.games.specs.Format.{max_actions, max_observations, max_cells, kind_first, kind_next}
use Rattle.games.specs.Words.{card_words}
use Rattle.games.specs.Automaton.{Automaton}
use Rattle.text.specs.Text.{bytes}
use Rattle.form.specs.Form.{Form, stop, reads, Has, byte_at, word, finished, number}
use Rattle.form.specs.Cursors.{runs, behind, Gives}
use Rattle.form.specs.declared.Reader.{Reader}
use Rattle.form.specs.declared.Numeral.{Numeral}
use Rattle.form.specs.declared.Range.{Range}
use Rattle.form.proofs.Choices.{word_unlike, reads_first, reads_second}
use Rattle.form.proofs.Laws.{taken}
use Rattle.kiss.proofs.Head.{head_out}
use Rattle.kiss.specs.Text.{bits}
use Rattle.kiss.specs.Profile.{state_from, end_rest, end, head}
use Rattle.kiss.proofs.Widths.{bits_enough, bits_few}
use Rattle.kiss_reader.specs.declared.Head.{Head}
use Rattle.kiss_reader.specs.Reading.{counts, widths, states, Limited, HeadRead}
use Rattle.kiss_reader.specs.Sizing.{Sized}
use Rattle.kiss_reader.specs.Storing.{slot_kind}

-- a number that is read, by the numeral's and the range's parts
pub given : (c r : Reader) (n : Numeral) (range : Range) (e : Result ℕ Wrong) (base width lo hi : ℕ) → Gives c r n range e
    → n.base ≡ base → n.width ≡ width → range.least ≡ lo → range.most ≡ hi
    → (next : ℕ → Form) → runs (number base width lo hi next) c ≡ behind e (λ v. runs (next v) r)
given c r n range e base width lo hi g eb ew el eh next = rw (← eb, ← ew, ← el, ← eh) (g.goes next)

-- ---- the head

-- the three numbers that are read
abbrev three : ℕ → ℕ → ℕ → Form
three a o s = stop (a ∷ o ∷ s ∷ [])

stopped_has : (vs w us : List ℕ) → Has (stop vs) w us → vs ≡ us
unfolding Has
stopped_has vs [] us h = h
stopped_has vs (b ∷ w) us h = absurd h

same_three : (a o s b p r : ℕ) → a ∷ o ∷ s ∷ [] ≡ b ∷ p ∷ r ∷ [] → (a ≡ b) × (o ≡ p) × (s ≡ r)
same_three a o s b p r e = (cc, cc, cc)

pub head_parts : (c : Reader) (next : ℕ → ℕ → ℕ → Form) → runs (head next) c ≡ runs (counts (λ a o. widths (bits o) (bits a) (states (λ s. next a o s)))) c
unfolding head counts widths states
head_parts c next = refl

-- a text of the head has numbers within the limits
head_limited : (w : List ℕ) (r : Head) → Has (head three) w (r.counts.actions ∷ r.counts.observations ∷ r.states ∷ []) → Limited r
head_limited w r h =
    let k = head_out three w (r.counts.actions ∷ r.counts.observations ∷ r.states ∷ []) h in
    let e = same_three k.actions k.observations (suc k.cells) r.counts.actions r.counts.observations r.states (stopped_has _ k.rest _ k.has) in
    record {
      some_action = subst (λ (x : ℕ). 1 ≤ x) e.0 k.some_action;
      actions = subst (λ (x : ℕ). x ≤ max_actions) e.0 k.few_actions;
      some_observation = subst (λ (x : ℕ). 1 ≤ x) e.1 k.some_observation;
      observations = subst (λ (x : ℕ). x ≤ max_observations) e.1 k.few_observations;
      some_state = subst (λ (x : ℕ). 2 ≤ x) e.2 (omega (arith, k.some_cell));
      states = subst (λ (x : ℕ). x ≤ max_cells + 1) e.2 (omega (arith, k.few_cells));
    }

-- the numbers of a head that was read
head_within : (c r : Reader) (x : Head) → ((next : ℕ → ℕ → ℕ → Form) → runs (head next) c ≡ runs (next x.counts.actions x.counts.observations x.states) r) → Limited x
unfolding runs reads
head_within c r x go =
    let k = taken (head three) (byte_at c.text.now) c.at (x.counts.actions ∷ x.counts.observations ∷ x.states ∷ []) (go three) in
    head_limited k.text x k.has

pub head_read : (c r : Reader) (x : Head) → r.text.now ≡ c.text.now → ((next : ℕ → ℕ → ℕ → Form) → runs (head next) c ≡ runs (next x.counts.actions x.counts.observations x.states) r) → HeadRead c r (Ok x)
head_read c r x same go = record { same = same; bounded = head_within c r x go; goes = go }

-- ---- the name of a state

module _ (c : Reader) (m : ℕ) where
  other_unlike : ◌≡◌ {A = ℕ} 114 99 → ⊥
  other_unlike e = omega arith

  abbrev pub cell_form : (lowest : ℕ) → (ℕ → Form) → Form
  cell_form lo next = word (bytes "c") (number 10 5 lo (m - 1) (λ d. next (d + 1)))

  pub state_reset : byte_at c.text.now c.at ≡ 114 → (next : ℕ → Form) → runs (state_from m 0 next) c ≡ runs (word (bytes "reset") (next 0)) c
  unfolding runs state_from reads word
  state_reset h next =
      reads_first 114 (word (bytes "eset") (next 0)) (cell_form 0 next) (byte_at c.text.now) c.at (word_unlike 114 99 [] (number 10 5 0 (m - 1) (λ d. next (d + 1))) other_unlike) h
      ∙ rw (add-one, eq-eqb (byte_at c.text.now c.at) 114 h)

  pub state_named : (least : ℕ) → (least ≡ 0 → byte_at c.text.now c.at ≡ 114 → ⊥) → (next : ℕ → Form) → runs (state_from m least next) c ≡ runs (cell_form (least - 1) next) c
  unfolding runs state_from
  state_named zero n next =
      reads_second 114 (word (bytes "eset") (next 0)) (cell_form 0 next) (byte_at c.text.now) c.at (word_unlike 114 99 [] (number 10 5 0 (m - 1) (λ d. next (d + 1))) other_unlike) (n refl)
  state_named (suc d) n next =
      let z : d ≡ suc d - 1 = omega arith in
      ap (λ (lo : ℕ). reads (cell_form lo next) (byte_at c.text.now) c.at) z

-- as the code tests it
module _ (c : Reader) (m least : ℕ) (o : Option ℕ) (is : next_byte o ≡ byte_at c.text.now c.at) where
  pub state_first : (eqb least 0 && option_eq eqb o (Some 114)) ≡ true → (next : ℕ → Form) → runs (state_from m least next) c ≡ runs (word (bytes "reset") (next 0)) c
  state_first h next =
      let z : least ≡ 0 = eqb-true least 0 (and_left (eqb least 0) (option_eq eqb o (Some 114)) h) in
      let r : next_byte o ≡ 114 = next_same o 114 (and_right (eqb least 0) (option_eq eqb o (Some 114)) h) in
      ap (λ (n : ℕ). runs (state_from m n next) c) z ∙ state_reset c m (sym is ∙ r) next

  pub state_other : (eqb least 0 && option_eq eqb o (Some 114)) ≡ false → (next : ℕ → Form) → runs (state_from m least next) c ≡ runs (cell_form c m (least - 1) next) c
  state_other h =
      state_named c m least
      (λ z r. ⊎_elim (λ e. eqb-false least 0 e z) (λ e. next_other o 114 (omega arith) e (is ∙ r)) (and_false_cases (eqb least 0) (option_eq eqb o (Some 114)) h))

-- ---- the end

pub end_parts : (c : Reader) (a o : ℕ) (B : Automaton) → runs (end a o B) c ≡ runs (word (bytes ".e\n") (finished (card_words B a o))) c
unfolding end end_rest word
end_parts c a o B = refl

-- ---- what the small functions give

-- the sizes, with numerals of as many bits as they need
pub sized : (a o m : ℕ) (i u : Numeral) → 1 ≤ a → a ≤ max_actions → 1 ≤ o → o ≤ max_observations → 1 ≤ m → m ≤ max_cells
    → i.base ≡ 2 → i.width ≡ bits o → u.base ≡ 2 → u.width ≡ bits a → Sized a o m i u
sized a o m i u sa la so lo sm lm bi wi bu wu =
    let pi : i.power ≡ 2 ^ bits o = rw (i.counted, bi, wi) in
    let pu : u.power ≡ 2 ^ bits a = rw (u.counted, bu, wu) in
    let fi : 2 ^ bits o ≤ 2 ^ 3 = pow_mono (bits_few o lo) in
    let fu : 2 ^ bits a ≤ 2 ^ 3 = pow_mono (bits_few a la) in
    record {
      some_action = sa;
      actions = la;
      some_observation = so;
      observations = lo;
      some_cell = sm;
      cells = lm;
      input_base = bi;
      output_base = bu;
      input = wi;
      output = wu;
      few_inputs = omega (arith, pi, fi);
      few_outputs = omega (arith, pu, fu);
      input_enough = omega (arith, pi, bits_enough o lo);
      output_enough = omega (arith, pu, bits_enough a la);
    }

pub kind_first_lem : (q : ℕ) → q ≡ 0 → kind_first ≡ slot_kind q
kind_first_lem q e = sym (ap (λ (b : Bool). cond b kind_first kind_next) (eq-eqb q 0 e))

pub kind_next_lem : (q : ℕ) → (q ≡ 0 → ⊥) → kind_next ≡ slot_kind q
kind_next_lem q n = sym (ap (λ (b : Bool). cond b kind_first kind_next) (ne_eqb q 0 n))
