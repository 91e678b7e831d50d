-- The lines, as the code reads and stores them.
-- Assumes nothing.
use mathlib.Core.Path.{◌≡◌, refl, sym, ap, ap₂, subst, ◌∙◌}
use mathlib.Core.Logic.{⊎_elim}
use mathlib.Core.Bool.{Bool, true, false, cond, not, ◌&&◌}
use mathlib.Core.List.{List}
use Prim.Native.Nat.{ℕ, zero, suc, ◌+◌, ◌*◌, ◌-◌, ◌<◌}
use native.Mathlib.Numerals.{add-one}
use native.Mathlib.Nat.{eq-zero-or-pos}
use native.Mathlib.Omega.{arith}
use lib.Dec.{eqb, ltb}
use lib.ListN.{length, get_or}
use borrow.Author.Tests.{eqb-true, eqb-false, ltb-true, not-true, not-false, eq-eqb, lt-ltb}
use Rattle.std.proofs.Common.{Result, Ok, Err}
use Rattle.std.proofs.Math.Logic.{∥∥₁_elim}
use Rattle.std.proofs.Props.{props}
use Rattle.sets.proofs.Logic.{decided, clash, and_left, and_right, and_false_cases}
use Rattle.games.specs.Format.{kind_cell}
use Rattle.games.specs.Automaton.{Automaton}
use Rattle.games.specs.Fields.{low_field, action_field, word}
use Rattle.games.specs.Words.{card_length, card_words}
use Rattle.cards.specs.Card.{cell_place}
use Rattle.cards.proofs.Written.{card_long, cell_at, low_of, action_of_word}
use Rattle.text.specs.declared.Wrong.{Wrong}
use Rattle.form.specs.Form.{Form, read, reads, byte_at, word as fixed, or_else}
use Rattle.form.specs.Cursors.{runs, behind}
use Rattle.form.specs.declared.Reader.{Reader}
use Rattle.form.specs.declared.Range.{Range}
use Rattle.form.proofs.Choices.{Unlike, number_unlike, reads_first, reads_second}
use Rattle.kiss.specs.Text.{bits}
use Rattle.kiss.specs.Profile.{blank, known, with_line, least_output, most_output, least_input, more, line, end_rest, end, lines}
use Rattle.kiss.proofs.Widths.{bits_some}
use Rattle.kiss.proofs.Machines.{fitting_blank, blank_size, fitting_line, line_size}
use Rattle.kiss_reader.specs.declared.sizes.Sizes.{Sizes}
use Rattle.kiss.specs.declared.Slot.{Slot}
use Rattle.kiss_reader.specs.declared.Line.{Line}
use Rattle.kiss_reader.specs.Storing.{stored}
use Rattle.kiss_reader.specs.Reading.{slot, entry, Says, Held, outputs_by, LineRead, comes, EndRead, all_lines, InLines, LinesRead}
use Rattle.kiss_reader.proofs.Storing.{stored_line}

abbrev range : (least most : ℕ) → Range
range x y = record { least = x; most = y }

-- ---- the outputs that a cell can have

range_least : (b : Bool) (x y v : ℕ) → (cond b (range x x) (range v y)).least ≡ cond b x v
range_least true x y v = refl
range_least false x y v = refl

range_most : (b : Bool) (x y v : ℕ) → (cond b (range x x) (range v y)).most ≡ cond b x y
range_most true x y v = refl
range_most false x y v = refl

below_picked : (b : Bool) (x y a : ℕ) → x < a → y < a → cond b x y < a
below_picked true x y a l k = l
below_picked false x y a l k = k

module _ (z : Sizes) (B : Automaton) (w : List ℕ) (s : Says z B w) where
  pub says_long : length w ≡ card_length z.cells z.observations
  says_long = ap length s.words ∙ card_long B z.actions z.observations ∙ ap (λ (m : ℕ). card_length m z.observations) s.size

  module _ (n x : ℕ) (l : n < z.cells) (e : x ≡ get_or w (cell_place z.observations n) 0) where
    in_size : n < B.size
    in_size = subst (λ (m : ℕ). n < m) (sym s.size) l

    own_is : x ≡ word kind_cell (B.set n) 0 (B.action n)
    own_is =
        e ∙ ap (λ (v : List ℕ). get_or v (cell_place z.observations n) 0) s.words
        ∙ cell_at B z.actions z.observations n in_size

    set_is : low_field x ≡ B.set n
    set_is =
        ap low_field own_is
        ∙ low_of kind_cell (B.set n) 0 (B.action n) (omega (arith, s.fitting.set_below n in_size)) (omega arith) (omega (arith, s.fitting.action_below n in_size, s.fitting.actions))

    action_is : action_field x ≡ B.action n
    action_is =
        ap action_field own_is
        ∙ action_of_word kind_cell (B.set n) 0 (B.action n) (omega (arith, s.fitting.set_below n in_size)) (omega arith) (omega (arith, s.fitting.action_below n in_size, s.fitting.actions))

    pub least_is : (outputs_by z.actions x).least ≡ least_output B n
    least_is =
        range_least (eqb (low_field x) 0) (action_field x) (z.actions - 1) 0 ∙ ap₂ (λ (y v : ℕ). cond (eqb y 0) v 0) set_is action_is

    pub most_is : (outputs_by z.actions x).most ≡ most_output B z.actions n
    most_is =
        range_most (eqb (low_field x) 0) (action_field x) (z.actions - 1) 0 ∙ ap₂ (λ (y v : ℕ). cond (eqb y 0) v (z.actions - 1)) set_is action_is

    pub most_below : (outputs_by z.actions x).most < z.actions
    most_below =
        subst (λ (y : ℕ). y < z.actions) (sym most_is)
        (below_picked (known B n) (B.action n) (z.actions - 1) z.actions (s.fitting.action_below n in_size) (omega (arith, s.fitting.some_action)))

-- the same of a range that is known to be so
module _ (z : Sizes) (w : List ℕ) (n : ℕ) (r : Range) (l : n < z.cells) (e : r ≡ outputs_by z.actions (get_or w (cell_place z.observations n) 0)) where
  pub range_least_is : (B : Automaton) → Says z B w → r.least ≡ least_output B n
  range_least_is B s = ap (λ (x : Range). x.least) e ∙ least_is z B w s n _ l refl

  pub range_most_is : (B : Automaton) → Says z B w → r.most ≡ most_output B z.actions n
  range_most_is B s = ap (λ (x : Range). x.most) e ∙ most_is z B w s n _ l refl

  pub range_below : ∥ Held z w ∥₁ → r.most < z.actions
  range_below h = ∥∥₁_elim h (hlevel props) (λ k. subst (λ (x : Range). x.most < z.actions) (sym e) (most_below z k.machine w k.says n _ l refl))

pub held_long : (z : Sizes) (w : List ℕ) → ∥ Held z w ∥₁ → length w ≡ card_length z.cells z.observations
held_long z w h = ∥∥₁_elim h (hlevel props) (λ k. says_long z k.machine w k.says)

-- ---- a line, in two parts

pub line_parts : (c : Reader) (z : Sizes) (free : Slot) (B : Automaton) (w : List ℕ) → Says z B w → (next : ℕ → ℕ → ℕ → ℕ → Form)
    → runs (line z.actions z.observations B free.state free.observation next) c
    ≡ runs (slot z.observations z.cells free.state free.observation (λ x j. entry z.actions B (λ n u. next x j n u))) c
unfolding line slot entry
line_parts c z free B w s next =
    ap (λ (m : ℕ). runs (slot z.observations m free.state free.observation (λ x j. entry z.actions B (λ n u. next x j n u))) c) s.size

-- ---- a line comes, or the end

module _ (c : Reader) where
  module _ (a o : ℕ) (B : Automaton) (q from : ℕ) where
    line_unlike : (next : ℕ → ℕ → ℕ → ℕ → Form) → Unlike 46 (line a o B q from next)
    unfolding line
    line_unlike next = number_unlike 46 2 (least_input B.size q from) (o - 1) (bits o) 0 _ (bits_some o) (omega arith)

    abbrev rest : ℕ → ℕ → ℕ → ℕ → ℕ → Form
    rest k s j n u = lines a o k (with_line B s j n u) s (j + 1)

    pub line_next : (k : ℕ) → comes (byte_at c.text.now c.at) B.size o q from k ≡ true
        → runs (lines a o k B q from) c ≡ runs (line a o B q from (rest (k - 1))) c
    unfolding runs lines
    line_next zero h =
        let m = more B.size o q from in
        let z = ltb-true 0 0 (and_left (ltb 0 0) m (and_left (ltb 0 0 && m) (not (eqb (byte_at c.text.now c.at) 46)) h)) in
        absurd (omega arith)
    line_next (suc k) h =
        let m = more B.size o q from in
        let b = eqb (byte_at c.text.now c.at) 46 in
        let slots : m ≡ true = and_right (ltb 0 (suc k)) m (and_left (ltb 0 (suc k) && m) (not b) h) in
        let other : byte_at c.text.now c.at ≡ 46 → ⊥ = eqb-false (byte_at c.text.now c.at) 46 (not-true b (and_right (ltb 0 (suc k) && m) (not b) h)) in
        let less : suc k - 1 ≡ k = omega arith in
        rw (less, lines, slots)
        (reads_second 46 (end_rest a o B) (line a o B q from (rest k)) (byte_at c.text.now) c.at (line_unlike (rest k)) other)

    at_end : (next : ℕ → ℕ → ℕ → ℕ → Form) → byte_at c.text.now c.at ≡ 46 → runs (or_else 46 (end_rest a o B) (line a o B q from next)) c ≡ runs (end a o B) c
    unfolding runs end fixed reads
    at_end next h =
        reads_first 46 (end_rest a o B) (line a o B q from next) (byte_at c.text.now) c.at (line_unlike next) h
        ∙ rw (add-one, eq-eqb (byte_at c.text.now c.at) 46 h)

    pub line_last : (k : ℕ) → comes (byte_at c.text.now c.at) B.size o q from k ≡ false → runs (lines a o k B q from) c ≡ runs (end a o B) c
    unfolding lines
    line_last zero h = refl
    line_last (suc k) h =
        let m = more B.size o q from in
        let b = eqb (byte_at c.text.now c.at) 46 in
        ⊎_elim
        (λ slots.
        let dot : b ≡ true = ⊎_elim (λ x. ⊎_elim (λ y. clash (lt_true k) y) (λ y. clash slots y) (and_false_cases (ltb 0 (suc k)) m x)) (λ x. not-false b x) (and_false_cases (ltb 0 (suc k) && m) (not b) h) in
        rw (lines, slots) (at_end (rest k) (eqb-true (byte_at c.text.now c.at) 46 dot)))
        (λ none. rw (none))
        (decided m)
      where
        lt_true : (i : ℕ) → ltb 0 (suc i) ≡ true
        lt_true i = lt-ltb 0 (suc i) (omega arith)

-- ---- the loop

pub first_long : (z : Sizes) (w : List ℕ) → w ≡ card_words (blank z.cells) z.actions z.observations → length w ≡ card_length z.cells z.observations
first_long z w e = ap length e ∙ card_long (blank z.cells) z.actions z.observations ∙ ap (λ (m : ℕ). card_length m z.observations) (blank_size z.cells)

abbrev first_slot : Slot
first_slot = record { state = 0; observation = 0 }

abbrev pub slot_after : Line → Slot
slot_after x = record { state = x.slot.state; observation = x.slot.observation + 1 }

module _ (z : Sizes) (start : Reader) where
  pub in_lines_none : (w : List ℕ) (k : ℕ) → w ≡ card_words (blank z.cells) z.actions z.observations → k ≡ (z.cells + 1) * z.observations
      → InLines z start start k first_slot (blank z.cells) w
  in_lines_none w k e f =
      let s = z.sized in
      record {
        says = record {
          size = blank_size z.cells;
          fitting = fitting_blank z.cells z.actions z.observations s.some_cell s.cells s.some_action s.actions s.some_observation s.observations;
          words = e;
        };
        state = omega arith;
        observation = omega arith;
        goes = ap (λ (n : ℕ). runs (lines z.actions z.observations n (blank z.cells) 0 0) start) (sym f);
      }

  module _ (c : Reader) (k : ℕ) (free : Slot) (B : Automaton) (w : List ℕ) (i : InLines z start c k free B w) where
    pub in_lines_long : length w ≡ card_length z.cells z.observations
    in_lines_long = says_long z B w i.says

    pub in_lines_held : Held z w
    in_lines_held = record { machine = B; says = i.says }

    -- of the machine's own size
    sized_as : (b : Bool) → comes (byte_at c.text.now c.at) z.cells z.observations free.state free.observation k ≡ b
        → comes (byte_at c.text.now c.at) B.size z.observations free.state free.observation k ≡ b
    sized_as b h = subst (λ (m : ℕ). comes (byte_at c.text.now c.at) m z.observations free.state free.observation k ≡ b) (sym i.says.size) h

    -- with as many lines more as can be
    as_one : (b : Bool) → 0 < k → comes (byte_at c.text.now c.at) z.cells z.observations free.state free.observation 1 ≡ b → comes (byte_at c.text.now c.at) z.cells z.observations free.state free.observation k ≡ b
    as_one b l h = rw (lt-ltb 0 k l) h

    none : (0 < k → comes (byte_at c.text.now c.at) z.cells z.observations free.state free.observation 1 ≡ false) → comes (byte_at c.text.now c.at) z.cells z.observations free.state free.observation k ≡ false
    none h =
        ⊎_elim (λ e. let z0 : k ≡ 0 = e in ap (λ (n : ℕ). comes (byte_at c.text.now c.at) z.cells z.observations free.state free.observation n) z0) (λ l. as_one false l (h l)) (eq-zero-or-pos k)

    pub in_lines_end : (e : Result (Unit {0}) Wrong) → (0 < k → comes (byte_at c.text.now c.at) z.cells z.observations free.state free.observation 1 ≡ false) → EndRead c e → LinesRead z start w e
    in_lines_end e h g =
        record {
          held = in_lines_held;
          goes =
              i.goes ∙ line_last c z.actions z.observations B free.state free.observation k (sized_as false (none h)) ∙ g.goes z.actions z.observations B
              ∙ ap (λ (v : List ℕ). behind e (λ _. read v)) (sym i.says.words);
        }

    module _ (l : 0 < k) (h : comes (byte_at c.text.now c.at) z.cells z.observations free.state free.observation 1 ≡ true) where
      abbrev following : ℕ → ℕ → ℕ → ℕ → Form
      following s j n u = lines z.actions z.observations (k - 1) (with_line B s j n u) s (j + 1)

      one_line : runs (all_lines z) start ≡ runs (line z.actions z.observations B free.state free.observation following) c
      one_line = i.goes ∙ line_next c z.actions z.observations B free.state free.observation k (sized_as true (as_one true l h))

      pub in_lines_stop : (r : Reader) (p : Wrong) → LineRead c r z free w (Err p) → LinesRead z start w (Err p)
      in_lines_stop r p g = record { held = in_lines_held; goes = one_line ∙ g.goes B i.says following }

      pub in_lines_more : (r : Reader) (x : Line) → LineRead c r z free w (Ok x) → (v : List ℕ)
          → v ≡ stored z.observations x.slot.state x.slot.observation x.entered.cell.0 x.entered.action.0 w → (left : ℕ) → left ≡ k - 1
          → InLines z start r left (slot_after x) (with_line B x.slot.state x.slot.observation x.entered.cell.0 x.entered.action.0) v
      in_lines_more r x g v e left one =
          let a = z.actions in
          let o = z.observations in
          let b = g.bounded in
          let same = i.says.size in
          let inside : x.entered.cell.0 < B.size = omega (arith, b.entry.cell) in
          record {
            says = record {
              size = line_size B x.slot.state x.slot.observation x.entered.cell.0 x.entered.action.0 ∙ same;
              fitting = fitting_line B x.slot.state x.slot.observation x.entered.cell.0 x.entered.action.0 a o i.says.fitting inside b.entry.output;
              words =
                  e ∙ ap (stored o x.slot.state x.slot.observation x.entered.cell.0 x.entered.action.0) i.says.words
                  ∙ stored_line B a o x.slot.state x.slot.observation x.entered.cell.0 x.entered.action.0 (omega (arith, b.slot.state)) b.slot.observation inside;
            };
            state = b.slot.state;
            observation = omega (arith, b.slot.observation);
            goes =
                one_line ∙ g.goes B i.says following
                ∙ ap (λ (n : ℕ). runs (lines a o n (with_line B x.slot.state x.slot.observation x.entered.cell.0 x.entered.action.0) x.slot.state (x.slot.observation + 1)) r) (sym one);
          }
