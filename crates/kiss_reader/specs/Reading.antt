-- What the parts of the reader promise: from one place to the next, whatever follows.
-- Assumes nothing.
use Rattle.std.specs.Prelude.{◌≡◌, Bool, cond, not, ◌&&◌, List, ℕ, ◌+◌, ◌*◌, ◌-◌, ◌≤◌, ◌<◌, eqb, ltb, Result, IfOk}
use Rattle.games.specs.Format.{max_actions, max_observations, max_cells}
use Rattle.games.specs.Automaton.{Automaton}
use Rattle.games.specs.Fields.{low_field, action_field}
use Rattle.games.specs.Words.{card_words}
use Rattle.cards.specs.Card.{Fitting}
use Rattle.text.specs.Text.{bytes}
use Rattle.text.specs.declared.Wrong.{Wrong}
use Rattle.form.specs.Form.{Form, read, word, number}
use Rattle.form.specs.Cursors.{runs, behind}
use Rattle.form.specs.declared.Reader.{Reader}
use Rattle.form.specs.declared.Numeral.{Numeral}
use Rattle.form.specs.declared.Range.{Range}
use Rattle.kiss.specs.Text.{bits, newline}
use Rattle.kiss.specs.Profile.{blank, state_from, least_output, most_output, least_input, least_state, more, line, end, lines, head}
use Rattle.kiss_reader.specs.declared.Counts.{Counts}
use Rattle.kiss_reader.specs.declared.Head.{Head}
use Rattle.kiss_reader.specs.declared.sizes.Sizes.{Sizes}
use Rattle.kiss.specs.declared.Slot.{Slot}
use Rattle.cards.specs.declared.Entered.{Entered}
use Rattle.kiss_reader.specs.declared.Line.{Line}

-- ---- parts in general

-- from c to r a part is read; what it says is of a kind, and `on` gives what follows by it
pub record Parted {A K : Type 0} (part : K → Form) (on : K → A → Form) (kind : A → Type 0) (c r : Reader) (e : Result A Wrong) : Type 0 where
  pub same : r.text.now ≡ c.text.now
  pub bounded : IfOk e kind
  pub goes : (next : K) → runs (part next) c ≡ behind e (λ x. runs (on next x) r)

-- a part that says nothing
abbrev pub Passed : (c r : Reader) (part : Form → Form) (e : Result (Unit {0}) Wrong) → Type 0
Passed c r part e = Parted part (λ next _. next) (λ _. Unit {0}) c r e

-- a part that says a number
abbrev pub Told : (c r : Reader) (part : (ℕ → Form) → Form) (most : ℕ) (e : Result ℕ Wrong) → Type 0
Told c r part most e = Parted part (λ next v. next v) (λ v. v ≤ most) c r e

-- a fixed run of bytes, then a number
abbrev pub after : List ℕ → Numeral → (least most : ℕ) → (ℕ → Form) → Form
after w n lo hi next = word w (number n.base n.width lo hi next)

-- ---- the head, in three parts

unfoldable pub counts : (ℕ → ℕ → Form) → Form
counts next = word (bytes "# actions ") (number 10 2 1 max_actions (λ a. word (bytes " observations ") (number 10 2 1 max_observations (λ o. next a o))))

unfoldable pub widths : (input output : ℕ) → Form → Form
widths i u next = word (bytes "\n.i ") (number 10 1 i i (λ _. word (bytes "\n.o ") (number 10 1 u u (λ _. next))))

unfoldable pub states : (ℕ → Form) → Form
states next = word (bytes "\n.s ") (number 10 5 2 (max_cells + 1) (λ s. word (bytes "\n.r reset\n") (next s)))

-- the counts are within the limits
abbrev pub Few : Counts → Type 0
Few x = (x.actions ≤ max_actions) × (x.observations ≤ max_observations)

abbrev pub CountsRead : (c r : Reader) (e : Result Counts Wrong) → Type 0
CountsRead c r e = Parted counts (λ next x. next x.actions x.observations) Few c r e

-- the numbers of a head that was read are within the limits
pub record Limited (r : Head) : Type 0 where
  pub some_action : 1 ≤ r.counts.actions
  pub actions : r.counts.actions ≤ max_actions
  pub some_observation : 1 ≤ r.counts.observations
  pub observations : r.counts.observations ≤ max_observations
  pub some_state : 2 ≤ r.states
  pub states : r.states ≤ max_cells + 1

abbrev pub HeadRead : (c r : Reader) (e : Result Head Wrong) → Type 0
HeadRead c r e = Parted head (λ next x. next x.counts.actions x.counts.observations x.states) Limited c r e

-- ---- a line, in two parts

-- the state and the observation
unfoldable pub slot : (o m q from : ℕ) → (ℕ → ℕ → Form) → Form
slot o m q from next =
    number 2 (bits o) (least_input m q from) (o - 1) (λ j.
    word (bytes " ") (state_from m (least_state q from j) (λ s. next s j)))

-- the cell that is entered and its output
unfoldable pub entry : (a : ℕ) → Automaton → (ℕ → ℕ → Form) → Form
entry a B next =
    word (bytes " c") (number 10 5 0 (B.size - 1) (λ n.
    word (bytes " ") (number 2 (bits a) (least_output B n) (most_output B a n) (λ u.
    word newline (next n u)))))

-- the numbers of a line lie in the machine
pub record SlotIn (z : Sizes) (x : Slot) : Type 0 where
  pub state : x.state ≤ z.cells
  pub observation : x.observation < z.observations

pub record EntryIn (z : Sizes) (x : Entered) : Type 0 where
  pub cell : x.cell.0 < z.cells
  pub output : x.action.0 < z.actions

pub record Bounded (z : Sizes) (x : Line) : Type 0 where
  pub slot : SlotIn z x.slot
  pub entry : EntryIn z x.entered

-- the words are those of the card of a machine of these sizes
pub record Says (z : Sizes) (B : Automaton) (w : List ℕ) : Type 0 where
  pub size : B.size ≡ z.cells
  pub fitting : Fitting B z.actions z.observations
  pub words : w ≡ card_words B z.actions z.observations

pub record Held (z : Sizes) (w : List ℕ) : Type 0 where
  pub machine : Automaton
  pub says : Says z machine w

-- the outputs that a line entering a cell can have, by the cell's own word: where the cell is known, its set empty, only its action
abbrev pub outputs_by : (a own : ℕ) → Range
outputs_by a x = cond (eqb (low_field x) 0) (record { least = action_field x; most = action_field x }) (record { least = 0; most = a - 1 })

-- a line is read, from the lowest free slot on
pub record LineRead (c r : Reader) (z : Sizes) (free : Slot) (w : List ℕ) (e : Result Line Wrong) : Type 0 where
  pub same : r.text.now ≡ c.text.now
  pub bounded : IfOk e (Bounded z)
  pub goes : (B : Automaton) → Says z B w → (next : ℕ → ℕ → ℕ → ℕ → Form)
      → runs (line z.actions z.observations B free.state free.observation next) c
      ≡ behind e (λ x. runs (next x.slot.state x.slot.observation x.entered.cell.0 x.entered.action.0) r)

-- ---- the lines

-- a line comes: k lines more may, there is a slot for one, and the next byte is not the end's '.'
abbrev pub comes : (b m o q from k : ℕ) → Bool
comes b m o q from k = ltb 0 k && more m o q from && not (eqb b 46)

pub record EndRead (c : Reader) (e : Result (Unit {0}) Wrong) : Type 0 where
  pub goes : (a o : ℕ) (B : Automaton) → runs (end a o B) c ≡ behind e (λ _. read (card_words B a o))

-- all lines, from nothing said on
abbrev pub all_lines : Sizes → Form
all_lines z = lines z.actions z.observations ((z.cells + 1) * z.observations) (blank z.cells) 0 0

-- the lines so far are read, from start to c; k more may come, from the lowest free slot on
pub record InLines (z : Sizes) (start c : Reader) (k : ℕ) (free : Slot) (B : Automaton) (w : List ℕ) : Type 0 where
  pub says : Says z B w
  pub state : free.state ≤ z.cells
  pub observation : free.observation ≤ z.observations
  pub goes : runs (all_lines z) start ≡ runs (lines z.actions z.observations k B free.state free.observation) c

-- the lines and the end are read
pub record LinesRead (z : Sizes) (start : Reader) (w : List ℕ) (e : Result (Unit {0}) Wrong) : Type 0 where
  pub held : Held z w
  pub goes : runs (all_lines z) start ≡ behind e (λ _. read w)
