-- What the readers of a text promise: from one place to the next, whatever follows.
-- Assumes nothing.
use Rattle.std.specs.Prelude.{◌≡◌, List, ℕ, ◌≤◌, Result, Ok, Err, IfOk}
use Rattle.text.specs.declared.Wrong.{Wrong}
use Rattle.form.specs.Form.{Form, Outcome, read, departs, reads, byte_at, word, finished, number}
use Rattle.form.specs.declared.Reader.{Reader}
use Rattle.form.specs.declared.Numeral.{Numeral}
use Rattle.form.specs.declared.Range.{Range}

-- reading on from where a reader stands
unfoldable pub runs : Form → Reader → Outcome
runs F r = reads F (byte_at r.text.now) r.at

-- reading on by what was read; where that was refused, the text departs there
abbrev pub behind : {A : Type 0} → Result A Wrong → (A → Outcome) → Outcome
behind (Ok x) next = next x
behind (Err p) next = departs p.place

-- from c to r a fixed run of bytes is read
pub record Passes (c r : Reader) (w : List ℕ) (e : Result (Unit {0}) Wrong) : Type 0 where
  pub same : r.text.now ≡ c.text.now
  pub goes : (F : Form) → runs (word w F) c ≡ behind e (λ _. runs F r)

-- from c to r a number is read
pub record Gives (c r : Reader) (n : Numeral) (range : Range) (e : Result ℕ Wrong) : Type 0 where
  pub same : r.text.now ≡ c.text.now
  pub bounded : IfOk e (λ v. v ≤ range.most)
  pub goes : (next : ℕ → Form) → runs (number n.base n.width range.least range.most next) c ≡ behind e (λ v. runs (next v) r)

-- at c the text ends
pub record Ends (c : Reader) (e : Result (Unit {0}) Wrong) : Type 0 where
  pub goes : (vs : List ℕ) → runs (finished vs) c ≡ behind e (λ _. read vs)
