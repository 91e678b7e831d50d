-- The texts that are read, as a format (docs/KISS2.md): what may come at each byte, by the bytes before it; and what a text reads as.
-- Assumes nothing.
use Rattle.std.specs.Prelude.{Bool, cond, ◌&&◌, ◌||◌, List, ℕ, zero, suc, ◌+◌, ◌*◌, ◌-◌, eqb, ltb}
use Rattle.games.specs.Format.{max_actions, max_observations, max_cells}
use Rattle.games.specs.Automaton.{Automaton, no_cell}
use Rattle.games.specs.Words.{card_words}
use Rattle.text.specs.Text.{bytes}
use Rattle.form.specs.Form.{Form, Outcome, reads, byte_at, word, finished, or_else, number}
use Rattle.kiss.specs.Text.{bits, newline}

-- what the lines so far say of a machine. A cell that no line has entered has a set that is not empty, so that it can be told
unfoldable pub blank : (cells : ℕ) → Automaton
blank m = record { size = m; set = λ _. 1; action = λ _. 0; begins = λ _. no_cell; next = λ _ _. no_cell }

abbrev pub known : Automaton → (cell : ℕ) → Bool
known B c = eqb (B.set c) 0

-- with one line more: on observation j state q goes to cell n, whose action is u
unfoldable pub with_line : Automaton → (q j n u : ℕ) → Automaton
with_line B q j n u =
    record {
      size = B.size;
      set = λ c. cond (eqb c n) 0 (B.set c);
      action = λ c. cond (eqb c n) u (B.action c);
      begins = λ i. cond (eqb q 0 && eqb i j) n (B.begins i);
      next = λ c i. cond (eqb q (suc c) && eqb i j) n (B.next c i);
    }

-- the name of a state from number `least` up, of m cells: the reset state is number 0
unfoldable pub state_from : (m least : ℕ) → (ℕ → Form) → Form
state_from m zero next = or_else 114 (word (bytes "eset") (next 0)) (word (bytes "c") (number 10 5 0 (m - 1) (λ c. next (c + 1))))
state_from m (suc c) next = word (bytes "c") (number 10 5 c (m - 1) (λ d. next (d + 1)))

-- the least and the most that the output of a line entering cell n can be: that of the lines before it
abbrev pub least_output : Automaton → (n : ℕ) → ℕ
least_output B n = cond (known B n) (B.action n) 0

abbrev pub most_output : Automaton → (a n : ℕ) → ℕ
most_output B a n = cond (known B n) (B.action n) (a - 1)

-- lines go on in order: the next one is of state q for an observation from `from` up, or of a later state. In the last state there is no
-- observation below `from`
abbrev pub least_input : (m q from : ℕ) → ℕ
least_input m q from = cond (ltb q m) 0 from

abbrev pub least_state : (q from j : ℕ) → ℕ
least_state q from j = cond (ltb j from) (q + 1) q

-- there is one that can come
abbrev pub more : (m o q from : ℕ) → Bool
more m o q from = ltb q m || ltb from o

-- a line, and what follows by its state, observation, cell entered and output
unfoldable pub line : (a o : ℕ) → Automaton → (q from : ℕ) → (ℕ → ℕ → ℕ → ℕ → Form) → Form
line a o B q from next =
    number 2 (bits o) (least_input B.size q from) (o - 1) (λ j.
    word (bytes " ") (state_from B.size (least_state q from j) (λ s.
    word (bytes " c") (number 10 5 0 (B.size - 1) (λ n.
    word (bytes " ") (number 2 (bits a) (least_output B n) (most_output B a n) (λ u.
    word newline (next s j n u))))))))

-- the end, behind its first byte and with it; what was read is the card of the machine
unfoldable pub end_rest : (a o : ℕ) → Automaton → Form
end_rest a o B = word (bytes "e\n") (finished (card_words B a o))

unfoldable pub end : (a o : ℕ) → Automaton → Form
end a o B = word (bytes ".") (end_rest a o B)

-- the lines that are left, k at most, and the end
unfoldable pub lines : (a o k : ℕ) → Automaton → (q from : ℕ) → Form
lines a o zero B q from = end a o B
lines a o (suc k) B q from =
    cond (more B.size o q from)
    (or_else 46 (end_rest a o B) (line a o B q from (λ s j n u. lines a o k (with_line B s j n u) s (j + 1))))
    (end a o B)

-- the head, and what follows by actions, observations and states (one more than cells)
unfoldable pub head : (ℕ → ℕ → ℕ → Form) → Form
head next =
    word (bytes "# actions ") (number 10 2 1 max_actions (λ a.
    word (bytes " observations ") (number 10 2 1 max_observations (λ o.
    word (bytes "\n.i ") (number 10 1 (bits o) (bits o) (λ _.
    word (bytes "\n.o ") (number 10 1 (bits a) (bits a) (λ _.
    word (bytes "\n.s ") (number 10 5 2 (max_cells + 1) (λ s.
    word (bytes "\n.r reset\n") (next a o s)))))))))))

unfoldable pub profile : Form
profile = head (λ a o s. lines a o (s * o) (blank (s - 1)) 0 0)

-- what a text reads as: a card's words, or the place where it departs from the profile
unfoldable pub reading : List ℕ → Outcome
reading t = reads profile (byte_at t) 0
