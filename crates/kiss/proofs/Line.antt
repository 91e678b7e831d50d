-- The texts of a line of the profile are those that `line_text` writes of what can come there.
-- Assumes nothing.
use mathlib.Core.Path.{◌≡◌, sym, ap, subst, ◌∙◌}
use mathlib.Core.Logic.{⊎_elim}
use mathlib.Core.Bool.{true}
use mathlib.Core.List.{List, [], ◌∷◌, ◌++◌, append_assoc}
use Prim.Native.Nat.{ℕ, zero, suc, ◌+◌, ◌-◌, ◌^◌, ◌≤◌, ◌<◌}
use native.Mathlib.Numerals.{add-one}
use native.Mathlib.Omega.{arith}
use lib.Dec.{ltb}
use borrow.Author.Tests.{ltb-true}
use Rattle.sets.proofs.Logic.{decided, clash, or_cases}
use Rattle.games.specs.Format.{max_actions, max_observations, max_cells}
use Rattle.games.specs.Automaton.{Automaton}
use Rattle.text.specs.Text.{bytes}
use Rattle.form.specs.Form.{Form, Has, Live, word, number, digits}
use Rattle.form.proofs.Texts.{word_in, word_out, word_live, number_in, number_out, numeral_live}
use Rattle.form.proofs.Choices.{Unlike, number_unlike, word_unlike, first_in, second_in, either_out, either_live}
use Rattle.kiss.specs.Text.{bits, cell_name, state_name, newline, line_text}
use Rattle.kiss.specs.Profile.{known, state_from, least_output, most_output, least_input, least_state, more, line}
use Rattle.kiss.proofs.Widths.{bits_enough, bits_some}

-- what is around a line: the sizes, and where the lines stand
pub record Around (a o : ℕ) (B : Automaton) (q from : ℕ) : Type 0 where
  pub some_action : 1 ≤ a
  pub actions : a ≤ max_actions
  pub some_observation : 1 ≤ o
  pub observations : o ≤ max_observations
  pub some_cell : 1 ≤ B.size
  pub cells : B.size ≤ max_cells
  pub state_in : q ≤ B.size
  pub from_in : from ≤ o
  pub goes_on : more B.size o q from ≡ true
  pub action_below : (c : ℕ) → c < B.size → B.action c < a

-- the line can come there
pub record Fits (a o : ℕ) (B : Automaton) (q from s j n u : ℕ) : Type 0 where
  pub input_below : j < o
  pub input_from : least_input B.size q from ≤ j
  pub state_from_lem : least_state q from j ≤ s
  pub state_below : s ≤ B.size
  pub cell_below : n < B.size
  pub output_from : least_output B n ≤ u
  pub output_to : u ≤ most_output B a n

-- ---- the name of a cell from number `least` up, of m
module _ (m least : ℕ) (next : ℕ → Form) (few : m ≤ max_cells) (room : least < m) where
  cell_in : (c : ℕ) (w us : List ℕ) → least ≤ c → c < m → Has (next c) w us → Has (word (bytes "c") (number 10 5 least (m - 1) next)) (cell_name c ++ w) us
  unfolding cell_name
  cell_in c w us l k h =
      word_in (bytes "c") _ (digits 10 5 c ++ w) us
      (number_in 10 least (m - 1) 5 c next w us (omega arith) l (omega arith) h)

  record CellIs (w us : List ℕ) : Type 0 where
    pub cell : ℕ
    pub rest : List ℕ
    pub text : w ≡ cell_name cell ++ rest
    pub from : least ≤ cell
    pub below : cell < m
    pub has : Has (next cell) rest us

  cell_out : (w us : List ℕ) → Has (word (bytes "c") (number 10 5 least (m - 1) next)) w us → CellIs w us
  unfolding cell_name
  cell_out w us h =
      let a = word_out (bytes "c") _ w us h in
      let b = number_out 10 least (m - 1) 5 next a.rest us (omega arith) a.has in
      record { cell = b.value; rest = b.rest; text = a.text ∙ ap (λ (r : List ℕ). bytes "c" ++ r) b.text; from = b.from; below = omega (arith, b.to); has = b.has }

  cell_live : ((c : ℕ) → least ≤ c → c < m → Live (next c)) → Live (word (bytes "c") (number 10 5 least (m - 1) next))
  cell_live f =
      word_live (bytes "c") _
      (numeral_live 10 least (m - 1) 5 0 next (omega arith) (omega arith) (omega arith) (omega arith) (λ c l k. f c l (omega arith)))

-- ---- the name of a state from number `least` up, of m cells
shifted : (next : ℕ → Form) (c : ℕ) (w us : List ℕ) → Has (next (suc c)) w us → Has (next (c + 1)) w us
shifted next c w us h = subst (λ (n : ℕ). Has (next n) w us) (sym (add-one c)) h

shifted_back : (next : ℕ → Form) (c : ℕ) (w us : List ℕ) → Has (next (c + 1)) w us → Has (next (suc c)) w us
shifted_back next c w us h = subst (λ (n : ℕ). Has (next n) w us) (add-one c) h

no_reset : (F : Form) → Unlike 114 (word (bytes "c") F)
no_reset F = word_unlike 114 99 [] F (λ e. omega arith)

module _ (m : ℕ) (next : ℕ → Form) (some : 1 ≤ m) (few : m ≤ max_cells) where
  state_in : (least s : ℕ) (w us : List ℕ) → least ≤ s → s ≤ m → Has (next s) w us → Has (state_from m least next) (state_name s ++ w) us
  unfolding state_from state_name
  state_in zero zero w us l k h = first_in 114 (word (bytes "eset") (next 0)) _ (bytes "eset" ++ w) us (no_reset _) (word_in (bytes "eset") (next 0) w us h)
  state_in zero (suc c) w us l k h =
      second_in 114 (word (bytes "eset") (next 0)) _ (cell_name c ++ w) us (no_reset _)
      (cell_in m 0 (λ d. next (d + 1)) few some c w us (omega arith) k (shifted next c w us h))
  state_in (suc d) zero w us l k h = absurd (omega arith)
  state_in (suc d) (suc c) w us l k h = cell_in m d (λ e. next (e + 1)) few (omega arith) c w us (omega arith) k (shifted next c w us h)

  record StateIs (least : ℕ) (w us : List ℕ) : Type 0 where
    pub state : ℕ
    pub rest : List ℕ
    pub text : w ≡ state_name state ++ rest
    pub from : least ≤ state
    pub below : state ≤ m
    pub has : Has (next state) rest us

  of_cell : (least d : ℕ) (w us : List ℕ) → least ≤ suc d → (l : d < m) → CellIs m d (λ c. next (c + 1)) few l w us → StateIs least w us
  unfolding state_name
  of_cell least d w us g l r =
      record { state = suc r.cell; rest = r.rest; text = r.text; from = omega (arith, r.from); below = r.below; has = shifted_back next r.cell r.rest us r.has }

  state_out : (least : ℕ) (w us : List ℕ) → least ≤ m → Has (state_from m least next) w us → StateIs least w us
  unfolding state_from state_name
  state_out zero w us l h =
      ⊎_elim
      (λ e. let r = word_out (bytes "eset") (next 0) e.rest us e.has in
      record { state = 0; rest = r.rest; text = e.text ∙ ap (λ (t : List ℕ). 114 ∷ t) r.text; from = omega arith; below = omega arith; has = r.has })
      (λ e. of_cell 0 0 w us (omega arith) some (cell_out m 0 (λ c. next (c + 1)) few some w us e))
      (either_out 114 (word (bytes "eset") (next 0)) (word (bytes "c") (number 10 5 0 (m - 1) (λ c. next (c + 1)))) w us (no_reset _) h)
  state_out (suc d) w us l h = of_cell (suc d) d w us (omega arith) l (cell_out m d (λ c. next (c + 1)) few l w us h)

  state_live : (least : ℕ) → least ≤ m → ((s : ℕ) → least ≤ s → s ≤ m → Live (next s)) → Live (state_from m least next)
  unfolding state_from
  state_live zero l f =
      either_live 114 (word (bytes "eset") (next 0)) _ (no_reset _) (word_live (bytes "eset") (next 0) (f 0 (omega arith) (omega arith)))
      (cell_live m 0 (λ c. next (c + 1)) few some (λ c a b. f (c + 1) (omega arith) (omega arith)))
  state_live (suc d) l f = cell_live m d (λ c. next (c + 1)) few l (λ c a b. f (c + 1) (omega arith) (omega arith))

-- ---- texts put together and taken apart from the front
parts : (w a b c d e r₁ r₂ r₃ r₄ r₅ : List ℕ) → w ≡ a ++ r₁ → r₁ ≡ b ++ r₂ → r₂ ≡ c ++ r₃ → r₃ ≡ d ++ r₄ → r₄ ≡ e ++ r₅
    → w ≡ a ++ (b ++ (c ++ (d ++ (e ++ r₅))))
parts w a b c d e r₁ r₂ r₃ r₄ r₅ h₁ h₂ h₃ h₄ h₅ = rw (h₁, h₂, h₃, h₄, h₅)

front : (w a b c r r₁ r₂ r₃ : List ℕ) → w ≡ a ++ r₁ → r₁ ≡ b ++ r₂ → r₂ ≡ c ++ r₃ → r₃ ≡ r → w ≡ a ++ (b ++ (c ++ r))
front w a b c r r₁ r₂ r₃ h₁ h₂ h₃ h₄ = rw (h₁, h₂, h₃, h₄)

eight : (a b c d e f g h w : List ℕ) → a ++ (b ++ (c ++ (d ++ (e ++ (f ++ (g ++ (h ++ w))))))) ≡ a ++ b ++ c ++ d ++ e ++ f ++ g ++ h ++ w
eight a b c d e f g h w = simp append_assoc

-- ---- a line

-- the text of a line, with what was read of it
pub record LineIs (a o : ℕ) (B : Automaton) (q from : ℕ) (next : ℕ → ℕ → ℕ → ℕ → Form) (w us : List ℕ) : Type 0 where
  pub state : ℕ
  pub observation : ℕ
  pub cell : ℕ
  pub output : ℕ
  pub rest : List ℕ
  pub text : w ≡ line_text a o state observation cell output ++ rest
  pub fits : Fits a o B q from state observation cell output
  pub has : Has (next state observation cell output) rest us

pub line_unlike : (a o : ℕ) (B : Automaton) (q from : ℕ) (next : ℕ → ℕ → ℕ → ℕ → Form) → Unlike 46 (line a o B q from next)
unfolding line
line_unlike a o B q from next = number_unlike 46 2 (least_input B.size q from) (o - 1) (bits o) 0 _ (bits_some o) (omega arith)

-- the least of each number is not above the most, over plain variables
input_room : (m o q from : ℕ) → 1 ≤ o → more m o q from ≡ true → least_input m q from < o
input_room m o q from l g =
    ⊎_elim (λ e. rw (e) l) (λ e. rw (e) (⊎_elim (λ f. clash f e) (λ f. ltb-true from o f) (or_cases (ltb q m) (ltb from o) g)))
    (decided (ltb q m))

-- a state of which no observation is left is not the last
state_room : (m q from j : ℕ) → q ≤ m → least_input m q from ≤ j → least_state q from j ≤ m
state_room m q from j l g =
    ⊎_elim
    (λ e. rw (e) (⊎_elim
    (λ f. let k = ltb-true q m f in omega arith)
    (λ f. let h : from ≤ j = rw (f) at g in absurd (omega (arith, ltb-true j from e)))
    (decided (ltb q m))))
    (λ e. rw (e) l)
    (decided (ltb j from))

module _ (a o : ℕ) (B : Automaton) (q from : ℕ) (around : Around a o B q from) where
  output_room : (n : ℕ) → n < B.size → (least_output B n ≤ most_output B a n) × (most_output B a n < a)
  output_room n l =
      ⊎_elim (λ e. rw (e) (omega arith, around.action_below n l)) (λ e. rw (e) (omega arith, omega (arith, around.some_action)))
      (decided (known B n))

  input_width : o ≤ 2 ^ bits o
  input_width = bits_enough o around.observations

  output_width : a ≤ 2 ^ bits a
  output_width = bits_enough a around.actions

  pub output_below : (s j n u : ℕ) → Fits a o B q from s j n u → u < a
  output_below s j n u f = omega (arith, f.output_to, (output_room n f.cell_below).1)

  -- the least input, the least state for an input, the least output for a cell
  least_input_lem : least_input B.size q from < o
  least_input_lem = input_room B.size o q from around.some_observation around.goes_on

  least_state_lem : (j : ℕ) → least_input B.size q from ≤ j → least_state q from j ≤ B.size
  least_state_lem j = state_room B.size q from j around.state_in

  module _ (next : ℕ → ℕ → ℕ → ℕ → Form) where
    -- the line behind its input and state, behind its input
    enters : (s j : ℕ) → Form
    enters s j =
        word (bytes " c") (number 10 5 0 (B.size - 1) (λ n.
        word (bytes " ") (number 2 (bits a) (least_output B n) (most_output B a n) (λ u.
        word newline (next s j n u)))))

    enters_in : (s j n u : ℕ) (w us : List ℕ) → Fits a o B q from s j n u → Has (next s j n u) w us
        → Has (enters s j) (bytes " " ++ (cell_name n ++ (bytes " " ++ (digits 2 (bits a) u ++ (newline ++ w))))) us
    unfolding enters word
    enters_in s j n u w us f h =
        word_in (bytes " ") _ _ us (cell_in B.size 0 _ around.cells around.some_cell n _ us (omega arith) f.cell_below
        (word_in (bytes " ") _ _ us (number_in 2 (least_output B n) (most_output B a n) (bits a) u _ _ us (omega (arith, output_below s j n u f, output_width)) f.output_from f.output_to
        (word_in newline (next s j n u) w us h))))

    record EntersIs (s j : ℕ) (w us : List ℕ) : Type 0 where
      pub cell : ℕ
      pub output : ℕ
      pub rest : List ℕ
      pub text : w ≡ bytes " " ++ (cell_name cell ++ (bytes " " ++ (digits 2 (bits a) output ++ (newline ++ rest))))
      pub cell_below : cell < B.size
      pub output_from : least_output B cell ≤ output
      pub output_to : output ≤ most_output B a cell
      pub has : Has (next s j cell output) rest us

    enters_out : (s j : ℕ) (w us : List ℕ) → Has (enters s j) w us → EntersIs s j w us
    unfolding enters word
    enters_out s j w us h =
        let b = word_out (bytes " ") _ w us h in
        let c = cell_out B.size 0 _ around.cells around.some_cell b.rest us b.has in
        let d = word_out (bytes " ") _ c.rest us c.has in
        let r = output_room c.cell c.below in
        let e = number_out 2 (least_output B c.cell) (most_output B a c.cell) (bits a) _ d.rest us (omega (arith, r.0, r.1, output_width)) d.has in
        let f = word_out newline _ e.rest us e.has in
        record {
          cell = c.cell;
          output = e.value;
          rest = f.rest;
          text = parts w (bytes " ") (cell_name c.cell) (bytes " ") (digits 2 (bits a) e.value) newline b.rest c.rest d.rest e.rest f.rest b.text c.text d.text e.text f.text;
          cell_below = c.below;
          output_from = e.from;
          output_to = e.to;
          has = f.has;
        }

    enters_live : (s j : ℕ) → ((n u : ℕ) → n < B.size → least_output B n ≤ u → u ≤ most_output B a n → Live (next s j n u)) → Live (enters s j)
    unfolding enters word
    enters_live s j f =
        word_live (bytes " ") _ (cell_live B.size 0 _ around.cells around.some_cell (λ n l k.
        let r = output_room n k in
        word_live (bytes " ") _ (numeral_live 2 (least_output B n) (most_output B a n) (bits a) 0 _ (omega arith) r.0 (omega arith) (omega (arith, r.0, r.1, output_width)) (λ u g t.
        word_live newline _ (f n u k g t)))))

  pub line_in : (s j n u : ℕ) (next : ℕ → ℕ → ℕ → ℕ → Form) (w us : List ℕ) → Fits a o B q from s j n u → Has (next s j n u) w us
      → Has (line a o B q from next) (line_text a o s j n u ++ w) us
  unfolding line line_text enters
  line_in s j n u next w us f h =
      subst (λ (t : List ℕ). Has (line a o B q from next) t us)
      (eight (digits 2 (bits o) j) (bytes " ") (state_name s) (bytes " ") (cell_name n) (bytes " ") (digits 2 (bits a) u) newline w)
      (number_in 2 (least_input B.size q from) (o - 1) (bits o) j _ _ us (omega (arith, f.input_below, input_width)) f.input_from (omega (arith, f.input_below))
      (word_in (bytes " ") _ _ us (state_in B.size (λ t. enters next t j) around.some_cell around.cells (least_state q from j) s _ us f.state_from_lem f.state_below
      (enters_in next s j n u w us f h))))

  pub line_out : (next : ℕ → ℕ → ℕ → ℕ → Form) (w us : List ℕ) → Has (line a o B q from next) w us → LineIs a o B q from next w us
  unfolding line line_text enters
  line_out next w us h =
      let b = number_out 2 (least_input B.size q from) (o - 1) (bits o) _ w us (omega (arith, least_input_lem, input_width)) h in
      let c = word_out (bytes " ") _ b.rest us b.has in
      let d = state_out B.size (λ s. enters next s b.value) around.some_cell around.cells (least_state q from b.value) c.rest us (least_state_lem b.value b.from) c.has in
      let e = enters_out next d.state b.value d.rest us d.has in
      record {
        state = d.state;
        observation = b.value;
        cell = e.cell;
        output = e.output;
        rest = e.rest;
        text =
            front w (digits 2 (bits o) b.value) (bytes " ") (state_name d.state) _ b.rest c.rest d.rest b.text c.text d.text e.text
            ∙ eight (digits 2 (bits o) b.value) (bytes " ") (state_name d.state) (bytes " ") (cell_name e.cell) (bytes " ") (digits 2 (bits a) e.output) newline e.rest;
        fits = record { input_below = omega (arith, b.to, around.some_observation); input_from = b.from; state_from_lem = d.from; state_below = d.below; cell_below = e.cell_below; output_from = e.output_from; output_to = e.output_to };
        has = e.has;
      }

  pub line_live : (next : ℕ → ℕ → ℕ → ℕ → Form) → ((s j n u : ℕ) → Fits a o B q from s j n u → Live (next s j n u)) → Live (line a o B q from next)
  unfolding line enters
  line_live next f =
      numeral_live 2 (least_input B.size q from) (o - 1) (bits o) 0 _ (omega arith) (omega (arith, least_input_lem)) (omega arith) (omega (arith, least_input_lem, input_width)) (λ j g t.
      word_live (bytes " ") _ (state_live B.size (λ s. enters next s j) around.some_cell around.cells (least_state q from j) (least_state_lem j g) (λ s k l.
      enters_live next s j (λ n u below low high.
      f s j n u (record { input_below = omega (arith, t, around.some_observation); input_from = g; state_from_lem = k; state_below = l; cell_below = below; output_from = low; output_to = high })))))
