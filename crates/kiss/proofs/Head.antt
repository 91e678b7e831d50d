-- The texts of the profile's head are those that `head_text` writes of sizes within the limits.
-- Assumes nothing.
use mathlib.Core.Path.{◌≡◌, ap, subst, ◌∙◌}
use mathlib.Core.List.{List, [], ◌++◌, append_assoc}
use Prim.Native.Nat.{ℕ, suc, ◌+◌, ◌-◌, ◌≤◌, ◌<◌}
use native.Mathlib.Omega.{arith}
use Rattle.games.specs.Format.{max_actions, max_observations, max_cells}
use Rattle.text.specs.Text.{bytes}
use Rattle.form.specs.Form.{Form, Has, Live, word, number, digits}
use Rattle.form.proofs.Texts.{word_in, word_out, word_live, number_in, number_out, numeral_live}
use Rattle.kiss.specs.Text.{bits, head_text}
use Rattle.kiss.specs.Profile.{head}
use Rattle.kiss.proofs.Widths.{bits_few}

-- ---- texts put together and taken apart from the front
module _ (a b c d e f g : List ℕ) where
  four : (w r₁ r₂ r₃ r₄ : List ℕ) → w ≡ a ++ r₁ → r₁ ≡ b ++ r₂ → r₂ ≡ c ++ r₃ → r₃ ≡ d ++ r₄ → w ≡ a ++ (b ++ (c ++ (d ++ r₄)))
  four w r₁ r₂ r₃ r₄ h₁ h₂ h₃ h₄ = rw (h₁, h₂, h₃, h₄)

  seven : (w r₁ r₂ r₃ r₄ r₅ r₆ r₇ : List ℕ) → w ≡ a ++ r₁ → r₁ ≡ b ++ r₂ → r₂ ≡ c ++ r₃ → r₃ ≡ d ++ r₄ → r₄ ≡ e ++ r₅ → r₅ ≡ f ++ r₆ → r₆ ≡ g ++ r₇
      → w ≡ a ++ (b ++ (c ++ (d ++ (e ++ (f ++ (g ++ r₇))))))
  seven w r₁ r₂ r₃ r₄ r₅ r₆ r₇ h₁ h₂ h₃ h₄ h₅ h₆ h₇ = rw (h₁, h₂, h₃, h₄, h₅, h₆, h₇)

  eleven : (h i j k w : List ℕ) → h ++ (i ++ (j ++ (k ++ (a ++ (b ++ (c ++ (d ++ (e ++ (f ++ (g ++ w)))))))))) ≡ h ++ i ++ j ++ k ++ a ++ b ++ c ++ d ++ e ++ f ++ g ++ w
  eleven h i j k w = simp append_assoc

-- ---- behind actions and observations: the bits, the states, the reset state
module _ (a o : ℕ) (la : a ≤ max_actions) (lo : o ≤ max_observations) (next : ℕ → Form) where
  sizes : Form
  sizes =
      word (bytes "\n.i ") (number 10 1 (bits o) (bits o) (λ _.
      word (bytes "\n.o ") (number 10 1 (bits a) (bits a) (λ _.
      word (bytes "\n.s ") (number 10 5 2 (max_cells + 1) (λ s.
      word (bytes "\n.r reset\n") (next s)))))))

  -- the same as a text, the number of cells one less, and w behind it
  sizes_text : (m : ℕ) → List ℕ → List ℕ
  sizes_text m w =
      bytes "\n.i " ++ (digits 10 1 (bits o) ++ (bytes "\n.o " ++ (digits 10 1 (bits a)
      ++ (bytes "\n.s " ++ (digits 10 5 (suc m) ++ (bytes "\n.r reset\n" ++ w))))))

  few_o : bits o < 10
  few_o = omega (arith, bits_few o lo)

  few_a : bits a < 10
  few_a = omega (arith, bits_few a la)

  sizes_in : (m : ℕ) (w us : List ℕ) → 1 ≤ m → m ≤ max_cells → Has (next (suc m)) w us → Has sizes (sizes_text m w) us
  unfolding sizes sizes_text
  sizes_in m w us l k h =
      word_in (bytes "\n.i ") _ _ us (number_in 10 (bits o) (bits o) 1 (bits o) _ _ us few_o (omega arith) (omega arith)
      (word_in (bytes "\n.o ") _ _ us (number_in 10 (bits a) (bits a) 1 (bits a) _ _ us few_a (omega arith) (omega arith)
      (word_in (bytes "\n.s ") _ _ us (number_in 10 2 (max_cells + 1) 5 (suc m) _ _ us (omega arith) (omega arith) (omega arith)
      (word_in (bytes "\n.r reset\n") (next (suc m)) w us h))))))

  record SizesAre (w us : List ℕ) : Type 0 where
    pub cells : ℕ
    pub rest : List ℕ
    pub some_cell : 1 ≤ cells
    pub few_cells : cells ≤ max_cells
    pub text : w ≡ sizes_text cells rest
    pub has : Has (next (suc cells)) rest us

  sizes_out : (w us : List ℕ) → Has sizes w us → SizesAre w us
  unfolding sizes sizes_text
  sizes_out w us h =
      let b = word_out (bytes "\n.i ") _ w us h in
      let c = number_out 10 (bits o) (bits o) 1 _ b.rest us few_o b.has in
      let d = word_out (bytes "\n.o ") _ c.rest us c.has in
      let e = number_out 10 (bits a) (bits a) 1 _ d.rest us few_a d.has in
      let f = word_out (bytes "\n.s ") _ e.rest us e.has in
      let g = number_out 10 2 (max_cells + 1) 5 _ f.rest us (omega arith) f.has in
      let i = word_out (bytes "\n.r reset\n") _ g.rest us g.has in
      let eo : c.value ≡ bits o = omega (arith, c.from, c.to) in
      let ea : e.value ≡ bits a = omega (arith, e.from, e.to) in
      let es : g.value ≡ suc (g.value - 1) = omega (arith, g.from) in
      record {
        cells = g.value - 1;
        rest = i.rest;
        some_cell = omega (arith, g.from);
        few_cells = omega (arith, g.to);
        text =
            seven (bytes "\n.i ") (digits 10 1 (bits o)) (bytes "\n.o ") (digits 10 1 (bits a)) (bytes "\n.s ") (digits 10 5 (suc (g.value - 1))) (bytes "\n.r reset\n")
            w b.rest c.rest d.rest e.rest f.rest g.rest i.rest
            b.text (c.text ∙ ap (λ (n : ℕ). digits 10 1 n ++ c.rest) eo) d.text (e.text ∙ ap (λ (n : ℕ). digits 10 1 n ++ e.rest) ea)
            f.text (g.text ∙ ap (λ (n : ℕ). digits 10 5 n ++ g.rest) es) i.text;
        has = subst (λ (n : ℕ). Has (next n) i.rest us) es i.has;
      }

  sizes_live : ((m : ℕ) → 1 ≤ m → m ≤ max_cells → Live (next (suc m))) → Live sizes
  unfolding sizes
  sizes_live f =
      word_live (bytes "\n.i ") _ (numeral_live 10 (bits o) (bits o) 1 0 _ (omega arith) (omega arith) (omega arith) (omega (arith, few_o)) (λ i g t.
      word_live (bytes "\n.o ") _ (numeral_live 10 (bits a) (bits a) 1 0 _ (omega arith) (omega arith) (omega arith) (omega (arith, few_a)) (λ u g t.
      word_live (bytes "\n.s ") _ (numeral_live 10 2 (max_cells + 1) 5 0 _ (omega arith) (omega arith) (omega arith) (omega arith) (λ s g t.
      let es : suc (s - 1) ≡ s = omega arith in
      word_live (bytes "\n.r reset\n") (next s) (subst (λ (n : ℕ). Live (next n)) es (f (s - 1) (omega arith) (omega arith)))))))))

-- ---- the head

pub head_in : (a o m : ℕ) (next : ℕ → ℕ → ℕ → Form) (w us : List ℕ) → 1 ≤ a → a ≤ max_actions → 1 ≤ o → o ≤ max_observations → 1 ≤ m → m ≤ max_cells
    → Has (next a o (suc m)) w us → Has (head next) (head_text a o m ++ w) us
unfolding head head_text sizes sizes_text
head_in a o m next w us sa la so lo sm lm h =
    subst (λ (t : List ℕ). Has (head next) t us)
    (eleven (bytes "\n.i ") (digits 10 1 (bits o)) (bytes "\n.o ") (digits 10 1 (bits a)) (bytes "\n.s ") (digits 10 5 (suc m)) (bytes "\n.r reset\n")
    (bytes "# actions ") (digits 10 2 a) (bytes " observations ") (digits 10 2 o) w)
    (word_in (bytes "# actions ") _ _ us (number_in 10 1 max_actions 2 a _ _ us (omega arith) sa la
    (word_in (bytes " observations ") _ _ us (number_in 10 1 max_observations 2 o _ (sizes_text a o la lo (next a o) m w) us (omega arith) so lo
    (sizes_in a o la lo (next a o) m w us sm lm h)))))

pub record HeadIs (next : ℕ → ℕ → ℕ → Form) (w us : List ℕ) : Type 0 where
  pub actions : ℕ
  pub observations : ℕ
  pub cells : ℕ
  pub rest : List ℕ
  pub some_action : 1 ≤ actions
  pub few_actions : actions ≤ max_actions
  pub some_observation : 1 ≤ observations
  pub few_observations : observations ≤ max_observations
  pub some_cell : 1 ≤ cells
  pub few_cells : cells ≤ max_cells
  pub text : w ≡ head_text actions observations cells ++ rest
  pub has : Has (next actions observations (suc cells)) rest us

pub head_out : (next : ℕ → ℕ → ℕ → Form) (w us : List ℕ) → Has (head next) w us → HeadIs next w us
unfolding head head_text sizes sizes_text
head_out next w us h =
    let b = word_out (bytes "# actions ") _ w us h in
    let c = number_out 10 1 max_actions 2 _ b.rest us (omega arith) b.has in
    let d = word_out (bytes " observations ") _ c.rest us c.has in
    let e = number_out 10 1 max_observations 2 _ d.rest us (omega arith) d.has in
    let a = c.value in
    let o = e.value in
    let f = sizes_out a o c.to e.to (next a o) e.rest us e.has in
    record {
      actions = a;
      observations = o;
      cells = f.cells;
      rest = f.rest;
      some_action = c.from;
      few_actions = c.to;
      some_observation = e.from;
      few_observations = e.to;
      some_cell = f.some_cell;
      few_cells = f.few_cells;
      text =
          four (bytes "# actions ") (digits 10 2 a) (bytes " observations ") (digits 10 2 o) [] [] [] w b.rest c.rest d.rest _ b.text c.text d.text (e.text ∙ ap (λ (r : List ℕ). digits 10 2 o ++ r) f.text)
          ∙ eleven (bytes "\n.i ") (digits 10 1 (bits o)) (bytes "\n.o ") (digits 10 1 (bits a)) (bytes "\n.s ") (digits 10 5 (suc f.cells)) (bytes "\n.r reset\n")
          (bytes "# actions ") (digits 10 2 a) (bytes " observations ") (digits 10 2 o) f.rest;
      has = f.has;
    }

pub head_live : (next : ℕ → ℕ → ℕ → Form)
    → ((a o m : ℕ) → 1 ≤ a → a ≤ max_actions → 1 ≤ o → o ≤ max_observations → 1 ≤ m → m ≤ max_cells → Live (next a o (suc m)))
    → Live (head next)
unfolding head sizes
head_live next f =
    word_live (bytes "# actions ") _ (numeral_live 10 1 max_actions 2 0 _ (omega arith) (omega arith) (omega arith) (omega arith) (λ a sa la.
    word_live (bytes " observations ") _ (numeral_live 10 1 max_observations 2 0 _ (omega arith) (omega arith) (omega arith) (omega arith) (λ o so lo.
    sizes_live a o la lo (next a o) (λ m sm lm. f a o m sa la so lo sm lm)))))
