-- A choice by the next byte: the texts of `or_else`, and how it is read.
-- Assumes nothing.
use mathlib.Core.Path.{◌≡◌, refl, ap, ◌∙◌}
use mathlib.Core.Logic.{◌⊎◌, inl, inr, ⊎_elim}
use mathlib.Core.Bool.{false}
use mathlib.Core.List.{List, [], ◌∷◌}
use Prim.Native.Nat.{ℕ, zero, suc, ◌+◌, ◌<◌}
use native.Mathlib.Numerals.{add-one}
use native.Mathlib.Omega.{arith}
use lib.Dec.{eqb}
use borrow.Author.Tests.{eq-eqb, ne_eqb, eqb-true}
use Rattle.sets.proofs.Logic.{decided, clash, or_cases, or_left, or_right}
use Rattle.form.specs.Form.{Form, stop, byte, Has, Live, reads, word, or_else, numeral}
use Rattle.form.proofs.Steps.{no_digit}

-- the format waits for a byte, and b is none that it allows
unfoldable pub Unlike : ℕ → Form → Type 0
Unlike b (stop vs) = ⊥
Unlike b (byte ok next) = ok b ≡ false

pub number_unlike : (b base lo hi r v : ℕ) (next : ℕ → Form) → 0 < r → b < 48 → Unlike b (numeral base lo hi r v next)
unfolding Unlike numeral
number_unlike b base lo hi zero v next l k = absurd (omega arith)
number_unlike b base lo hi (suc r) v next l k = no_digit base lo hi _ v b k

pub word_unlike : (b x : ℕ) (w : List ℕ) (F : Form) → (b ≡ x → ⊥) → Unlike b (word (x ∷ w) F)
unfolding Unlike word
word_unlike b x w F n = ne_eqb b x n

module _ (b : ℕ) (F : Form) where
  -- the texts of either
  pub first_in : (G : Form) (w us : List ℕ) → Unlike b G → Has F w us → Has (or_else b F G) (b ∷ w) us
  unfolding or_else Has Unlike
  first_in (stop vs) w us u h = absurd u
  first_in (byte ok next) w us u h = (or_left (ok b) (eq-eqb b b refl), rw (eq-eqb b b refl) h)

  pub second_in : (G : Form) (w us : List ℕ) → Unlike b G → Has G w us → Has (or_else b F G) w us
  unfolding or_else Has Unlike
  second_in (stop vs) w us u h = absurd u
  second_in (byte ok next) [] us u h = absurd h
  second_in (byte ok next) (x ∷ w) us u h =
      let n : x ≡ b → ⊥ = λ e. clash h.0 (ap ok e ∙ u) in
      (or_right (eqb x b) h.0, rw (ne_eqb x b n) h.1)

  -- a text of one or the other
  pub record Behind (w us : List ℕ) : Type 0 where
    pub rest : List ℕ
    pub text : w ≡ b ∷ rest
    pub has : Has F rest us

  pub either_out : (G : Form) (w us : List ℕ) → Unlike b G → Has (or_else b F G) w us → Behind w us ⊎ Has G w us
  unfolding or_else Has Unlike
  either_out (stop vs) w us u h = absurd u
  either_out (byte ok next) [] us u h = absurd h
  either_out (byte ok next) (x ∷ w) us u h =
      ⊎_elim
      (λ e. inl (record { rest = w; text = ap (λ (y : ℕ). y ∷ w) (eqb-true x b e); has = rw (e) at h.1 }))
      (λ e. inr (⊎_elim (λ t. clash t e) (λ t. t) (or_cases (eqb x b) (ok x) h.0), rw (e) at h.1))
      (decided (eqb x b))

  pub either_live : (G : Form) → Unlike b G → Live F → Live G → Live (or_else b F G)
  unfolding or_else Live Unlike
  either_live (stop vs) u f g = absurd u
  either_live (byte ok next) u f g = (
    (b, or_left (ok b) (eq-eqb b b refl)),
    λ x h.
        ⊎_elim (λ e. rw (e) f)
        (λ e. rw (e) (g.1 x (⊎_elim (λ t. clash t e) (λ t. t) (or_cases (eqb x b) (ok x) h))))
        (decided (eqb x b)),
  )

  -- how it is read: one byte on, or as the other
  pub reads_first : (G : Form) (s : ℕ → ℕ) (p : ℕ) → Unlike b G → s p ≡ b → reads (or_else b F G) s p ≡ reads F s (p + 1)
  unfolding or_else reads Unlike
  reads_first (stop vs) s p u e = absurd u
  reads_first (byte ok next) s p u e = rw (reads, or_else, eq-eqb (s p) b e, add-one)

  pub reads_second : (G : Form) (s : ℕ → ℕ) (p : ℕ) → Unlike b G → (s p ≡ b → ⊥) → reads (or_else b F G) s p ≡ reads G s p
  unfolding or_else reads Unlike
  reads_second (stop vs) s p u n = absurd u
  reads_second (byte ok next) s p u n = rw (reads, or_else, ne_eqb (s p) b n)
