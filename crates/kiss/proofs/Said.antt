-- What the lines so far say of a machine: which slots are free, which cells are entered, and what a machine of more lines keeps.
-- Assumes nothing.
use mathlib.Core.Path.{◌≡◌, refl, sym, ap, ap₂, ◌∙◌}
use mathlib.Core.Logic.{◌⊎◌, inl, inr, ⊎_elim}
use mathlib.Core.Bool.{true, false}
use Prim.Native.Nat.{ℕ, zero, suc, ◌+◌, ◌*◌, ◌≤◌, ◌<◌}
use native.Mathlib.Omega.{arith}
use lib.Dec.{eqb}
use borrow.Author.Tests.{eq-eqb, eqb-true, eqb-false}
use Rattle.sets.specs.Bounded.{any}
use Rattle.sets.proofs.Logic.{decided, clash, same_truth, or_cases, or_left, or_right}
use Rattle.sets.proofs.Bounded.{any_found, any_intro}
use Rattle.games.specs.Format.{max_cells}
use Rattle.games.specs.Automaton.{Automaton, no_cell}
use Rattle.trimming.specs.Trim.{first_names, next_names}
use Rattle.kiss.specs.Text.{target}
use Rattle.kiss.specs.Profile.{blank, with_line}
use Rattle.kiss.specs.Legible.{named}
use Rattle.kiss.proofs.Slots.{same_slot}
use Rattle.kiss.proofs.Machines.{blank_size, blank_target, blank_set, blank_action, line_size, set_entered, set_other, action_entered, action_other, target_here, target_other}

pub same_or_not : (c n : ℕ) → (c ≡ n) ⊎ (c ≡ n → ⊥)
same_or_not c n = ⊎_elim (λ e. inl (eqb-true c n e)) (λ e. inr (eqb-false c n e)) (decided (eqb c n))

-- ---- the cells that a line enters

pub record Enters (A : Automaton) (o c : ℕ) : Type 0 where
  pub state : ℕ
  pub observation : ℕ
  pub state_in : state ≤ A.size
  pub below : observation < o
  pub goes : target A state observation ≡ c

pub named_found : (A : Automaton) (o c : ℕ) → named A o c ≡ true → Enters A o c
unfolding named first_names next_names target
named_found A o c e =
    ⊎_elim
    (λ h. let f = any_found o (λ j. eqb (A.begins j) c) h in
    record { state = 0; observation = f.0; state_in = omega arith; below = f.1; goes = eqb-true (A.begins f.0) c f.2 })
    (λ h. let f = any_found A.size (λ d. next_names A o d c) h in
    let g = any_found o (λ j. eqb (A.next f.0 j) c) f.2 in
    record { state = suc f.0; observation = g.0; state_in = f.1; below = g.1; goes = eqb-true (A.next f.0 g.0) c g.2 })
    (or_cases (first_names A o c) (any A.size (λ d. next_names A o d c)) e)

pub named_at : (A : Automaton) (o c q j : ℕ) → q ≤ A.size → j < o → target A q j ≡ c → named A o c ≡ true
unfolding named first_names next_names target
named_at A o c zero j l k e = or_left (any A.size (λ d. next_names A o d c)) (any_intro o (λ i. eqb (A.begins i) c) j k (eq-eqb (A.begins j) c e))
named_at A o c (suc d) j l k e =
    or_right (first_names A o c) (any_intro A.size (λ d. next_names A o d c) d l (any_intro o (λ i. eqb (A.next d i) c) j k (eq-eqb (A.next d j) c e)))

-- machines whose lines to c are at the same slots
pub named_same : (A B : Automaton) (o c : ℕ) → A.size ≡ B.size → ((q j : ℕ) → q ≤ A.size → j < o → target A q j ≡ c → target B q j ≡ c)
    → ((q j : ℕ) → q ≤ A.size → j < o → target B q j ≡ c → target A q j ≡ c) → named A o c ≡ named B o c
named_same A B o c z f g =
    same_truth (named A o c) (named B o c)
    (λ e. let h = named_found A o c e in
    named_at B o c h.state h.observation (omega (arith, h.state_in)) h.below (f h.state h.observation h.state_in h.below h.goes))
    (λ e. let h = named_found B o c e in
    let l : h.state ≤ A.size = omega (arith, h.state_in) in
    named_at A o c h.state h.observation l h.below (g h.state h.observation l h.below h.goes))

-- ---- what is said

-- the slots from number p on have no line
abbrev pub Free : Automaton → (o p : ℕ) → Type 0
Free B o p = (q j : ℕ) → j < o → p ≤ q * o + j → target B q j ≡ no_cell

-- a cell that a line enters has set 0; one that none does has set 1 and action 0
pub record Told (B : Automaton) (o : ℕ) : Type 0 where
  pub entered_set : (c : ℕ) → c < B.size → named B o c ≡ true → B.set c ≡ 0
  pub other_set : (c : ℕ) → c < B.size → named B o c ≡ false → B.set c ≡ 1
  pub other_action : (c : ℕ) → c < B.size → named B o c ≡ false → B.action c ≡ 0

-- C has the lines of B below slot p, and the actions of its entered cells
pub record Keeps (B C : Automaton) (o p : ℕ) : Type 0 where
  pub size_same : B.size ≡ C.size
  pub targets : (q j : ℕ) → j < o → q * o + j < p → target C q j ≡ target B q j
  pub actions : (c : ℕ) → c < B.size → B.set c ≡ 0 → C.action c ≡ B.action c

-- ---- before the first line

pub free_blank : (m o p : ℕ) → Free (blank m) o p
free_blank m o p q j l k = blank_target m q j

pub told_blank : (m o : ℕ) → m ≤ max_cells → Told (blank m) o
told_blank m o l =
    record {
      entered_set = λ c k e.
          let h = named_found (blank m) o c e in
          let z : no_cell ≡ c = sym (blank_target m h.state h.observation) ∙ h.goes in
          absurd (omega (arith, blank_size m));
      other_set = λ c k e. blank_set m c;
      other_action = λ c k e. blank_action m c;
    }

pub keeps_blank : (m : ℕ) (A : Automaton) (o : ℕ) → A.size ≡ m → Keeps (blank m) A o 0
keeps_blank m A o z =
    record {
      size_same = blank_size m ∙ sym z;
      targets = λ q j l k. absurd (omega arith);
      actions = λ c l e. absurd (omega (arith, blank_set m c));
    }

pub keeps_self : (B : Automaton) (o p : ℕ) → Keeps B B o p
keeps_self B o p = record { size_same = refl; targets = λ q j l k. refl; actions = λ c l e. refl }

-- ---- one line more: on observation j state s goes to cell n, whose action is u
module _ (B : Automaton) (o s j n u : ℕ) (jl : j < o) where
  abbrev more : Automaton
  more = with_line B s j n u

  -- another slot
  elsewhere : (q i : ℕ) → i < o → (q * o + i ≡ s * o + j → ⊥) → target more q i ≡ target B q i
  elsewhere q i l h = target_other B s j n u q i (λ a b. h (rw (a, b)))

  pub free_line : (p : ℕ) → p ≤ s * o + j → Free B o p → Free more o (s * o + (j + 1))
  free_line p l f q i k h = elsewhere q i k (λ e. omega arith) ∙ f q i k (omega arith)

  -- the cells: the one entered is now known
  module _ (cells : B.size ≤ max_cells) (sl : s ≤ B.size) (was : target B s j ≡ no_cell) where
    named_here : named more o n ≡ true
    named_here = named_at more o n s j (rw (line_size B s j n u) sl) jl (target_here B s j n u)

    named_other : (c : ℕ) → c < B.size → (c ≡ n → ⊥) → named more o c ≡ named B o c
    named_other c l h =
        let size = line_size B s j n u in
        named_same more B o c size
        (λ q i a b e. ⊎_elim
        (λ d. let p = same_slot o q i s j b jl d in
        absurd (h (sym e ∙ ap₂ (target more) p.0 p.1 ∙ target_here B s j n u)))
        (λ d. sym (elsewhere q i b d) ∙ e)
        (same_or_not (q * o + i) (s * o + j)))
        (λ q i a b e. ⊎_elim
        (λ d. let p = same_slot o q i s j b jl d in
        let z : no_cell ≡ c = sym was ∙ ap₂ (target B) (sym p.0) (sym p.1) ∙ e in absurd (omega arith))
        (λ d. elsewhere q i b d ∙ e)
        (same_or_not (q * o + i) (s * o + j)))

    pub told_line : Told B o → Told more o
    told_line t =
        let size = line_size B s j n u in
        record {
          entered_set = λ c l e. ⊎_elim
              (λ z. ap more.set z ∙ set_entered B s j n u)
              (λ z. set_other B s j n u c z ∙ t.entered_set c (omega arith) (sym (named_other c (omega arith) z) ∙ e))
              (same_or_not c n);
          other_set = λ c l e. ⊎_elim
              (λ z. clash named_here (ap (named more o) (sym z) ∙ e))
              (λ z. set_other B s j n u c z ∙ t.other_set c (omega arith) (sym (named_other c (omega arith) z) ∙ e))
              (same_or_not c n);
          other_action = λ c l e. ⊎_elim
              (λ z. clash named_here (ap (named more o) (sym z) ∙ e))
              (λ z. action_other B s j n u c z ∙ t.other_action c (omega arith) (sym (named_other c (omega arith) z) ∙ e))
              (same_or_not c n);
        }

  -- a machine that has this line too
  pub keeps_line : (A : Automaton) → Keeps B A o (s * o + j) → target A s j ≡ n → A.action n ≡ u → Keeps more A o (s * o + (j + 1))
  keeps_line A h t e =
      record {
        size_same = line_size B s j n u ∙ h.size_same;
        targets = λ q i k l. ⊎_elim
            (λ d. let p = same_slot o q i s j k jl d in
            ap₂ (target A) p.0 p.1 ∙ t ∙ sym (target_here B s j n u) ∙ ap₂ (target more) (sym p.0) (sym p.1))
            (λ d. h.targets q i k (omega arith) ∙ sym (elsewhere q i k d))
            (same_or_not (q * o + i) (s * o + j));
        actions = λ c l z. ⊎_elim
            (λ d. ap A.action d ∙ e ∙ sym (action_entered B s j n u) ∙ ap more.action (sym d))
            (λ d. h.actions c (omega (arith, line_size B s j n u)) (sym (set_other B s j n u c d) ∙ z) ∙ sym (action_other B s j n u c d))
            (same_or_not c n);
      }

  -- what keeps this line keeps those before it
  pub keeps_back : (C : Automaton) (p : ℕ) → p ≤ s * o + j → (B.set n ≡ 0 → u ≡ B.action n) → Keeps more C o (s * o + (j + 1)) → Keeps B C o p
  keeps_back C p l known h =
      record {
        size_same = sym (line_size B s j n u) ∙ h.size_same;
        targets = λ q i k b. h.targets q i k (omega arith) ∙ elsewhere q i k (λ e. omega arith);
        actions = λ c b z. ⊎_elim
            (λ d. ap C.action d ∙ h.actions n (omega (arith, line_size B s j n u)) (set_entered B s j n u) ∙ action_entered B s j n u
            ∙ known (ap B.set (sym d) ∙ z) ∙ ap B.action (sym d))
            (λ d. h.actions c (omega (arith, line_size B s j n u)) (set_other B s j n u c d ∙ z) ∙ action_other B s j n u c d)
            (same_or_not c n);
      }

-- a slot without a line
pub keeps_none : (B A : Automaton) (o s j : ℕ) → j < o → Keeps B A o (s * o + j) → target B s j ≡ no_cell → target A s j ≡ no_cell → Keeps B A o (s * o + (j + 1))
keeps_none B A o s j jl h was is =
    record {
      size_same = h.size_same;
      targets = λ q i k l. ⊎_elim
          (λ d. let p = same_slot o q i s j k jl d in
          ap₂ (target A) p.0 p.1 ∙ is ∙ sym was ∙ ap₂ (target B) (sym p.0) (sym p.1))
          (λ d. h.targets q i k (omega arith))
          (same_or_not (q * o + i) (s * o + j));
      actions = h.actions;
    }
