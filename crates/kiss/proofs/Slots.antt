-- The slots of a machine in one row: slot number q * o + j is observation j in state q. And pieces of text from a slot on.
-- Assumes nothing.
use mathlib.Core.Path.{◌≡◌, refl, sym, ap, ap₂, ◌∙◌}
use mathlib.Core.Logic.{⊎_elim}
use mathlib.Core.List.{List, [], ◌++◌, append_assoc, append-nil}
use Prim.Native.Nat.{ℕ, zero, suc, ◌+◌, ◌*◌, ◌-◌, ◌/◌, ◌%◌, ◌≤◌, ◌<◌}
use native.Mathlib.Nat.{suc-mul, zero-mul, mul-le-mul_right}
use native.Mathlib.Omega.{arith}
use Rattle.sets.specs.Bounded.{gather}
use Rattle.sets.proofs.Logic.{lt_or_le}
use Rattle.sets.proofs.Fills.{gather_ext}
use Rattle.form.proofs.Texts.{glued}

-- ---- pieces one behind the other

-- the pieces from number p on, i of them
unfoldable pub behind : (p i : ℕ) → (ℕ → List ℕ) → List ℕ
behind p zero f = []
behind p (suc i) f = f p ++ behind (suc p) i f

module _ (f : ℕ → List ℕ) where
  behind_more : (p i : ℕ) → behind p (suc i) f ≡ behind p i f ++ f (p + i)
  unfolding behind
  behind_more p zero = let e : p + 0 ≡ p = omega arith in rw (e) (append-nil (f p))
  behind_more p (suc i) =
      let e : suc p + i ≡ p + suc i = omega arith in
      ap (λ (l : List ℕ). f p ++ l) (behind_more (suc p) i ∙ ap (λ (k : ℕ). behind (suc p) i f ++ f k) e)
      ∙ sym (append_assoc (f p) (behind (suc p) i f) (f (p + suc i)))

  pub gather_behind : (n : ℕ) → gather n f ≡ behind 0 n f
  unfolding gather behind
  gather_behind zero = refl
  gather_behind (suc n) =
      let e : 0 + n ≡ n = omega arith in
      ap (λ (l : List ℕ). l ++ f n) (gather_behind n) ∙ sym (behind_more 0 n ∙ ap (λ (k : ℕ). behind 0 n f ++ f k) e)

  -- d empty pieces in front
  pub behind_skip : (p d i : ℕ) → ((k : ℕ) → p ≤ k → k < p + d → f k ≡ []) → behind p (d + i) f ≡ behind (p + d) i f
  unfolding behind
  behind_skip p zero i h = let e : 0 + i ≡ i = omega arith in let g : p + 0 ≡ p = omega arith in rw (e, g)
  behind_skip p (suc d) i h =
      let e : suc d + i ≡ suc (d + i) = omega arith in
      let g : suc p + d ≡ p + suc d = omega arith in
      rw (e, behind, h p (omega arith) (omega arith), ← g) (behind_skip (suc p) d i (λ k a b. h k (omega arith) (omega arith)))

  -- a piece, and what stands behind it
  behind_piece : (p i : ℕ) → behind p (suc i) f ≡ f p ++ behind (suc p) i f
  unfolding behind
  behind_piece p i = refl

  -- the first that is not empty, and what stands behind it
  pub behind_at : (p x i : ℕ) (t : List ℕ) → p ≤ x → x < p + i → ((k : ℕ) → p ≤ k → k < x → f k ≡ []) → f x ≡ t → behind p i f ≡ t ++ behind (suc x) (p + i - suc x) f
  behind_at p x i t l h none e =
      let g : i ≡ x - p + suc (p + i - suc x) = omega arith in
      let d : p + (x - p) ≡ x = omega arith in
      ap (λ (k : ℕ). behind p k f) g
      ∙ behind_skip p (x - p) (suc (p + i - suc x)) (λ k a b. none k a (omega arith))
      ∙ ap (λ (k : ℕ). behind k (suc (p + i - suc x)) f) d
      ∙ behind_piece x (p + i - suc x)
      ∙ ap (λ (l : List ℕ). l ++ behind (suc x) (p + i - suc x) f) e

  gather_add : (n k : ℕ) → gather (n + k) f ≡ gather n f ++ gather k (λ i. f (n + i))
  unfolding gather
  gather_add n zero = let e : n + 0 ≡ n = omega arith in rw (e, append-nil)
  gather_add n (suc k) =
      let e : n + suc k ≡ suc (n + k) = omega arith in
      rw (e, gather) (ap (λ (l : List ℕ). l ++ f (n + k)) (gather_add n k) ∙ append_assoc (gather n f) (gather k (λ i. f (n + i))) (f (n + k)))

-- rows of o pieces each are one row
pub rows : (m o : ℕ) (f : ℕ → ℕ → List ℕ) → 0 < o → gather m (λ q. gather o (f q)) ≡ gather (m * o) (λ p. f (p / o) (p % o))
unfolding gather
rows zero o f l = rw (zero-mul o)
rows (suc m) o f l =
    let g : ℕ → List ℕ = λ p. f (p / o) (p % o) in
    rw (suc-mul m o) (ap₂ ◌++◌ (rows m o f l) (gather_ext o (f m) (λ j. g (m * o + j)) (λ j k. let h = glued m j o k in rw (h.0, h.1))) ∙ sym (gather_add g (m * o) o))

-- ---- the order of the slots

module _ (o q i s j : ℕ) where
  -- a slot's state is not below that of a lower slot
  pub state_up : q * o + i ≤ s * o + j → j < o → q ≤ s
  state_up l k =
      ⊎_elim (λ h. let e : suc s * o ≤ q * o = mul-le-mul_right o h in absurd (omega (arith, suc-mul s o))) (λ h. h) (lt_or_le s q)

  -- and is above it where its observation is below
  pub state_above : q * o + i ≤ s * o + j → j < o → j < i → q < s
  state_above l k b =
      ⊎_elim (λ h. h) (λ h. let e : s ≡ q = omega (arith, state_up l k) in let g : s * o ≡ q * o = ap (λ (x : ℕ). x * o) e in absurd (omega arith)) (lt_or_le q s)

  pub slot_up : q < s → i ≤ o → q * o + i ≤ s * o + j
  slot_up l k = let e : suc q * o ≤ s * o = mul-le-mul_right o l in omega (arith, suc-mul q o)

  pub slot_along : q ≤ s → i ≤ j → q * o + i ≤ s * o + j
  slot_along l k = let e : q * o ≤ s * o = mul-le-mul_right o l in omega arith

  -- a slot has one number
  pub same_slot : i < o → j < o → q * o + i ≡ s * o + j → (q ≡ s) × (i ≡ j)
  same_slot k l e =
      let g = glued q i o k in
      let h = glued s j o l in
      (sym g.0 ∙ ap (λ (x : ℕ). x / o) e ∙ h.0, sym g.1 ∙ ap (λ (x : ℕ). x % o) e ∙ h.1)

-- the slots of m cells and the reset state
pub slot_within : (o m s j : ℕ) → s ≤ m → j < o → s * o + j < suc m * o
slot_within o m s j l k = let e : s * o ≤ m * o = mul-le-mul_right o l in omega (arith, suc-mul m o)
