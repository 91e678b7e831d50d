-- Lists gathered piece by piece, and a list filled from the front by a function's values, one store a turn.
-- Assumes nothing.
use mathlib.Core.Path.{◌≡◌, refl, sym, ap, ap₂, ◌∙◌, subst}
use mathlib.Core.List.{List, [], ◌∷◌, ◌++◌, append_assoc}
use mathlib.Core.Logic.{⊎_elim}
use Prim.Native.Nat.{ℕ, zero, suc, ◌+◌, ◌-◌, ◌*◌, ◌≤◌, ◌<◌}
use native.Mathlib.Nat.{le_refl, le_step, eq-or-lt_of_le, le_of_suc-le-suc, not-suc-le-zero, zero-mul, suc-mul, mul-le-mul_right}
use native.Mathlib.Numerals.{add-one}
use native.Mathlib.Omega.{arith}
use lib.ListN.{length, get_or, set, take, drop, replicate, length-append, length-drop, get_or-append}
use lib.Seq.{drop-cons, drop_at, take-suc-set, length-take-le, set_at, get_or-append-add, get_or-drop, ext_get_or}
use Rattle.sets.specs.Bounded.{gather, filled_by, fill}

-- ---- pieces of the same length, one behind the other

pub gather_length : (n k : ℕ) (piece : ℕ → List ℕ) → ((i : ℕ) → i < n → length (piece i) ≡ k) → length (gather n piece) ≡ n * k
unfolding gather
gather_length zero k piece h = sym (zero-mul k)
gather_length (suc n) k piece h =
    let l : length (gather n piece) ≡ n * k = gather_length n k piece (λ i b. h i (le_step b)) in
    let m : length (piece n) ≡ k = h n (le_refl (suc n)) in
    omega (arith, length-append (gather n piece) (piece n), suc-mul n k)

-- element r of list i
pub gather_at : (n k : ℕ) (piece : ℕ → List ℕ) → ((i : ℕ) → i < n → length (piece i) ≡ k) → (i r : ℕ) → i < n → r < k
    → get_or (gather n piece) (i * k + r) 0 ≡ get_or (piece i) r 0
unfolding gather
gather_at zero k piece h i r b c = absurd (not-suc-le-zero b)
gather_at (suc n) k piece h i r b c =
    let l : length (gather n piece) ≡ n * k = gather_length n k piece (λ j d. h j (le_step d)) in
    ⊎_elim
    (λ (e : i ≡ n). ap (λ (j : ℕ). get_or (gather n piece ++ piece n) (j * k + r) 0) e
    ∙ ap (λ (j : ℕ). get_or (gather n piece ++ piece n) (j + r) 0) (sym l)
    ∙ get_or-append-add (gather n piece) (piece n) r 0
    ∙ ap (λ (j : ℕ). get_or (piece j) r 0) (sym e))
    (λ (d : i < n). get_or-append (gather n piece) (piece n) 0 (i * k + r) (under l d)
    ∙ gather_at n k piece (λ j f. h j (le_step f)) i r d c)
    (eq-or-lt_of_le (le_of_suc-le-suc b))
  where
    under : length (gather n piece) ≡ n * k → i < n → i * k + r < length (gather n piece)
    under l d =
        let e : suc i * k ≤ n * k = mul-le-mul_right k d in
        omega (arith, suc-mul i k)

-- lists gathered from the same pieces are the same
pub gather_ext : (n : ℕ) (p q : ℕ → List ℕ) → ((j : ℕ) → j < n → p j ≡ q j) → gather n p ≡ gather n q
unfolding gather
gather_ext zero p q h = refl
gather_ext (suc n) p q h = ap₂ ◌++◌ (gather_ext n p q (λ j l. h j (le_step l))) (h n (le_refl (suc n)))

-- ---- a function's values, in a list of their own and in front of another

module _ (f : ℕ → ℕ) where
  pub length_values : (k : ℕ) → length (gather k (λ i. f i ∷ [])) ≡ k
  length_values k = omega (arith, gather_length k 1 (λ i. f i ∷ []) (λ i l. refl))

  pub get_d_values : (k i : ℕ) → i < k → get_or (gather k (λ i. f i ∷ [])) i 0 ≡ f i
  get_d_values k i l =
      ap (λ (p : ℕ). get_or (gather k (λ i. f i ∷ [])) p 0) (let e : i ≡ i * 1 + 0 = omega arith in e)
      ∙ gather_at k 1 (λ i. f i ∷ []) (λ j m. refl) i 0 l (omega arith)

  -- the front of a list holds k of them; one store more
  pub values_more : (k : ℕ) (d : List ℕ) (x : ℕ) → k < length d → take k d ≡ gather k (λ i. f i ∷ []) → x ≡ f k
      → take (k + 1) (set d k x) ≡ gather (k + 1) (λ i. f i ∷ [])
  unfolding gather
  values_more k d x l h e = rw add-one (take-suc-set d k x l ∙ ap₂ (λ (t : List ℕ) (y : ℕ). t ++ (y ∷ [])) h e)

  pub filled_none : (d : List ℕ) → d ≡ filled_by 0 f d
  unfolding gather
  filled_none d = refl

  filled_suc : (k : ℕ) (d : List ℕ) → k < length d → set (filled_by k f d) k (f k) ≡ filled_by (suc k) f d
  unfolding gather
  filled_suc k d l =
      ap (λ (r : List ℕ). set (gather k (λ i. f i ∷ []) ++ r) k (f k)) (drop-cons d k 0 l)
      ∙ set_at (gather k (λ i. f i ∷ [])) (get_or d k 0) (drop (suc k) d) (f k) k (length_values k)
      ∙ sym (append_assoc (gather k (λ i. f i ∷ [])) (f k ∷ []) (drop (suc k) d))

  pub filled_more : (k : ℕ) (d : List ℕ) → k < length d → set (filled_by k f d) k (f k) ≡ filled_by (k + 1) f d
  filled_more k d l = rw add-one (filled_suc k d l)

  pub length_filled : (k : ℕ) (d : List ℕ) → k ≤ length d → length (filled_by k f d) ≡ length d
  length_filled k d l = length-append (gather k (λ i. f i ∷ [])) (drop k d) ∙ omega (arith, length_values k, length-drop k d)

  pub get_d_filled : (k : ℕ) (d : List ℕ) (i : ℕ) → i < k → get_or (filled_by k f d) i 0 ≡ f i
  get_d_filled k d i l = get_or-append (gather k (λ i. f i ∷ [])) (drop k d) 0 i (subst (λ (j : ℕ). i < j) (sym (length_values k)) l) ∙ get_d_values k i l

  pub get_d_rest : (k : ℕ) (d : List ℕ) (i : ℕ) → k ≤ i → get_or (filled_by k f d) i 0 ≡ get_or d i 0
  get_d_rest k d i l =
      let e : length (gather k (λ i. f i ∷ [])) + (i - k) ≡ i = omega (arith, length_values k) in
      let m : k + (i - k) ≡ i = omega arith in
      ap (λ (j : ℕ). get_or (filled_by k f d) j 0) (sym e)
      ∙ get_or-append-add (gather k (λ i. f i ∷ [])) (drop k d) (i - k) 0
      ∙ get_or-drop k d (i - k) 0
      ∙ ap (λ (j : ℕ). get_or d j 0) m

pub filled_ext : (f g : ℕ → ℕ) (k : ℕ) (d : List ℕ) → ((i : ℕ) → i < k → f i ≡ g i) → filled_by k f d ≡ filled_by k g d
filled_ext f g k d h =
    ap (λ (l : List ℕ). l ++ drop k d) (gather_ext k (λ i. f i ∷ []) (λ i. g i ∷ []) (λ i l. ap (λ (x : ℕ). x ∷ []) (h i l)))

-- a list's own values are the list
pub values_back : (l : List ℕ) → gather (length l) (λ i. get_or l i 0 ∷ []) ≡ l
values_back l =
    let f : ℕ → ℕ = λ i. get_or l i 0 in
    ext_get_or 0 (gather (length l) (λ i. f i ∷ [])) l (length_values f (length l)) (λ i b. get_d_values f (length l) i (omega (arith, length_values f (length l))))

-- ---- a front set to 0

-- it does not depend on what a callee left there
pub cleared : (need : ℕ) (x work e : List ℕ) → length x ≡ length (take need work) → need ≤ length work → e ≡ fill need 0 (x ++ drop need work) → e ≡ fill need 0 work
cleared need x work e h b is =
    is ∙ ap (λ (l : List ℕ). replicate need 0 ++ l) (drop_at x (drop need work) need (h ∙ length-take-le need work b))
