-- Laws of the tests on the numbers below a bound.
-- Assumes nothing.
use mathlib.Core.Path.{◌≡◌, refl, sym, ap, ap₂, ◌∙◌, subst}
use mathlib.Core.Logic.{◌⊎◌, inl, inr, ⊎_elim}
use mathlib.Core.Bool.{Bool, true, false, cond, ◌&&◌, ◌||◌, true≢false, false≢true}
use mathlib.Core.List.Memᴰ
use mathlib.Core.List.{List, [], ◌∷◌, ◌++◌, append-nil, append_assoc, Memᴰ}
use Prim.Native.Nat.{ℕ, zero, suc, ◌+◌, ◌≤◌, ◌<◌, zero-le}
use native.Mathlib.Nat.{le_refl, le_step, le_trans, le_antisymm, le_of_suc-le-suc, lt_of_not-le, not-suc-le-zero, eq-or-lt_of_le}
use native.Mathlib.Numerals.{add-one}
use native.Mathlib.Decide.{le_ind}
use native.Mathlib.Omega.{arith}
use lib.ListN.{length, length-append, get_or}
use lib.Seq.{get_or-append_seam}
use Rattle.sets.specs.Bounded.{all, any, nothing, found, first, count, select}
use Rattle.sets.specs.Family.{Ascending, none, more}
use Rattle.sets.proofs.Logic.{decided, clash, refuted, same_truth, and_left, and_right, and_intro, and_false_cases, or_cases, or_false_left, or_false_right}

-- what holds below n and at n holds below suc n
top : (P : ℕ → Type 0) (n : ℕ) → P n → ((i : ℕ) → i < n → P i) → (i : ℕ) → i < suc n → P i
top P n here below i l = ⊎_elim (λ e. subst P (sym e) here) (λ lt. below i lt) (eq-or-lt_of_le (le_of_suc-le-suc l))

-- ---- all

-- no number, all pass
pub all_zero : (p : ℕ → Bool) → all 0 p ≡ true
unfolding all
all_zero p = refl

-- one number more
pub all_suc : (n : ℕ) (p : ℕ → Bool) → all (suc n) p ≡ (all n p && p n)
unfolding all
all_suc n p = refl

-- as code counts
pub all_more : (n : ℕ) (p : ℕ → Bool) → all (n + 1) p ≡ (all n p && p n)
all_more n p = rw add-one (all_suc n p)

-- all pass, so each does
pub all_at : (n : ℕ) (p : ℕ → Bool) → all n p ≡ true → (i : ℕ) → i < n → p i ≡ true
unfolding all
all_at zero p h i l = absurd (not-suc-le-zero l)
all_at (suc n) p h i l = top (λ i. p i ≡ true) n (and_right (all n p) (p n) h) (all_at n p (and_left (all n p) (p n) h)) i l

-- each passes, so all do
pub all_intro : (n : ℕ) (p : ℕ → Bool) → ((i : ℕ) → i < n → p i ≡ true) → all n p ≡ true
unfolding all
all_intro zero p h = refl
all_intro (suc n) p h = and_intro (all_intro n p (λ i l. h i (le_step l))) (h n (le_refl (suc n)))

-- where not all pass, one fails
pub all_fails : (n : ℕ) (p : ℕ → Bool) → all n p ≡ false → (i : ℕ) × (i < n) × (p i ≡ false)
unfolding all
all_fails zero p h = absurd (true≢false h)
all_fails (suc n) p h =
    ⊎_elim (λ e. let w = all_fails n p e in (w.0, le_step w.1, w.2)) (λ e. (n, le_refl (suc n), e)) (and_false_cases (all n p) (p n) h)

-- one fails, so not all pass
pub all_refuted : (n : ℕ) (p : ℕ → Bool) (i : ℕ) → i < n → p i ≡ false → all n p ≡ false
all_refuted n p i l f = refuted (all n p) (λ e. clash (all_at n p e i l) f)

-- tests equal below the bound
pub all_ext : (n : ℕ) (p q : ℕ → Bool) → ((i : ℕ) → i < n → p i ≡ q i) → all n p ≡ all n q
unfolding all
all_ext zero p q h = refl
all_ext (suc n) p q h = ap₂ ◌&&◌ (all_ext n p q (λ i l. h i (le_step l))) (h n (le_refl (suc n)))

-- ---- any

-- no number, none passes
pub any_zero : (p : ℕ → Bool) → any 0 p ≡ false
unfolding any
any_zero p = refl

-- one number more
pub any_suc : (n : ℕ) (p : ℕ → Bool) → any (suc n) p ≡ (any n p || p n)
unfolding any
any_suc n p = refl

-- as code counts
pub any_more : (n : ℕ) (p : ℕ → Bool) → any (n + 1) p ≡ (any n p || p n)
any_more n p = rw add-one (any_suc n p)

-- where some number passes, this is one
pub any_found : (n : ℕ) (p : ℕ → Bool) → any n p ≡ true → (i : ℕ) × (i < n) × (p i ≡ true)
unfolding any
any_found zero p h = absurd (false≢true h)
any_found (suc n) p h =
    ⊎_elim (λ e. let w = any_found n p e in (w.0, le_step w.1, w.2)) (λ e. (n, le_refl (suc n), e)) (or_cases (any n p) (p n) h)

-- none passes, so each fails
pub any_none : (n : ℕ) (p : ℕ → Bool) → any n p ≡ false → (i : ℕ) → i < n → p i ≡ false
unfolding any
any_none zero p h i l = absurd (not-suc-le-zero l)
any_none (suc n) p h i l = top (λ i. p i ≡ false) n (or_false_right (any n p) (p n) h) (any_none n p (or_false_left (any n p) (p n) h)) i l

-- one passes, so some does
pub any_intro : (n : ℕ) (p : ℕ → Bool) (i : ℕ) → i < n → p i ≡ true → any n p ≡ true
any_intro n p i l t = ⊎_elim (λ e. e) (λ e. clash t (any_none n p e i l)) (decided (any n p))

-- each fails, so none passes
pub any_refuted : (n : ℕ) (p : ℕ → Bool) → ((i : ℕ) → i < n → p i ≡ false) → any n p ≡ false
any_refuted n p h = refuted (any n p) (λ e. let w = any_found n p e in clash w.2 (h w.0 w.1))

-- tests equal below the bound
pub any_ext : (n : ℕ) (p q : ℕ → Bool) → ((i : ℕ) → i < n → p i ≡ q i) → any n p ≡ any n q
unfolding any
any_ext zero p q h = refl
any_ext (suc n) p q h = ap₂ ◌||◌ (any_ext n p q (λ i l. h i (le_step l))) (h n (le_refl (suc n)))

-- ---- first

-- no number, none found
pub first_zero : (p : ℕ → Bool) → first 0 p ≡ nothing
unfolding first
first_zero p = refl

-- none so far, and n fails
pub first_skip_suc : (n : ℕ) (p : ℕ → Bool) → first n p ≡ nothing → p n ≡ false → first (suc n) p ≡ nothing
unfolding first
first_skip_suc n p e f = rw (first, e, f)

-- none so far, and n passes
pub first_hit_suc : (n : ℕ) (p : ℕ → Bool) → first n p ≡ nothing → p n ≡ true → first (suc n) p ≡ found n
unfolding first
first_hit_suc n p e f = rw (first, e, f)

-- what was found stays found
pub first_kept_suc : (n : ℕ) (p : ℕ → Bool) (i : ℕ) → first n p ≡ found i → first (suc n) p ≡ found i
unfolding first
first_kept_suc n p i e = rw (first, e)

-- as code counts: the turn that passes n by
pub first_skip : (n : ℕ) (p : ℕ → Bool) → first n p ≡ nothing → p n ≡ false → first (n + 1) p ≡ nothing
first_skip n p e f = rw add-one (first_skip_suc n p e f)

-- i is the lowest number below n that passes
abbrev pub Lowest : ℕ → (ℕ → Bool) → ℕ → Type 0
Lowest n p i = (i < n) × (p i ≡ true) × ((j : ℕ) → j < i → p j ≡ false)

-- what `first` is, both cases
pub first_cases : (n : ℕ) (p : ℕ → Bool) → ((first n p ≡ nothing) × ((j : ℕ) → j < n → p j ≡ false)) ⊎ ((i : ℕ) × (first n p ≡ found i) × Lowest n p i)
first_cases zero p = inl (first_zero p, λ j l. absurd (not-suc-le-zero l))
first_cases (suc n) p =
    ⊎_elim
    (λ w. ⊎_elim (λ t. inr (n, first_hit_suc n p w.0 t, (le_refl (suc n), t, w.1)))
    (λ f. inl (first_skip_suc n p w.0 f, top (λ j. p j ≡ false) n f w.1)) (decided (p n)))
    (λ w. inr (w.0, first_kept_suc n p w.0 w.1, (le_step w.2.0, w.2.1, w.2.2)))
    (first_cases n p)

-- the number found is the lowest that passes
pub first_found : (n : ℕ) (p : ℕ → Bool) (i : ℕ) → first n p ≡ found i → Lowest n p i
first_found n p i h =
    ⊎_elim (λ w. let z : ◌≡◌ {A = ℕ} 0 1 = cc w.0 in absurd (omega arith))
    (λ w. let e : w.0 ≡ i = cc w.1 in subst (Lowest n p) e w.2)
    (first_cases n p)

-- nothing found: each number fails
pub first_nothing : (n : ℕ) (p : ℕ → Bool) → first n p ≡ nothing → (j : ℕ) → j < n → p j ≡ false
first_nothing n p h =
    ⊎_elim (λ w. w.1) (λ w. let z : ◌≡◌ {A = ℕ} 0 1 = cc w.1 in absurd (omega arith)) (first_cases n p)

lowest_le : (p : ℕ → Bool) (i k : ℕ) → p k ≡ true → ((j : ℕ) → j < i → p j ≡ false) → i ≤ k
lowest_le p i k t h = le_of_suc-le-suc (lt_of_not-le (λ l. clash t (h k l)))

-- the lowest number that passes is found
pub first_is : (n : ℕ) (p : ℕ → Bool) (i : ℕ) → i < n → p i ≡ true → ((j : ℕ) → j < i → p j ≡ false) → first n p ≡ found i
first_is n p i l t h =
    ⊎_elim (λ w. clash t (w.1 i l))
    (λ w. w.1 ∙ ap found (le_antisymm (lowest_le p w.0 i t w.2.2) (lowest_le p i w.0 w.2.1 h)))
    (first_cases n p)

-- where one passes, one is found
pub first_some : (n : ℕ) (p : ℕ → Bool) (i : ℕ) → i < n → p i ≡ true → (k : ℕ) × (first n p ≡ found k)
first_some n p i l t = ⊎_elim (λ w. clash t (w.1 i l)) (λ w. (w.0, w.1)) (first_cases n p)

-- where each fails, nothing is found
pub first_none : (n : ℕ) (p : ℕ → Bool) → ((j : ℕ) → j < n → p j ≡ false) → first n p ≡ nothing
first_none n p h = ⊎_elim (λ w. w.0) (λ w. clash w.2.1 (h w.0 w.2.0)) (first_cases n p)

-- a loop that has found none below i stops at i
pub first_stop : (n : ℕ) (p : ℕ → Bool) (i : ℕ) → i < n → first i p ≡ nothing → p i ≡ true → first n p ≡ found i
first_stop n p i l e t = first_is n p i l t (first_nothing i p e)

-- tests equal below the bound
pub first_ext : (n : ℕ) (p q : ℕ → Bool) → ((i : ℕ) → i < n → p i ≡ q i) → first n p ≡ first n q
first_ext n p q h =
    ⊎_elim (λ w. w.0 ∙ sym (first_none n q (λ j l. sym (h j l) ∙ w.1 j l)))
    (λ w. w.1 ∙ sym (first_is n q w.0 w.2.0 (sym (h w.0 w.2.0) ∙ w.2.1) (λ j l. sym (h j (le_trans l (le_trans (le_step (le_refl w.0)) w.2.0))) ∙ w.2.2 j l)))
    (first_cases n p)

-- ---- count

-- no number, none counted
pub count_zero : (p : ℕ → Bool) → count 0 p ≡ 0
unfolding count
count_zero p = refl

-- n passes: one more
pub count_hit_suc : (n : ℕ) (p : ℕ → Bool) → p n ≡ true → count (suc n) p ≡ suc (count n p)
unfolding count
count_hit_suc n p e = rw (count, e)

-- n fails: as many
pub count_skip_suc : (n : ℕ) (p : ℕ → Bool) → p n ≡ false → count (suc n) p ≡ count n p
unfolding count
count_skip_suc n p e = rw (count, e)

-- as code counts
pub count_hit : (n : ℕ) (p : ℕ → Bool) → p n ≡ true → count (n + 1) p ≡ count n p + 1
count_hit n p e = simp add-one (count_hit_suc n p e)

-- n fails: as many
pub count_skip : (n : ℕ) (p : ℕ → Bool) → p n ≡ false → count (n + 1) p ≡ count n p
count_skip n p e = rw add-one (count_skip_suc n p e)

-- at most the bound
pub count_le : (n : ℕ) (p : ℕ → Bool) → count n p ≤ n
count_le zero p = omega (arith, count_zero p)
count_le (suc n) p =
    let l : count n p ≤ n = count_le n p in
    ⊎_elim (λ e. omega (arith, count_hit_suc n p e)) (λ e. omega (arith, count_skip_suc n p e)) (decided (p n))

-- a larger bound counts no fewer
pub count_up : (n m : ℕ) (p : ℕ → Bool) → n ≤ m → count n p ≤ count m p
count_up n m p l =
    le_ind (λ (k : ℕ). count n p ≤ count k p) (le_refl (count n p))
    (λ k b h. ⊎_elim (λ e. omega (arith, count_hit_suc k p e)) (λ e. omega (arith, count_skip_suc k p e)) (decided (p k))) m l

-- and more, where a number passes that the lower bound leaves out
pub count_past : (n m : ℕ) (p : ℕ → Bool) → n < m → p n ≡ true → count n p < count m p
count_past n m p l e = omega (arith, count_hit_suc n p e, count_up (suc n) m p l)

-- the number that passes and before which i are counted
count_at : (m : ℕ) (p : ℕ → Bool) (i : ℕ) → i < count m p → (n : ℕ) × (n < m) × (p n ≡ true) × (count n p ≡ i)
count_at zero p i l = absurd (omega (arith, count_zero p))
count_at (suc m) p i l =
    let lower : i < count m p → (n : ℕ) × (n < suc m) × (p n ≡ true) × (count n p ≡ i) =
    λ h. let w = count_at m p i h in (w.0, le_step w.1, w.2, w.3) in
    ⊎_elim
    (λ e. let k : i < suc (count m p) = omega (arith, count_hit_suc m p e) in
    ⊎_elim (λ f. (m, le_refl (suc m), e, sym f)) lower (eq-or-lt_of_le (le_of_suc-le-suc k)))
    (λ e. lower (omega (arith, count_skip_suc m p e)))
    (decided (p m))

-- tests equal below the bound
pub count_ext : (n : ℕ) (p q : ℕ → Bool) → ((i : ℕ) → i < n → p i ≡ q i) → count n p ≡ count n q
unfolding count
count_ext zero p q h = refl
count_ext (suc n) p q h = ap₂ (λ (b : Bool) (k : ℕ). cond b (suc k) k) (h n (le_refl (suc n))) (count_ext n p q (λ i l. h i (le_step l)))

-- all pass: the bound
pub count_all : (n : ℕ) (p : ℕ → Bool) → ((i : ℕ) → i < n → p i ≡ true) → count n p ≡ n
count_all zero p h = count_zero p
count_all (suc n) p h = count_hit_suc n p (h n (le_refl (suc n))) ∙ ap suc (count_all n p (λ i l. h i (le_step l)))

-- none passes: 0
pub count_none : (n : ℕ) (p : ℕ → Bool) → ((i : ℕ) → i < n → p i ≡ false) → count n p ≡ 0
count_none zero p h = count_zero p
count_none (suc n) p h = count_skip_suc n p (h n (le_refl (suc n))) ∙ count_none n p (λ i l. h i (le_step l))

-- where q passes whatever p does, it passes as many
pub count_mono : (n : ℕ) (p q : ℕ → Bool) → ((i : ℕ) → i < n → p i ≡ true → q i ≡ true) → count n p ≤ count n q
count_mono zero p q h = omega (arith, count_zero p)
count_mono (suc n) p q h =
    let l : count n p ≤ count n q = count_mono n p q (λ i l. h i (le_step l)) in
    ⊎_elim (λ e. omega (arith, count_hit_suc n p e, count_hit_suc n q (h n (le_refl (suc n)) e)))
    (λ e. ⊎_elim (λ f. omega (arith, count_skip_suc n p e, count_hit_suc n q f)) (λ f. omega (arith, count_skip_suc n p e, count_skip_suc n q f)) (decided (q n)))
    (decided (p n))

-- and more, where it passes one that p does not
pub count_strict : (n : ℕ) (p q : ℕ → Bool) → ((i : ℕ) → i < n → p i ≡ true → q i ≡ true) → (i : ℕ) → i < n → p i ≡ false → q i ≡ true → count n p < count n q
count_strict zero p q h i l f t = absurd (not-suc-le-zero l)
count_strict (suc n) p q h i l f t =
    ⊎_elim
    (λ e. omega (arith, count_mono n p q (λ j k. h j (le_step k)), count_skip_suc n p (subst (λ (k : ℕ). p k ≡ false) e f), count_hit_suc n q (subst (λ (k : ℕ). q k ≡ true) e t)))
    (λ lt. let m : count n p < count n q = count_strict n p q (λ j k. h j (le_step k)) i lt f t in
    ⊎_elim (λ e. omega (arith, count_hit_suc n p e, count_hit_suc n q (h n (le_refl (suc n)) e)))
    (λ e. ⊎_elim (λ g. omega (arith, count_skip_suc n p e, count_hit_suc n q g)) (λ g. omega (arith, count_skip_suc n p e, count_skip_suc n q g)) (decided (q n)))
    (decided (p n)))
    (eq-or-lt_of_le (le_of_suc-le-suc l))

-- one more, where q passes one that p does not and they agree on the others
pub count_one : (n : ℕ) (p q : ℕ → Bool) (i : ℕ) → i < n → p i ≡ false → q i ≡ true → ((j : ℕ) → j < n → (j ≡ i → ⊥) → p j ≡ q j) → count n q ≡ count n p + 1
count_one zero p q i l f t same = absurd (not-suc-le-zero l)
count_one (suc n) p q i l f t same =
    ⊎_elim
    (λ e.
    let below : count n p ≡ count n q = count_ext n p q (λ j k. same j (le_step k) (λ z. omega arith)) in
    omega (arith, count_skip_suc n p (subst (λ (k : ℕ). p k ≡ false) e f), count_hit_suc n q (subst (λ (k : ℕ). q k ≡ true) e t)))
    (λ lt.
    let below : count n q ≡ count n p + 1 = count_one n p q i lt f t (λ j k z. same j (le_step k) z) in
    let here : p n ≡ q n = same n (le_refl (suc n)) (λ z. omega arith) in
    ⊎_elim (λ g. omega (arith, count_hit_suc n p g, count_hit_suc n q (sym here ∙ g))) (λ g. omega (arith, count_skip_suc n p g, count_skip_suc n q (sym here ∙ g)))
    (decided (p n)))
    (eq-or-lt_of_le (le_of_suc-le-suc l))

-- one passes: not 0
pub count_pos : (n : ℕ) (p : ℕ → Bool) (i : ℕ) → i < n → p i ≡ true → 0 < count n p
count_pos n p i l t =
    let m : count n (λ j. false) < count n p = count_strict n (λ j. false) p (λ j k e. absurd (false≢true e)) i l refl t in
    omega arith

-- where q passes whatever p does, and no more of them, they are the same
pub count_same : (n : ℕ) (p q : ℕ → Bool) → ((i : ℕ) → i < n → p i ≡ true → q i ≡ true) → count n p ≡ count n q → (i : ℕ) → i < n → p i ≡ q i
count_same n p q h e i l =
    same_truth (p i) (q i) (h i l)
    (λ t. ⊎_elim (λ (g : p i ≡ true). g) (λ f. let m : count n p < count n q = count_strict n p q h i l f t in absurd (omega arith)) (decided (p i)))

-- ---- select

-- no number, none listed
pub select_zero : (p : ℕ → Bool) → select 0 p ≡ []
unfolding select
select_zero p = refl

-- n passes: it stands at the end
pub select_hit_suc : (n : ℕ) (p : ℕ → Bool) → p n ≡ true → select (suc n) p ≡ select n p ++ (n ∷ [])
unfolding select
select_hit_suc n p e = rw (select, e)

-- n fails: the same list
pub select_skip_suc : (n : ℕ) (p : ℕ → Bool) → p n ≡ false → select (suc n) p ≡ select n p
unfolding select
select_skip_suc n p e = rw (select, e) (append-nil (select n p))

-- as code counts
pub select_hit : (n : ℕ) (p : ℕ → Bool) → p n ≡ true → select (n + 1) p ≡ select n p ++ (n ∷ [])
select_hit n p e = rw add-one (select_hit_suc n p e)

-- n fails: the same list
pub select_skip : (n : ℕ) (p : ℕ → Bool) → p n ≡ false → select (n + 1) p ≡ select n p
select_skip n p e = rw add-one (select_skip_suc n p e)

-- the list is as long as the count
pub select_length : (n : ℕ) (p : ℕ → Bool) → length (select n p) ≡ count n p
select_length zero p = ap length (select_zero p) ∙ sym (count_zero p)
select_length (suc n) p =
    let l : length (select n p) ≡ count n p = select_length n p in
    ⊎_elim
    (λ e. ap length (select_hit_suc n p e) ∙ length-append (select n p) (n ∷ []) ∙ omega (arith, count_hit_suc n p e))
    (λ e. ap length (select_skip_suc n p e) ∙ l ∙ sym (count_skip_suc n p e))
    (decided (p n))

-- tests equal below the bound
pub select_ext : (n : ℕ) (p q : ℕ → Bool) → ((i : ℕ) → i < n → p i ≡ q i) → select n p ≡ select n q
unfolding select
select_ext zero p q h = refl
select_ext (suc n) p q h =
    ap₂ (λ (l : List ℕ) (b : Bool). l ++ cond b (n ∷ []) []) (select_ext n p q (λ i l. h i (le_step l))) (h n (le_refl (suc n)))

last_mem : (b : Bool) (n i : ℕ) → Memᴰ i (cond b (n ∷ []) []) → (i ≡ n) × (b ≡ true)
last_mem true n i m = (Memᴰ.eq_of_singleton m, refl)
last_mem false n i m = absurd (Memᴰ.not-nil m)

mem_last : (b : Bool) (n i : ℕ) → i ≡ n → b ≡ true → Memᴰ i (cond b (n ∷ []) [])
mem_last true n i e t = Memᴰ.head e
mem_last false n i e t = absurd (false≢true t)

-- each number listed passes
pub mem_select : (n : ℕ) (p : ℕ → Bool) (i : ℕ) → Memᴰ i (select n p) → (i < n) × (p i ≡ true)
unfolding select
mem_select zero p i m = absurd (Memᴰ.not-nil m)
mem_select (suc n) p i m =
    ⊎_elim (λ k. let w = mem_select n p i k in (le_step w.0, w.1))
    (λ k. let w = last_mem (p n) n i k in (omega (arith, w.0), subst (λ (j : ℕ). p j ≡ true) (sym w.0) w.1))
    (Memᴰ.append_cases (select n p) m)

-- each number that passes is listed
pub select_mem : (n : ℕ) (p : ℕ → Bool) (i : ℕ) → i < n → p i ≡ true → Memᴰ i (select n p)
unfolding select
select_mem zero p i l t = absurd (not-suc-le-zero l)
select_mem (suc n) p i l t =
    ⊎_elim (λ e. Memᴰ.append_right (select n p) (mem_last (p n) n i e (subst (λ (j : ℕ). p j ≡ true) e t)))
    (λ lt. Memᴰ.append_left (cond (p n) (n ∷ []) []) (select_mem n p i lt t))
    (eq-or-lt_of_le (le_of_suc-le-suc l))

-- a larger number put at the end
pub ascending_more : (l : List ℕ) (n : ℕ) → Ascending l → ((t : ℕ) → Memᴰ t l → t < n) → Ascending (l ++ (n ∷ []))
ascending_more [] n none h = more (λ t m. absurd (Memᴰ.not-nil m)) none
ascending_more (s ∷ l) n (more b a) h =
    more (λ t m. ⊎_elim (λ k. b t k) (λ k. subst (λ (j : ℕ). s < j) (sym (Memᴰ.eq_of_singleton k)) (h s (Memᴰ.head refl))) (Memᴰ.append_cases l m))
    (ascending_more l n a (λ t m. h t (Memᴰ.tail m)))

-- the list ascends
pub select_ascending : (n : ℕ) (p : ℕ → Bool) → Ascending (select n p)
select_ascending zero p = rw select_zero none
select_ascending (suc n) p =
    let a : Ascending (select n p) = select_ascending n p in
    ⊎_elim (λ e. rw (select_hit_suc n p e) (ascending_more (select n p) n a (λ t m. (mem_select n p t m).0)))
    (λ e. rw (select_skip_suc n p e) a)
    (decided (p n))

-- their heads are equal, and their tails have the same members
same_heads : (x y : ℕ) (k l : List ℕ) → ((t : ℕ) → Memᴰ t k → x < t) → ((t : ℕ) → Memᴰ t l → y < t) → Memᴰ x (y ∷ l) → Memᴰ y (x ∷ k) → x ≡ y
same_heads x y k l bk bl p q =
    ⊎_elim (λ (e : x ≡ y). e)
    (λ m. ⊎_elim (λ (e : y ≡ x). sym e) (λ m'. omega (arith, bl x m, bk y m')) (Memᴰ.cases_cons q))
    (Memᴰ.cases_cons p)

same_tails : (x y : ℕ) (k l : List ℕ) → x ≡ y → ((t : ℕ) → Memᴰ t k → x < t) → ((t : ℕ) → Memᴰ t (x ∷ k) → Memᴰ t (y ∷ l)) → (t : ℕ) → Memᴰ t k → Memᴰ t l
same_tails x y k l e b h t m =
    ⊎_elim (λ (f : t ≡ y). absurd (omega (arith, b t m))) (λ (n : Memᴰ t l). n) (Memᴰ.cases_cons (h t (Memᴰ.tail m)))

-- two ascending lists with the same members are equal
pub ascending_same : (k l : List ℕ) → Ascending k → Ascending l → ((t : ℕ) → Memᴰ t k → Memᴰ t l) → ((t : ℕ) → Memᴰ t l → Memᴰ t k) → k ≡ l
ascending_same [] [] a b f g = refl
ascending_same [] (y ∷ l) a b f g = absurd (Memᴰ.not-nil (g y (Memᴰ.head refl)))
ascending_same (x ∷ k) [] a b f g = absurd (Memᴰ.not-nil (f x (Memᴰ.head refl)))
ascending_same (x ∷ k) (y ∷ l) (more bk a) (more bl b) f g =
    let e : x ≡ y = same_heads x y k l bk bl (f x (Memᴰ.head refl)) (g y (Memᴰ.head refl)) in
    ap₂ ◌∷◌ e (ascending_same k l a b (same_tails x y k l e bk f) (same_tails y x l k (sym e) bl g))

-- ---- where no number passes

-- where none from n on passes, as many are counted
pub count_gap : (n m : ℕ) (p : ℕ → Bool) → n ≤ m → ((i : ℕ) → n ≤ i → i < m → p i ≡ false) → count m p ≡ count n p
count_gap n zero p l h = ap (λ (k : ℕ). count k p) (le_antisymm zero-le l)
count_gap n (suc m) p l h =
    ⊎_elim (λ e. ap (λ (k : ℕ). count k p) (sym e))
    (λ lt. let k : n ≤ m = le_of_suc-le-suc lt in count_skip_suc m p (h m k (le_refl (suc m))) ∙ count_gap n m p k (λ i a b. h i a (le_step b)))
    (eq-or-lt_of_le l)

-- and the same are selected
pub select_gap : (n m : ℕ) (p : ℕ → Bool) → n ≤ m → ((i : ℕ) → n ≤ i → i < m → p i ≡ false) → select m p ≡ select n p
select_gap n zero p l h = ap (λ (k : ℕ). select k p) (le_antisymm zero-le l)
select_gap n (suc m) p l h =
    ⊎_elim (λ e. ap (λ (k : ℕ). select k p) (sym e))
    (λ lt. let k : n ≤ m = le_of_suc-le-suc lt in select_skip_suc m p (h m k (le_refl (suc m))) ∙ select_gap n m p k (λ i a b. h i a (le_step b)))
    (eq-or-lt_of_le l)

-- none passes: the empty list
pub select_none : (n : ℕ) (p : ℕ → Bool) → ((i : ℕ) → i < n → p i ≡ false) → select n p ≡ []
select_none n p h = select_gap 0 n p zero-le (λ i a b. h i b) ∙ select_zero p

-- n is the lowest that passes p, and q passes the others: n stands in front of them
pub select_lowest : (n m : ℕ) (p q : ℕ → Bool) → n < m → p n ≡ true → q n ≡ false → ((i : ℕ) → i < n → p i ≡ false) → ((i : ℕ) → (i ≡ n → ⊥) → q i ≡ p i) → select m p ≡ n ∷ select m q
select_lowest n zero p q l t f low other = absurd (not-suc-le-zero l)
select_lowest n (suc m) p q l t f low other =
    ⊎_elim
    (λ e. ap (λ (k : ℕ). select (suc k) p) (sym e)
    ∙ select_hit_suc n p t ∙ ap (λ (k : List ℕ). k ++ (n ∷ [])) (select_none n p low)
    ∙ ap (λ (k : List ℕ). n ∷ k) (sym (select_none n q (λ i h. other i (λ d. omega arith) ∙ low i h)) ∙ sym (select_skip_suc n q f) ∙ ap (λ (k : ℕ). select (suc k) q) e))
    (λ lt. let r : select m p ≡ n ∷ select m q = select_lowest n m p q lt t f low other in
    let d : q m ≡ p m = other m (λ e. omega arith) in
    ⊎_elim
    (λ a. select_hit_suc m p a ∙ ap (λ (k : List ℕ). k ++ (m ∷ [])) r ∙ ap (λ (k : List ℕ). n ∷ k) (sym (select_hit_suc m q (d ∙ a))))
    (λ a. select_skip_suc m p a ∙ r ∙ ap (λ (k : List ℕ). n ∷ k) (sym (select_skip_suc m q (d ∙ a))))
    (decided (p m)))
    (eq-or-lt_of_le (le_of_suc-le-suc l))

-- ---- where a number stands in the list

-- what was selected below a bound stands in front of what is selected below a larger one
pub select_front : (n m : ℕ) (p : ℕ → Bool) → n ≤ m → (r : List ℕ) × (select m p ≡ select n p ++ r)
select_front n zero p l = ([], ap (λ (k : ℕ). select k p) (sym (le_antisymm l zero-le)) ∙ sym (append-nil (select n p)))
select_front n (suc m) p l =
    ⊎_elim (λ e. ([], ap (λ (k : ℕ). select k p) (sym e) ∙ sym (append-nil (select n p))))
    (λ lt. let w = select_front n m p (le_of_suc-le-suc lt) in
    ⊎_elim
    (λ e. (w.0 ++ (m ∷ []), select_hit_suc m p e ∙ ap (λ (l : List ℕ). l ++ (m ∷ [])) w.1 ∙ append_assoc (select n p) w.0 (m ∷ [])))
    (λ e. (w.0, select_skip_suc m p e ∙ w.1))
    (decided (p m)))
    (eq-or-lt_of_le l)

-- the number that passes stands at the place that is the count before it
pub select_at : (n m : ℕ) (p : ℕ → Bool) → n < m → p n ≡ true → get_or (select m p) (count n p) 0 ≡ n
select_at n m p l e =
    let w = select_front (suc n) m p l in
    subst (λ (k : ℕ). get_or (select m p) k 0 ≡ n) (select_length n p)
    (ap (λ (l : List ℕ). get_or l (length (select n p)) 0) (w.1 ∙ ap (λ (l : List ℕ). l ++ w.0) (select_hit_suc n p e) ∙ append_assoc (select n p) (n ∷ []) w.0)
    ∙ get_or-append_seam (select n p) n w.0 0)

-- and before the number at place i as many are counted
pub select_count : (m : ℕ) (p : ℕ → Bool) (i : ℕ) → i < count m p → count (get_or (select m p) i 0) p ≡ i
select_count m p i l =
    let w = count_at m p i l in
    ap (λ (n : ℕ). count n p) (ap (λ (k : ℕ). get_or (select m p) k 0) (sym w.3) ∙ select_at w.0 m p w.1 w.2) ∙ w.3
