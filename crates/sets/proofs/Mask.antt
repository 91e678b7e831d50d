-- Laws of sets as masks.
-- Assumes nothing.
use mathlib.Core.Path.{◌≡◌, refl, sym, ap, ap₂, ◌∙◌, subst}
use mathlib.Core.Logic.{⊎_elim}
use mathlib.Core.Bool.{Bool, true, false, cond, not, ◌&&◌, ◌||◌, or-false, and-true}
use Prim.Native.Nat.{ℕ, zero, suc, min, max, ◌+◌, ◌-◌, ◌*◌, ◌/◌, ◌%◌, ◌^◌, ◌≤◌, ◌<◌, suc-le-suc}
use native.Mathlib.Nat.{le_refl, le_step, le_of_suc-le-suc, not-suc-le-zero, lt_of_lt_of_le, lt_of_le_of_lt, lt_of_not-le, zero-div, div-one, div-eq_of_lt, div_self, div-div-eq-div-mul, pow-succ', mod-lt, zero-lt-suc, zero-min, zero-max, le-add_right, add_comm, sub-add_cancel, div-eq-sub-div}
use native.Mathlib.Numerals.{add-one}
use native.Mathlib.Omega.{arith}
use lib.Dec.{eqb}
use lib.Count.{count_trailing_zeros, under}
use lib.Pow.{pow_pos, pow_mono, pow-lt, shr-shr, field, mod-mod-pow, split}
use lib.Bits.{bit_and, bit_or, and_step, or_step, and_shr, or_shr, and_mod, and_comm, and_self, and_le_l, and_le_r, or_lt, or_disjoint, or_zero_r}
use borrow.Author.Tests.{eqb-true, eqb-false, eq-eqb, ne_eqb}
use Rattle.sets.specs.Mask.{member, common, union, subset, without, union_over}
use Rattle.sets.specs.Bounded.{all, any}
use Rattle.sets.proofs.Logic.{decided, clash, refuted, same_truth, and_left, and_right, and_intro, and_false_right, true_not, or_cases, or_left, or_right, implies_at, implies_fails}
use Rattle.sets.proofs.Bounded.{Lowest, all_at, all_fails, any_found, any_none, any_intro}

-- ---- members

-- the empty set has no member
pub member_zero : (i : ℕ) → member 0 i ≡ false
member_zero i = ap (λ (x : ℕ). eqb (x % 2) 1) (zero-div (2 ^ i))

-- the lowest state
pub member_first : (s : ℕ) → member s 0 ≡ eqb (s % 2) 1
member_first s = ap (λ (x : ℕ). eqb (x % 2) 1) (div-one s)

-- the other states
pub member_half : (s i : ℕ) → member s (suc i) ≡ member (s / 2) i
member_half s i =
    ap (λ (x : ℕ). eqb (s / x % 2) 1) (pow-succ' 2 i) ∙ ap (λ (x : ℕ). eqb (x % 2) 1) (sym (div-div-eq-div-mul s 2 (2 ^ i)))

-- a set below 2 ^ n has only members below n
pub member_beyond : (n s i : ℕ) → s < 2 ^ n → n ≤ i → member s i ≡ false
member_beyond n s i h l = ap (λ (x : ℕ). eqb (x % 2) 1) (div-eq_of_lt (lt_of_lt_of_le h (pow_mono l)))

-- so a member is below n
pub member_below : (n s i : ℕ) → s < 2 ^ n → member s i ≡ true → i < n
member_below n s i h m = lt_of_not-le (λ l. clash m (member_beyond n s i h l))

-- a set is at least each of its members alone
pub single_le : (s i : ℕ) → member s i ≡ true → 2 ^ i ≤ s
single_le s i m = le_of_suc-le-suc (lt_of_not-le (λ l. clash m (member_beyond i s i l (le_refl i))))

-- every number is a set of so many states
pub enough : (s : ℕ) → s < 2 ^ s
enough zero = zero-lt-suc 0
enough (suc s) = omega (arith, enough s, pow-succ' 2 s)

-- ---- the lowest member

lowest_odd : (k x : ℕ) → x % 2 ≡ 1 → Lowest (suc k) (member x) 0
lowest_odd k x e = (zero-lt-suc k, member_first x ∙ eq-eqb (x % 2) 1 e, λ j l. absurd (omega arith))

below_suc : (k x z : ℕ) → x % 2 ≡ 0 → Lowest k (member (x / 2)) z → (j : ℕ) → j < suc z → member x j ≡ false
below_suc k x z e w zero l = member_first x ∙ ne_eqb (x % 2) 1 (λ f. omega arith)
below_suc k x z e w (suc j) l = member_half x j ∙ w.2 j (omega arith)

lowest_even : (k x z : ℕ) → x % 2 ≡ 0 → Lowest k (member (x / 2)) z → Lowest (suc k) (member x) (suc z)
lowest_even k x z e w = (omega (arith, w.0), member_half x z ∙ w.1, below_suc k x z e w)

-- a number that is not 0 has a member as its trailing zeros end, and none below
pub lowest : (k x : ℕ) → x < 2 ^ k → (x ≡ 0 → ⊥) → Lowest k (member x) (count_trailing_zeros k x)
unfolding count_trailing_zeros
lowest zero x h z = absurd (z (omega arith))
lowest (suc k) x h z =
    ⊎_elim
    (λ e. subst (λ (d : ℕ). Lowest (suc k) (member x) (under d (count_trailing_zeros k (x / 2)))) (sym (eqb-true (x % 2) 1 e)) (lowest_odd k x (eqb-true (x % 2) 1 e)))
    (λ e. let d : x % 2 ≡ 0 = omega (arith, eqb-false (x % 2) 1 e) in
    subst (λ (d : ℕ). Lowest (suc k) (member x) (under d (count_trailing_zeros k (x / 2)))) (sym d)
    (lowest_even k x (count_trailing_zeros k (x / 2)) d (lowest k (x / 2) (omega (arith, pow-succ' 2 k)) (λ q. z (omega arith)))))
    (decided (eqb (x % 2) 1))

-- ---- common part and union

min_eqb : (x y : ℕ) → x < 2 → y < 2 → eqb (min x y) 1 ≡ (eqb x 1 && eqb y 1)
min_eqb zero y h k = ap (λ (x : ℕ). eqb x 1) (zero-min y)
min_eqb (suc zero) zero h k = refl
min_eqb (suc zero) (suc zero) h k = refl
min_eqb (suc zero) (suc (suc y)) h k = absurd (omega arith)
min_eqb (suc (suc x)) y h k = absurd (omega arith)

max_eqb : (x y : ℕ) → x < 2 → y < 2 → eqb (max x y) 1 ≡ (eqb x 1 || eqb y 1)
max_eqb zero y h k = ap (λ (x : ℕ). eqb x 1) (zero-max y)
max_eqb (suc zero) zero h k = refl
max_eqb (suc zero) (suc zero) h k = refl
max_eqb (suc zero) (suc (suc y)) h k = absurd (omega arith)
max_eqb (suc (suc x)) y h k = absurd (omega arith)

and_odd : (s t : ℕ) → bit_and s t % 2 ≡ min (s % 2) (t % 2)
and_odd s t = omega (arith, and_step s t)

or_odd : (s t : ℕ) → bit_or s t % 2 ≡ max (s % 2) (t % 2)
or_odd s t = omega (arith, or_step s t)

odd_lt : (s : ℕ) → s % 2 < 2
odd_lt s = mod-lt s (zero-lt-suc 1)

-- the members of the common part
pub member_and : (s t i : ℕ) → member (common s t) i ≡ (member s i && member t i)
member_and s t i =
    ap (λ (x : ℕ). eqb (x % 2) 1) (and_shr s t i) ∙ ap (λ (x : ℕ). eqb x 1) (and_odd (s / 2 ^ i) (t / 2 ^ i))
    ∙ min_eqb (s / 2 ^ i % 2) (t / 2 ^ i % 2) (odd_lt (s / 2 ^ i)) (odd_lt (t / 2 ^ i))

-- the members of the union
pub member_or : (s t i : ℕ) → member (union s t) i ≡ (member s i || member t i)
member_or s t i =
    ap (λ (x : ℕ). eqb (x % 2) 1) (or_shr s t i) ∙ ap (λ (x : ℕ). eqb x 1) (or_odd (s / 2 ^ i) (t / 2 ^ i))
    ∙ max_eqb (s / 2 ^ i % 2) (t / 2 ^ i % 2) (odd_lt (s / 2 ^ i)) (odd_lt (t / 2 ^ i))

-- the common part is a set of states below n where the second set is
pub common_lt : (n s t : ℕ) → t < 2 ^ n → common s t < 2 ^ n
common_lt n s t h = lt_of_le_of_lt (and_le_r s t) h

-- and where the first set is
pub common_lt_left : (n s t : ℕ) → s < 2 ^ n → common s t < 2 ^ n
common_lt_left n s t h = lt_of_le_of_lt (and_le_l s t) h

-- so is a union of two
pub union_lt : (n s t : ℕ) → s < 2 ^ n → t < 2 ^ n → union s t < 2 ^ n
union_lt n s t h k = or_lt n s t h k

-- ---- one state

-- the set of one state has it
pub member_single : (i : ℕ) → member (2 ^ i) i ≡ true
member_single i = ap (λ (x : ℕ). eqb (x % 2) 1) (div_self (pow_pos i))

pow_half : (i : ℕ) → 2 ^ suc i / 2 ≡ 2 ^ i
pow_half i = omega (arith, pow-succ' 2 i)

-- and no other
pub member_single_other : (i j : ℕ) → (j ≡ i → ⊥) → member (2 ^ i) j ≡ false
member_single_other zero zero h = absurd (h refl)
member_single_other zero (suc j) h = member_half 1 j ∙ member_zero j
member_single_other (suc i) zero h = member_first (2 ^ suc i) ∙ ne_eqb (2 ^ suc i % 2) 1 (λ e. omega (arith, pow-succ' 2 i))
member_single_other (suc i) (suc j) h =
    member_half (2 ^ suc i) j ∙ ap (λ (x : ℕ). member x j) (pow_half i) ∙ member_single_other i j (λ e. h (ap suc e))

-- ---- equal sets

odd_same : (x y : ℕ) → x < 2 → y < 2 → eqb x 1 ≡ eqb y 1 → x ≡ y
odd_same x y h k e =
    ⊎_elim (λ t. omega (arith, eqb-true x 1 t, eqb-true y 1 (sym e ∙ t)))
    (λ f. omega (arith, eqb-false x 1 f, eqb-false y 1 (sym e ∙ f))) (decided (eqb x 1))

half_lt : (n s : ℕ) → s < 2 ^ suc n → s / 2 < 2 ^ n
half_lt n s h = omega (arith, pow-succ' 2 n)

rest_half : (k s : ℕ) → s < 2 ^ suc k → ((2 ^ suc k - 1) - s) / 2 ≡ (2 ^ k - 1) - s / 2
rest_half k s h = omega (arith, pow-succ' 2 k)

-- sets below 2 ^ n with the same members below n are equal
pub ext : (n s t : ℕ) → s < 2 ^ n → t < 2 ^ n → ((i : ℕ) → i < n → member s i ≡ member t i) → s ≡ t
ext zero s t h k e = omega arith
ext (suc n) s t h k e =
    let p : s / 2 ≡ t / 2 = ext n (s / 2) (t / 2) (half_lt n s h) (half_lt n t k) (λ i l. sym (member_half s i) ∙ e (suc i) (suc-le-suc l) ∙ member_half t i) in
    let q : s % 2 ≡ t % 2 = odd_same (s % 2) (t % 2) (odd_lt s) (odd_lt t) (sym (member_first s) ∙ e 0 (zero-lt-suc n) ∙ member_first t) in
    omega arith

either_lt : (s t : ℕ) → s < 2 ^ (s + t)
either_lt s t = lt_of_lt_of_le (enough s) (pow_mono (le-add_right s t))

-- without a bound
pub ext_all : (s t : ℕ) → ((i : ℕ) → member s i ≡ member t i) → s ≡ t
ext_all s t e =
    ext (s + t) s t (either_lt s t) (subst (λ (k : ℕ). t < 2 ^ k) (add_comm t s) (either_lt t s)) (λ i l. e i)

-- ---- subsets

-- a subset has only members of the set
pub subset_member : (s t : ℕ) → subset s t ≡ true → (i : ℕ) → member s i ≡ true → member t i ≡ true
subset_member s t h i m =
    and_right (member s i) (member t i) (sym (member_and s t i) ∙ ap (λ (x : ℕ). member x i) (eqb-true (common s t) s h) ∙ m)

-- a set with only members of the other is a subset
pub subset_intro : (n s t : ℕ) → s < 2 ^ n → ((i : ℕ) → i < n → member s i ≡ true → member t i ≡ true) → subset s t ≡ true
subset_intro n s t h f =
    eq-eqb (common s t) s
    (ext n (common s t) s (common_lt_left n s t h) h
    (λ i l. member_and s t i ∙ same_truth (member s i && member t i) (member s i) (and_left (member s i) (member t i)) (λ m. and_intro m (f i l m))))

-- without a bound
pub subset_of : (s t : ℕ) → ((i : ℕ) → member s i ≡ true → member t i ≡ true) → subset s t ≡ true
subset_of s t f = subset_intro s s t (enough s) (λ i l. f i)

-- s is not a subset: this state is in s and not in t
pub subset_witness : (n s t : ℕ) → s < 2 ^ n → subset s t ≡ false → (i : ℕ) × (i < n) × (member s i ≡ true) × (member t i ≡ false)
subset_witness n s t h f =
    ⊎_elim
    (λ a. clash (subset_intro n s t h (λ i l. implies_at (member s i) (member t i) (all_at n (λ i. not (member s i) || member t i) a i l))) f)
    (λ a. let w = all_fails n (λ i. not (member s i) || member t i) a in
    let v = implies_fails (member s w.0) (member t w.0) w.2 in
    (w.0, w.1, v.0, v.1))
    (decided (all n (λ i. not (member s i) || member t i)))

-- a set is its own subset
pub subset_refl : (s : ℕ) → subset s s ≡ true
subset_refl s = eq-eqb (common s s) s (and_self s)

-- a subset of a subset
pub subset_trans : (s t u : ℕ) → subset s t ≡ true → subset t u ≡ true → subset s u ≡ true
subset_trans s t u h k = subset_of s u (λ i m. subset_member t u k i (subset_member s t h i m))

-- subsets of each other are equal
pub subset_antisym : (s t : ℕ) → subset s t ≡ true → subset t s ≡ true → s ≡ t
subset_antisym s t h k = sym (eqb-true (common s t) s h) ∙ and_comm s t ∙ eqb-true (common t s) t k

-- the mask of a subset is no larger
pub subset_le : (s t : ℕ) → subset s t ≡ true → s ≤ t
subset_le s t h = subst (λ (x : ℕ). x ≤ t) (eqb-true (common s t) s h) (and_le_r s t)

-- a subset is a set of states below n
pub subset_lt : (n s t : ℕ) → subset s t ≡ true → t < 2 ^ n → s < 2 ^ n
subset_lt n s t h k = lt_of_le_of_lt (subset_le s t h) k

-- the common part is a subset of the first
pub common_subset_left : (s t : ℕ) → subset (common s t) s ≡ true
common_subset_left s t = subset_of (common s t) s (λ i m. and_left (member s i) (member t i) (sym (member_and s t i) ∙ m))

-- and of the second
pub common_subset_right : (s t : ℕ) → subset (common s t) t ≡ true
common_subset_right s t = subset_of (common s t) t (λ i m. and_right (member s i) (member t i) (sym (member_and s t i) ∙ m))

-- a subset of both is one of the common part
pub common_greatest : (r s t : ℕ) → subset r s ≡ true → subset r t ≡ true → subset r (common s t) ≡ true
common_greatest r s t h k =
    subset_of r (common s t) (λ i m. member_and s t i ∙ and_intro (subset_member r s h i m) (subset_member r t k i m))

-- the common part of subsets
pub subset_common_mono : (s s' t t' : ℕ) → subset s s' ≡ true → subset t t' ≡ true → subset (common s t) (common s' t') ≡ true
subset_common_mono s s' t t' h k =
    common_greatest (common s t) s' t'
    (subset_trans (common s t) s s' (common_subset_left s t) h)
    (subset_trans (common s t) t t' (common_subset_right s t) k)

-- the union holds the first
pub union_subset_left : (s t : ℕ) → subset s (union s t) ≡ true
union_subset_left s t = subset_of s (union s t) (λ i m. member_or s t i ∙ or_left (member t i) m)

-- and the second
pub union_subset_right : (s t : ℕ) → subset t (union s t) ≡ true
union_subset_right s t = subset_of t (union s t) (λ i m. member_or s t i ∙ or_right (member s i) m)

-- and lies in each set that holds both
pub union_least : (s t u : ℕ) → subset s u ≡ true → subset t u ≡ true → subset (union s t) u ≡ true
union_least s t u h k =
    subset_of (union s t) u
    (λ i m. ⊎_elim (λ a. subset_member s u h i a) (λ b. subset_member t u k i b) (or_cases (member s i) (member t i) (sym (member_or s t i) ∙ m)))

-- ---- parts of a mask

-- the states from k on, counted from 0
pub member_shift : (s k i : ℕ) → member (s / 2 ^ k) i ≡ member s (k + i)
member_shift s k i = ap (λ (x : ℕ). eqb (x % 2) 1) (shr-shr s k i)

low_state : (s j i : ℕ) → member (s % 2 ^ (suc j + i)) i ≡ member s i
low_state s j i =
    ap (λ (x : ℕ). eqb (x % 2) 1) (field s (suc j) i ∙ ap (λ (k : ℕ). s / 2 ^ i % 2 ^ k) (sym (add-one j)))
    ∙ ap (λ (x : ℕ). eqb x 1) (mod-mod-pow (s / 2 ^ i) j 1)

-- the states below k
pub member_low : (s k i : ℕ) → i < k → member (s % 2 ^ k) i ≡ member s i
member_low s k i h =
    let e : suc (k - suc i) + i ≡ k = omega arith in
    subst (λ (x : ℕ). member (s % 2 ^ x) i ≡ member s i) e (low_state s (k - suc i) i)

odd_other : (x y : ℕ) → x + y ≡ 1 → eqb y 1 ≡ not (eqb x 1)
odd_other zero y e = eq-eqb y 1 (omega arith)
odd_other (suc zero) y e = ne_eqb y 1 (λ f. omega arith)
odd_other (suc (suc x)) y e = absurd (omega arith)

-- the states below k that are not in s
pub member_rest : (k s i : ℕ) → s < 2 ^ k → i < k → member ((2 ^ k - 1) - s) i ≡ not (member s i)
member_rest zero s i h l = absurd (not-suc-le-zero l)
member_rest (suc k) s zero h l =
    member_first ((2 ^ suc k - 1) - s) ∙ odd_other (s % 2) (((2 ^ suc k - 1) - s) % 2) (omega (arith, pow-succ' 2 k)) ∙ ap not (sym (member_first s))
member_rest (suc k) s (suc i) h l =
    member_half ((2 ^ suc k - 1) - s) i ∙ ap (λ (x : ℕ). member x i) (rest_half k s h)
    ∙ member_rest k (s / 2) i (half_lt k s h) (le_of_suc-le-suc l) ∙ ap not (sym (member_half s i))

-- a subset, in the states below k and in the others
pub subset_parts : (k s t : ℕ) → subset s t ≡ (subset (s / 2 ^ k) (t / 2 ^ k) && subset (s % 2 ^ k) (t % 2 ^ k))
subset_parts k s t =
    same_truth (subset s t) (subset (s / 2 ^ k) (t / 2 ^ k) && subset (s % 2 ^ k) (t % 2 ^ k))
    (λ h. let e : common s t ≡ s = eqb-true (common s t) s h in
    and_intro (eq-eqb (common (s / 2 ^ k) (t / 2 ^ k)) (s / 2 ^ k) (sym (and_shr s t k) ∙ ap (λ (x : ℕ). x / 2 ^ k) e))
    (eq-eqb (common (s % 2 ^ k) (t % 2 ^ k)) (s % 2 ^ k) (sym (and_mod s t k) ∙ ap (λ (x : ℕ). x % 2 ^ k) e)))
    (λ h. eq-eqb (common s t) s
    (sym (split (common s t) k)
    ∙ ap₂ (λ (x y : ℕ). x * 2 ^ k + y)
    (and_shr s t k ∙ eqb-true (common (s / 2 ^ k) (t / 2 ^ k)) (s / 2 ^ k) (and_left (subset (s / 2 ^ k) (t / 2 ^ k)) (subset (s % 2 ^ k) (t % 2 ^ k)) h))
    (and_mod s t k ∙ eqb-true (common (s % 2 ^ k) (t % 2 ^ k)) (s % 2 ^ k) (and_right (subset (s / 2 ^ k) (t / 2 ^ k)) (subset (s % 2 ^ k) (t % 2 ^ k)) h))
    ∙ split s k))

-- ---- sets with no state in common

-- no state in common: a member of s is none of t
pub common_zero : (s t : ℕ) → common s t ≡ 0 → (i : ℕ) → member s i ≡ true → member t i ≡ false
common_zero s t e i m =
    refuted (member t i) (λ k. clash (member_and s t i ∙ and_intro m k) (ap (λ (x : ℕ). member x i) e ∙ member_zero i))

-- no member of s is one of t: no state in common
pub common_zero_intro : (n s t : ℕ) → s < 2 ^ n → ((i : ℕ) → i < n → member s i ≡ true → member t i ≡ false) → common s t ≡ 0
common_zero_intro n s t h f =
    ext n (common s t) 0 (common_lt_left n s t h) (pow_pos n)
    (λ i l. member_and s t i
    ∙ refuted (member s i && member t i) (λ m. clash (and_right (member s i) (member t i) m) (f i l (and_left (member s i) (member t i) m)))
    ∙ sym (member_zero i))

-- the common part is not empty: this state is in it
pub common_witness : (n s t : ℕ) → s < 2 ^ n → (common s t ≡ 0 → ⊥) → (i : ℕ) × (i < n) × (member s i ≡ true) × (member t i ≡ true)
common_witness n s t h f =
    ⊎_elim
    (λ a. let w = any_found n (λ i. member s i && member t i) a in
    (w.0, w.1, and_left (member s w.0) (member t w.0) w.2, and_right (member s w.0) (member t w.0) w.2))
    (λ a. absurd (f (common_zero_intro n s t h
    (λ i l m. refuted (member t i) (λ k. clash (and_intro m k) (any_none n (λ i. member s i && member t i) a i l))))))
    (decided (any n (λ i. member s i && member t i)))

-- ---- one state put in

module _ (s i : ℕ) (f : member s i ≡ false) where
  -- the sum is the union
  pub union_add : union s (2 ^ i) ≡ s + 2 ^ i
  union_add =
      or_disjoint s (2 ^ i)
      (common_zero_intro s s (2 ^ i) (enough s)
      (λ j l m. member_single_other i j (λ e. clash (subst (λ (k : ℕ). member s k ≡ true) e m) f)))

  -- it is a set of states below n
  pub add_lt : (n : ℕ) → s < 2 ^ n → i < n → s + 2 ^ i < 2 ^ n
  add_lt n h l = subst (λ (x : ℕ). x < 2 ^ n) union_add (or_lt n s (2 ^ i) h (pow-lt l))

  -- its members
  pub member_add : (j : ℕ) → member (s + 2 ^ i) j ≡ (member s j || member (2 ^ i) j)
  member_add j = ap (λ (x : ℕ). member x j) (sym union_add) ∙ member_or s (2 ^ i) j

  -- it has the state
  pub member_add_same : member (s + 2 ^ i) i ≡ true
  member_add_same = member_add i ∙ or_right (member s i) (member_single i)

  -- it has the members of s
  pub member_add_old : (j : ℕ) → member s j ≡ true → member (s + 2 ^ i) j ≡ true
  member_add_old j m = member_add j ∙ or_left (member (2 ^ i) j) m

  -- any other state is as in s
  pub member_add_other : (j : ℕ) → (j ≡ i → ⊥) → member (s + 2 ^ i) j ≡ member s j
  member_add_other j h = member_add j ∙ ap (λ (b : Bool). member s j || b) (member_single_other i j h) ∙ or-false (member s j)

  -- it holds s
  pub subset_add : subset s (s + 2 ^ i) ≡ true
  subset_add = subset_of s (s + 2 ^ i) member_add_old

  -- it is still in any set that holds s and the state
  pub add_subset : (t : ℕ) → subset s t ≡ true → member t i ≡ true → subset (s + 2 ^ i) t ≡ true
  add_subset t h m =
      subst (λ (x : ℕ). subset x t ≡ true) union_add
      (union_least s (2 ^ i) t h
      (subset_of (2 ^ i) t
      (λ j k. ⊎_elim (λ b. subst (λ (x : ℕ). member t x ≡ true) (sym (eqb-true j i b)) m)
      (λ b. clash k (member_single_other i j (eqb-false j i b))) (decided (eqb j i)))))

-- ---- one state taken out

module _ (s i : ℕ) (m : member s i ≡ true) where
  -- put in again
  pub sub_add : s - 2 ^ i + 2 ^ i ≡ s
  sub_add = sub-add_cancel (single_le s i m)

  -- it lacks the state
  pub member_sub_same : member (s - 2 ^ i) i ≡ false
  member_sub_same =
      ne_eqb ((s - 2 ^ i) / 2 ^ i % 2) 1
      (λ e. omega (arith, div-eq-sub-div (pow_pos i) (single_le s i m), eqb-true (s / 2 ^ i % 2) 1 m))

  -- any other state is as in s
  pub member_sub_other : (j : ℕ) → (j ≡ i → ⊥) → member (s - 2 ^ i) j ≡ member s j
  member_sub_other j h =
      sym (member_add_other (s - 2 ^ i) i member_sub_same j h) ∙ ap (λ (x : ℕ). member x j) sub_add

  -- it lies in s
  pub sub_subset : subset (s - 2 ^ i) s ≡ true
  sub_subset = subst (λ (x : ℕ). subset (s - 2 ^ i) x ≡ true) sub_add (subset_add (s - 2 ^ i) i member_sub_same)

  -- its mask is less
  pub sub_less : s - 2 ^ i < s
  sub_less = omega (arith, sub_add, pow_pos i)

-- the common part with the number before it lacks the lowest member, and no other
pub lowest_off : (i s : ℕ) → member s i ≡ true → ((j : ℕ) → j < i → member s j ≡ false) → common s (s - 1) ≡ s - 2 ^ i
lowest_off zero s m low =
    let odd : s % 2 ≡ 1 = eqb-true (s % 2) 1 (sym (member_first s) ∙ m) in
    let half : (s - 1) / 2 ≡ s / 2 = omega arith in
    let same : common (s / 2) ((s - 1) / 2) ≡ s / 2 = ap (common (s / 2)) half ∙ eqb-true (common (s / 2) (s / 2)) (s / 2) (subset_refl (s / 2)) in
    omega (arith, and_step s (s - 1), same)
lowest_off (suc i) s m low =
    let even : s % 2 ≡ 0 = omega (arith, eqb-false (s % 2) 1 (sym (member_first s) ∙ low 0 (zero-lt-suc i)), odd_lt s) in
    let some : 2 ^ i ≤ s / 2 = single_le (s / 2) i (sym (member_half s i) ∙ m) in
    let half : (s - 1) / 2 ≡ s / 2 - 1 = omega (arith, pow_pos i) in
    let less : common (s / 2) ((s - 1) / 2) ≡ s / 2 - 2 ^ i =
    ap (common (s / 2)) half ∙ lowest_off i (s / 2) (sym (member_half s i) ∙ m) (λ j l. sym (member_half s j) ∙ low (suc j) (omega arith)) in
    omega (arith, and_step s (s - 1), less, pow-succ' 2 i, pow_pos i)

-- what `without` is where i is a member
pub without_member : (s i : ℕ) → member s i ≡ true → without s i ≡ s - 2 ^ i
without_member s i m = ap (λ (b : Bool). cond b (s - 2 ^ i) s) m

-- and where it is not
pub without_other : (s i : ℕ) → member s i ≡ false → without s i ≡ s
without_other s i f = ap (λ (b : Bool). cond b (s - 2 ^ i) s) f

-- the state is out
pub member_without_same : (s i : ℕ) → member (without s i) i ≡ false
member_without_same s i =
    ⊎_elim (λ m. ap (λ (x : ℕ). member x i) (without_member s i m) ∙ member_sub_same s i m)
    (λ f. ap (λ (x : ℕ). member x i) (without_other s i f) ∙ f) (decided (member s i))

-- any other is as it was
pub member_without_other : (s i j : ℕ) → (j ≡ i → ⊥) → member (without s i) j ≡ member s j
member_without_other s i j h =
    ⊎_elim (λ m. ap (λ (x : ℕ). member x j) (without_member s i m) ∙ member_sub_other s i m j h)
    (λ f. ap (λ (x : ℕ). member x j) (without_other s i f)) (decided (member s i))

-- both as one test
pub member_without : (s i j : ℕ) → member (without s i) j ≡ (member s j && not (eqb j i))
member_without s i j =
    ⊎_elim
    (λ e. ap (λ (x : ℕ). member (without s i) x) (eqb-true j i e) ∙ member_without_same s i ∙ sym (and_false_right (member s j) (true_not e)))
    (λ e. member_without_other s i j (eqb-false j i e) ∙ sym (ap (λ (b : Bool). member s j && not b) e ∙ and-true (member s j)))
    (decided (eqb j i))

-- what is left is a subset
pub without_subset : (s i : ℕ) → subset (without s i) s ≡ true
without_subset s i =
    ⊎_elim (λ m. ap (λ (x : ℕ). subset x s) (without_member s i m) ∙ sub_subset s i m)
    (λ f. ap (λ (x : ℕ). subset x s) (without_other s i f) ∙ subset_refl s) (decided (member s i))

-- it is a set of states below n
pub without_lt : (n s i : ℕ) → s < 2 ^ n → without s i < 2 ^ n
without_lt n s i h = subset_lt n (without s i) s (without_subset s i) h

-- ---- a union over the members

-- no state, the empty set
pub union_over_zero : (s : ℕ) (f : ℕ → ℕ) → union_over 0 s f ≡ 0
unfolding union_over
union_over_zero s f = refl

-- one state more
pub union_over_suc : (n s : ℕ) (f : ℕ → ℕ) → union_over (suc n) s f ≡ union (union_over n s f) (cond (member s n) (f n) 0)
unfolding union_over
union_over_suc n s f = refl

-- as code counts
pub union_over_hit : (n s : ℕ) (f : ℕ → ℕ) → member s n ≡ true → union_over (n + 1) s f ≡ union (union_over n s f) (f n)
union_over_hit n s f m = rw add-one (union_over_suc n s f ∙ ap (λ (b : Bool). union (union_over n s f) (cond b (f n) 0)) m)

-- n is no member: the same set
pub union_over_skip : (n s : ℕ) (f : ℕ → ℕ) → member s n ≡ false → union_over (n + 1) s f ≡ union_over n s f
union_over_skip n s f m =
    rw add-one (union_over_suc n s f ∙ ap (λ (b : Bool). union (union_over n s f) (cond b (f n) 0)) m ∙ or_zero_r (union_over n s f))

picked : (b : Bool) (x j : ℕ) → member (cond b x 0) j ≡ (b && member x j)
picked true x j = refl
picked false x j = member_zero j

-- the members of the union
pub member_union_over : (n s : ℕ) (f : ℕ → ℕ) (j : ℕ) → member (union_over n s f) j ≡ any n (λ i. member s i && member (f i) j)
unfolding union_over any
member_union_over zero s f j = member_zero j
member_union_over (suc n) s f j =
    member_or (union_over n s f) (cond (member s n) (f n) 0) j ∙ ap₂ ◌||◌ (member_union_over n s f j) (picked (member s n) (f n) j)

-- a member of the union is in the set of a member
pub union_over_found : (n s : ℕ) (f : ℕ → ℕ) (j : ℕ) → member (union_over n s f) j ≡ true → (i : ℕ) × (i < n) × (member s i ≡ true) × (member (f i) j ≡ true)
union_over_found n s f j h =
    let w = any_found n (λ i. member s i && member (f i) j) (sym (member_union_over n s f j) ∙ h) in
    (w.0, w.1, and_left (member s w.0) (member (f w.0) j) w.2, and_right (member s w.0) (member (f w.0) j) w.2)

-- each member of the set of a member is one
pub union_over_intro : (n s : ℕ) (f : ℕ → ℕ) (j i : ℕ) → i < n → member s i ≡ true → member (f i) j ≡ true → member (union_over n s f) j ≡ true
union_over_intro n s f j i l m k =
    member_union_over n s f j ∙ any_intro n (λ i. member s i && member (f i) j) i l (and_intro m k)

cond_lt : (b : Bool) (k x : ℕ) → x < 2 ^ k → cond b x 0 < 2 ^ k
cond_lt true k x h = h
cond_lt false k x h = pow_pos k

-- a union of sets of states below k is one
pub union_over_lt : (n s : ℕ) (f : ℕ → ℕ) (k : ℕ) → ((i : ℕ) → i < n → f i < 2 ^ k) → union_over n s f < 2 ^ k
unfolding union_over
union_over_lt zero s f k h = pow_pos k
union_over_lt (suc n) s f k h =
    or_lt k (union_over n s f) (cond (member s n) (f n) 0) (union_over_lt n s f k (λ i l. h i (le_step l))) (cond_lt (member s n) k (f n) (h n (le_refl (suc n))))

-- a subset gives a subset
pub union_over_mono : (n s t : ℕ) (f : ℕ → ℕ) → subset s t ≡ true → subset (union_over n s f) (union_over n t f) ≡ true
union_over_mono n s t f h =
    subset_of (union_over n s f) (union_over n t f)
    (λ j m. let w = union_over_found n s f j m in union_over_intro n t f j w.0 w.1 (subset_member s t h w.0 w.2) w.3)

-- the union holds the set of each member
pub union_over_above : (n s : ℕ) (f : ℕ → ℕ) (i : ℕ) → i < n → member s i ≡ true → subset (f i) (union_over n s f) ≡ true
union_over_above n s f i l m = subset_of (f i) (union_over n s f) (λ j k. union_over_intro n s f j i l m k)

-- and lies in each set that holds them
pub union_over_least : (n s : ℕ) (f : ℕ → ℕ) (t : ℕ) → ((i : ℕ) → i < n → member s i ≡ true → subset (f i) t ≡ true) → subset (union_over n s f) t ≡ true
union_over_least n s f t h =
    subset_of (union_over n s f) t
    (λ j m. let w = union_over_found n s f j m in subset_member (f w.0) t (h w.0 w.1 w.2) j w.3)

-- equal sets at the members, equal unions
pub union_over_ext : (n s : ℕ) (f g : ℕ → ℕ) → ((i : ℕ) → i < n → member s i ≡ true → f i ≡ g i) → union_over n s f ≡ union_over n s g
union_over_ext n s f g h =
    subset_antisym (union_over n s f) (union_over n s g)
    (union_over_least n s f (union_over n s g) (λ i l m. rw (h i l m) (union_over_above n s g i l m)))
    (union_over_least n s g (union_over n s f) (λ i l m. rw (← (h i l m)) (union_over_above n s f i l m)))
