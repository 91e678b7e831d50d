-- Laws of families of sets, their maximal sets, and the lists that stand for them.
-- Assumes nothing.
use mathlib.Core.Path.{◌≡◌, refl, sym, ap, ◌∙◌, subst}
use mathlib.Core.Logic.{⊎_elim}
use mathlib.Core.Bool.{true, false, not, ◌&&◌, ◌||◌, beq, false≢true, or-false, or_assoc, Bool}
use mathlib.Core.List.{List, [], ◌∷◌, ◌++◌, Memᴰ}
use Prim.Native.Nat.{ℕ, zero, suc, ◌+◌, ◌^◌, ◌≤◌, ◌<◌, suc-le-suc}
use native.Mathlib.Nat.{le_of_eq, le_trans, le_of_suc-le-suc, not-suc-le-zero, zero-lt-suc}
use native.Mathlib.Omega.{arith}
use lib.Dec.{eqb}
use native.Mathlib.Numerals.{add-one}
use lib.ListN.{length, get_or, take}
use lib.Seq.{take-suc}
use lib.Pow.{pow_pos}
use borrow.Author.Tests.{eqb-true, eqb-false, eq-eqb, not-true}
use Rattle.sets.specs.Mask.{common, subset, member}
use Rattle.sets.specs.Bounded.{all, select}
use Rattle.sets.specs.Family.{Family, DownClosed, same, is_maximal, maximal, listed, holds, cut, cuts, join, meet, Antichain, Ascending}
use Rattle.sets.proofs.Logic.{decided, clash, refuted, affirmed, same_truth, and_left, and_right, and_intro, or_cases, or_left, or_right, false_not, implies_intro, implies_at, implies_fails, beq_same, same_beq, beq_differ}
use Rattle.sets.proofs.Bounded.{all_at, all_intro, all_fails, mem_select, select_mem, select_ascending, select_length, count_le, ascending_same}
use Rattle.sets.proofs.Mask.{subset_refl, subset_trans, subset_antisym, subset_le, subset_witness, subset_add, add_subset, add_lt, common_lt, common_subset_left, common_subset_right, common_greatest}

-- every subset of a set of the family below 2 ^ n is in it
abbrev pub DownBelow : ℕ → Family → Type 0
DownBelow n F = (s t : ℕ) → s < 2 ^ n → F s ≡ true → subset t s ≡ true → F t ≡ true

-- the sets of the list are sets of states below n
abbrev pub Within : ℕ → List ℕ → Type 0
Within n l = (t : ℕ) → Memᴰ t l → t < 2 ^ n

-- ---- same

-- the same: equal at each set
pub same_at : (n : ℕ) (F G : Family) → same n F G ≡ true → (s : ℕ) → s < 2 ^ n → F s ≡ G s
unfolding same
same_at n F G h s l = beq_same (F s) (G s) (all_at (2 ^ n) (λ s. beq (F s) (G s)) h s l)

-- equal at each set: the same
pub same_intro : (n : ℕ) (F G : Family) → ((s : ℕ) → s < 2 ^ n → F s ≡ G s) → same n F G ≡ true
unfolding same
same_intro n F G h = all_intro (2 ^ n) (λ s. beq (F s) (G s)) (λ s l. same_beq (h s l))

-- where they are not the same, they differ at this set
pub same_witness : (n : ℕ) (F G : Family) → same n F G ≡ false → (s : ℕ) × (s < 2 ^ n) × (F s ≡ G s → ⊥)
unfolding same
same_witness n F G h =
    let w = all_fails (2 ^ n) (λ s. beq (F s) (G s)) h in
    (w.0, w.1, beq_differ (F w.0) (G w.0) w.2)

-- ---- one maximal set

-- a maximal set is in the family
pub is_maximal_in : (n : ℕ) (F : Family) (s : ℕ) → is_maximal n F s ≡ true → F s ≡ true
unfolding is_maximal
is_maximal_in n F s h = and_left (F s) (all (2 ^ n) (λ t. not (F t && subset s t) || eqb t s)) h

-- a set of the family that holds it is it
pub is_maximal_only : (n : ℕ) (F : Family) (s : ℕ) → is_maximal n F s ≡ true → (t : ℕ) → t < 2 ^ n → F t ≡ true → subset s t ≡ true → t ≡ s
unfolding is_maximal
is_maximal_only n F s h t l f k =
    eqb-true t s
    (implies_at (F t && subset s t) (eqb t s)
    (all_at (2 ^ n) (λ t. not (F t && subset s t) || eqb t s) (and_right (F s) (all (2 ^ n) (λ t. not (F t && subset s t) || eqb t s)) h) t l)
    (and_intro f k))

-- a set of the family that no other holds is maximal
pub is_maximal_intro : (n : ℕ) (F : Family) (s : ℕ) → F s ≡ true → ((t : ℕ) → t < 2 ^ n → F t ≡ true → subset s t ≡ true → t ≡ s) → is_maximal n F s ≡ true
unfolding is_maximal
is_maximal_intro n F s f h =
    and_intro f
    (all_intro (2 ^ n) (λ t. not (F t && subset s t) || eqb t s)
    (λ t l. implies_intro (F t && subset s t) (eqb t s)
    (λ e. eq-eqb t s (h t l (and_left (F t) (subset s t) e) (and_right (F t) (subset s t) e)))))

-- a set of the family that is not maximal lies in another
pub is_maximal_beaten : (n : ℕ) (F : Family) (s : ℕ) → F s ≡ true → is_maximal n F s ≡ false → (t : ℕ) × (t < 2 ^ n) × (F t ≡ true) × (subset s t ≡ true) × (t ≡ s → ⊥)
unfolding is_maximal
is_maximal_beaten n F s f h =
    ⊎_elim (λ a. clash (and_intro f a) h)
    (λ a. let w = all_fails (2 ^ n) (λ t. not (F t && subset s t) || eqb t s) a in
    let v = implies_fails (F w.0 && subset s w.0) (eqb w.0 s) w.2 in
    (w.0, w.1, and_left (F w.0) (subset s w.0) v.0, and_right (F w.0) (subset s w.0) v.0, eqb-false w.0 s v.1))
    (decided (all (2 ^ n) (λ t. not (F t && subset s t) || eqb t s)))

-- what code tests: no state can be put in
pub maximal_by_states : (n : ℕ) (F : Family) → DownBelow n F → (s : ℕ) → s < 2 ^ n → is_maximal n F s ≡ (F s && all n (λ i. member s i || not (F (s + 2 ^ i))))
maximal_by_states n F d s h =
    same_truth (is_maximal n F s) (F s && all n (λ i. member s i || not (F (s + 2 ^ i))))
    (λ m. and_intro (is_maximal_in n F s m)
    (all_intro n (λ i. member s i || not (F (s + 2 ^ i)))
    (λ i l. ⊎_elim (λ a. or_left (not (F (s + 2 ^ i))) a)
    (λ a. or_right (member s i) (false_not (refuted (F (s + 2 ^ i))
    (λ f. let e : s + 2 ^ i ≡ s = is_maximal_only n F s m (s + 2 ^ i) (add_lt s i a n h l) f (subset_add s i a) in omega (arith, pow_pos i)))))
    (decided (member s i)))))
    (λ m. is_maximal_intro n F s (and_left (F s) (all n (λ i. member s i || not (F (s + 2 ^ i)))) m)
    (λ t l f k. subset_antisym t s
    (affirmed (subset t s)
    (λ c. let w = subset_witness n t s l c in
    ⊎_elim (λ a. clash a w.3)
    (λ a. clash (d t (s + 2 ^ w.0) l f (add_subset s w.0 w.3 t k w.2)) (not-true (F (s + 2 ^ w.0)) a))
    (or_cases (member s w.0) (not (F (s + 2 ^ w.0)))
    (all_at n (λ i. member s i || not (F (s + 2 ^ i))) (and_right (F s) (all n (λ i. member s i || not (F (s + 2 ^ i)))) m) w.0 w.1))))
    k))

-- ---- the list of maximal sets

-- what a listed set is
pub mem_maximal : (n : ℕ) (F : Family) (s : ℕ) → Memᴰ s (maximal n F) → (s < 2 ^ n) × (F s ≡ true) × ((t : ℕ) → t < 2 ^ n → F t ≡ true → subset s t ≡ true → t ≡ s)
unfolding maximal
mem_maximal n F s m =
    let w = mem_select (2 ^ n) (is_maximal n F) s m in
    (w.0, is_maximal_in n F s w.1, is_maximal_only n F s w.1)

-- such a set is listed
pub maximal_mem : (n : ℕ) (F : Family) (s : ℕ) → s < 2 ^ n → F s ≡ true → ((t : ℕ) → t < 2 ^ n → F t ≡ true → subset s t ≡ true → t ≡ s) → Memᴰ s (maximal n F)
unfolding maximal
maximal_mem n F s l f h = select_mem (2 ^ n) (is_maximal n F) s l (is_maximal_intro n F s f h)

-- the same, by the test
pub maximal_is : (n : ℕ) (F : Family) (s : ℕ) → s < 2 ^ n → is_maximal n F s ≡ true → Memᴰ s (maximal n F)
unfolding maximal
maximal_is n F s l m = select_mem (2 ^ n) (is_maximal n F) s l m

-- the listed sets are sets of states below n
pub maximal_within : (n : ℕ) (F : Family) → Within n (maximal n F)
maximal_within n F t m = (mem_maximal n F t m).0

-- their masks ascend
pub maximal_ascending : (n : ℕ) (F : Family) → Ascending (maximal n F)
unfolding maximal
maximal_ascending n F = select_ascending (2 ^ n) (is_maximal n F)

-- none lies in another
pub maximal_antichain : (n : ℕ) (F : Family) → Antichain (maximal n F)
maximal_antichain n F s t a b k =
    let v = mem_maximal n F t b in
    sym ((mem_maximal n F s a).2 t v.0 v.1 k)

-- there are at most 2 ^ n
pub maximal_length : (n : ℕ) (F : Family) → length (maximal n F) ≤ 2 ^ n
unfolding maximal
maximal_length n F = le_trans (le_of_eq (select_length (2 ^ n) (is_maximal n F))) (count_le (2 ^ n) (is_maximal n F))

-- from s a longer and longer set is taken, at most k times
climb : (k n : ℕ) (F : Family) (s : ℕ) → 2 ^ n ≤ k + s → s < 2 ^ n → F s ≡ true → (t : ℕ) × (t < 2 ^ n) × (is_maximal n F t ≡ true) × (subset s t ≡ true)
climb zero n F s b l f = absurd (omega arith)
climb (suc k) n F s b l f =
    ⊎_elim (λ m. (s, l, m, subset_refl s))
    (λ m. let w = is_maximal_beaten n F s f m in
    let o : s ≤ w.0 = subset_le s w.0 w.3 in
    let d : w.0 ≡ s → ⊥ = w.4 in
    let v = climb k n F w.0 (omega arith) w.1 w.2 in
    (v.0, v.1, v.2, subset_trans s w.0 v.0 w.3 v.3))
    (decided (is_maximal n F s))

-- every set of the family lies in a maximal one
pub above : (n : ℕ) (F : Family) (s : ℕ) → s < 2 ^ n → F s ≡ true → (t : ℕ) × (t < 2 ^ n) × (is_maximal n F t ≡ true) × (subset s t ≡ true)
above n F s l f = climb (2 ^ n) n F s (omega arith) l f

-- ---- members by index

-- what stands at an index is a member
pub at_mem : (l : List ℕ) (i : ℕ) → i < length l → Memᴰ (get_or l i 0) l
at_mem [] i h = absurd (not-suc-le-zero h)
at_mem (u ∷ l) zero h = mathlib.Core.List.Memᴰ.head refl
at_mem (u ∷ l) (suc i) h = mathlib.Core.List.Memᴰ.tail (at_mem l i (le_of_suc-le-suc h))

-- what stands at an index of the numbers selected is below the bound, and passes
pub select_in : (m : ℕ) (p : ℕ → Bool) (i : ℕ) → i < length (select m p) → (get_or (select m p) i 0 < m) × (p (get_or (select m p) i 0) ≡ true)
select_in m p i l = mem_select m p (get_or (select m p) i 0) (at_mem (select m p) i l)

-- a member stands at some index
pub mem_at : (l : List ℕ) (t : ℕ) → Memᴰ t l → (i : ℕ) × (i < length l) × (get_or l i 0 ≡ t)
mem_at [] t m = absurd (mathlib.Core.List.Memᴰ.not-nil m)
mem_at (u ∷ l) t m =
    ⊎_elim (λ (e : t ≡ u). (0, zero-lt-suc (length l), sym e))
    (λ (k : Memᴰ t l). let w = mem_at l t k in (suc w.0, suc-le-suc w.1, w.2))
    (mathlib.Core.List.Memᴰ.cases_cons m)

-- ---- a list as a family

-- a set that passes is a member of the list
pub listed_mem : (l : List ℕ) (s : ℕ) → listed l s ≡ true → Memᴰ s l
unfolding listed
listed_mem [] s h = absurd (false≢true h)
listed_mem (t ∷ l) s h =
    ⊎_elim (λ e. mathlib.Core.List.Memᴰ.head (sym (eqb-true t s e))) (λ e. mathlib.Core.List.Memᴰ.tail (listed_mem l s e)) (or_cases (eqb t s) (listed l s) h)

-- a member of the list passes
pub mem_listed : (l : List ℕ) (s : ℕ) → Memᴰ s l → listed l s ≡ true
unfolding listed
mem_listed [] s m = absurd (mathlib.Core.List.Memᴰ.not-nil m)
mem_listed (t ∷ l) s m =
    ⊎_elim (λ (e : s ≡ t). or_left (listed l s) (eq-eqb t s (sym e))) (λ (k : Memᴰ s l). or_right (eqb t s) (mem_listed l s k)) (mathlib.Core.List.Memᴰ.cases_cons m)

-- a set that is held lies in one of the list
pub holds_found : (l : List ℕ) (s : ℕ) → holds l s ≡ true → (t : ℕ) × Memᴰ t l × (subset s t ≡ true)
unfolding holds
holds_found [] s h = absurd (false≢true h)
holds_found (t ∷ l) s h =
    ⊎_elim (λ e. (t, mathlib.Core.List.Memᴰ.head refl, e)) (λ e. let w = holds_found l s e in (w.0, mathlib.Core.List.Memᴰ.tail w.1, w.2)) (or_cases (subset s t) (holds l s) h)

-- a set that lies in one of the list is held
pub holds_intro : (l : List ℕ) (s t : ℕ) → Memᴰ t l → subset s t ≡ true → holds l s ≡ true
unfolding holds
holds_intro [] s t m k = absurd (mathlib.Core.List.Memᴰ.not-nil m)
holds_intro (u ∷ l) s t m k =
    ⊎_elim (λ (e : t ≡ u). or_left (holds l s) (subst (λ (x : ℕ). subset s x ≡ true) e k)) (λ (m' : Memᴰ t l). or_right (subset s u) (holds_intro l s t m' k)) (mathlib.Core.List.Memᴰ.cases_cons m)

-- the list holds its own sets
pub holds_mem : (l : List ℕ) (s : ℕ) → Memᴰ s l → holds l s ≡ true
holds_mem l s m = holds_intro l s s m (subset_refl s)

-- it holds their subsets
pub holds_down : (l : List ℕ) → DownClosed (holds l)
holds_down l s t h k = let w = holds_found l s h in holds_intro l t w.0 w.1 (subset_trans t s w.0 k w.2)

-- two lists, one after the other
pub listed_append : (k l : List ℕ) (s : ℕ) → listed (k ++ l) s ≡ (listed k s || listed l s)
unfolding listed
listed_append [] l s = refl
listed_append (t ∷ k) l s = ap (λ (b : Bool). eqb t s || b) (listed_append k l s) ∙ sym (or_assoc (eqb t s) (listed k s) (listed l s))

-- the same for what they hold
pub holds_append : (k l : List ℕ) (s : ℕ) → holds (k ++ l) s ≡ (holds k s || holds l s)
unfolding holds
holds_append [] l s = refl
holds_append (t ∷ k) l s = ap (λ (b : Bool). subset s t || b) (holds_append k l s) ∙ sym (or_assoc (subset s t) (holds k s) (holds l s))

-- the front of a list, as code goes through it: before the first turn
pub listed_none : (l : List ℕ) (s : ℕ) → listed (take 0 l) s ≡ false
unfolding listed
listed_none l s = refl

-- one turn
pub listed_more : (l : List ℕ) (s i : ℕ) → i < length l → listed (take (i + 1) l) s ≡ (listed (take i l) s || eqb (get_or l i 0) s)
unfolding listed
listed_more l s i h =
    ap (λ (k : List ℕ). listed k s) (ap (λ (j : ℕ). take j l) (add-one i) ∙ take-suc l i 0 h)
    ∙ listed_append (take i l) (get_or l i 0 ∷ []) s ∙ ap (λ (b : Bool). listed (take i l) s || b) (or-false (eqb (get_or l i 0) s))

-- before the first turn
pub holds_none : (l : List ℕ) (s : ℕ) → holds (take 0 l) s ≡ false
unfolding holds
holds_none l s = refl

-- one turn
pub holds_more : (l : List ℕ) (s i : ℕ) → i < length l → holds (take (i + 1) l) s ≡ (holds (take i l) s || subset s (get_or l i 0))
unfolding holds
holds_more l s i h =
    ap (λ (k : List ℕ). holds k s) (ap (λ (j : ℕ). take j l) (add-one i) ∙ take-suc l i 0 h)
    ∙ holds_append (take i l) (get_or l i 0 ∷ []) s ∙ ap (λ (b : Bool). holds (take i l) s || b) (or-false (subset s (get_or l i 0)))

-- the set of the list that gives s
pub cut_found : (t : ℕ) (l : List ℕ) (s : ℕ) → cut t l s ≡ true → (u : ℕ) × Memᴰ u l × (common t u ≡ s)
unfolding cut
cut_found t [] s h = absurd (false≢true h)
cut_found t (u ∷ l) s h =
    ⊎_elim (λ e. (u, mathlib.Core.List.Memᴰ.head refl, eqb-true (common t u) s e)) (λ e. let w = cut_found t l s e in (w.0, mathlib.Core.List.Memᴰ.tail w.1, w.2)) (or_cases (eqb (common t u) s) (cut t l s) h)

-- a set of the list that gives s
pub cut_intro : (t : ℕ) (l : List ℕ) (s u : ℕ) → Memᴰ u l → common t u ≡ s → cut t l s ≡ true
unfolding cut
cut_intro t [] s u m e = absurd (mathlib.Core.List.Memᴰ.not-nil m)
cut_intro t (v ∷ l) s u m e =
    ⊎_elim (λ (d : u ≡ v). or_left (cut t l s) (eq-eqb (common t v) s (ap (λ (x : ℕ). common t x) (sym d) ∙ e))) (λ (k : Memᴰ u l). or_right (eqb (common t v) s) (cut_intro t l s u k e)) (mathlib.Core.List.Memᴰ.cases_cons m)

-- the sets, one from each list, that give s
pub cuts_found : (k l : List ℕ) (s : ℕ) → cuts k l s ≡ true → (t : ℕ) × (u : ℕ) × Memᴰ t k × Memᴰ u l × (common t u ≡ s)
unfolding cuts
cuts_found [] l s h = absurd (false≢true h)
cuts_found (t ∷ k) l s h =
    ⊎_elim (λ e. let w = cut_found t l s e in (t, w.0, mathlib.Core.List.Memᴰ.head refl, w.1, w.2)) (λ e. let w = cuts_found k l s e in (w.0, w.1, mathlib.Core.List.Memᴰ.tail w.2, w.3, w.4)) (or_cases (cut t l s) (cuts k l s) h)

-- sets, one from each list, that give s
pub cuts_intro : (k l : List ℕ) (s t u : ℕ) → Memᴰ t k → Memᴰ u l → common t u ≡ s → cuts k l s ≡ true
unfolding cuts
cuts_intro [] l s t u m n e = absurd (mathlib.Core.List.Memᴰ.not-nil m)
cuts_intro (v ∷ k) l s t u m n e =
    ⊎_elim (λ (d : t ≡ v). or_left (cuts k l s) (cut_intro v l s u n (ap (λ (x : ℕ). common x u) (sym d) ∙ e))) (λ (m' : Memᴰ t k). or_right (cut v l s) (cuts_intro k l s t u m' n e)) (mathlib.Core.List.Memᴰ.cases_cons m)

-- ---- the maximal sets stand for the family

-- what the list of the maximal sets holds, for any family
pub maximal_found : (n : ℕ) (F : Family) (s : ℕ) → holds (maximal n F) s ≡ true → (t : ℕ) × (t < 2 ^ n) × (F t ≡ true) × (subset s t ≡ true)
maximal_found n F s h =
    let w = holds_found (maximal n F) s h in
    let v = mem_maximal n F w.0 w.1 in
    (w.0, v.0, v.1, w.2)

-- it holds each subset of a set of the family
pub maximal_holds : (n : ℕ) (F : Family) (s t : ℕ) → t < 2 ^ n → F t ≡ true → subset s t ≡ true → holds (maximal n F) s ≡ true
maximal_holds n F s t l f k =
    let w = above n F t l f in
    holds_intro (maximal n F) s w.0 (maximal_is n F w.0 w.1 w.2) (subset_trans s t w.0 k w.3)

-- a down-closed family is what the list of its maximal sets holds
pub represents : (n : ℕ) (F : Family) → DownBelow n F → (s : ℕ) → s < 2 ^ n → holds (maximal n F) s ≡ F s
represents n F d s l =
    same_truth (holds (maximal n F) s) (F s) (λ h. let w = maximal_found n F s h in d w.0 s w.1 w.2 w.3)
    (λ f. maximal_holds n F s s l f (subset_refl s))

-- each set of F lies in one of G
abbrev pub Covers : ℕ → Family → Family → Type 0
Covers n G F = (s : ℕ) → s < 2 ^ n → F s ≡ true → (t : ℕ) × (t < 2 ^ n) × (G t ≡ true) × (subset s t ≡ true)

cover_mem : (n : ℕ) (F G : Family) → Covers n G F → Covers n F G → (s : ℕ) → Memᴰ s (maximal n F) → Memᴰ s (maximal n G)
cover_mem n F G c d s m =
    let w = mem_maximal n F s m in
    let under : (t : ℕ) → t < 2 ^ n → G t ≡ true → subset s t ≡ true → t ≡ s =
    λ t l g k. let u = d t l g in
    let e : u.0 ≡ s = w.2 u.0 u.1 u.2 (subset_trans s t u.0 k u.3) in
    subset_antisym t s (subst (λ (x : ℕ). subset t x ≡ true) e u.3) k in
    let t = c s w.0 w.1 in
    maximal_mem n G s w.0 (subst (λ (x : ℕ). G x ≡ true) (under t.0 t.1 t.2 t.3) t.2) under

-- families that cover each other have the same maximal sets
pub maximal_covers : (n : ℕ) (F G : Family) → Covers n G F → Covers n F G → maximal n F ≡ maximal n G
maximal_covers n F G c d =
    ascending_same (maximal n F) (maximal n G) (maximal_ascending n F) (maximal_ascending n G) (cover_mem n F G c d) (cover_mem n G F d c)

-- equal families, equal lists of maximal sets
pub maximal_ext : (n : ℕ) (F G : Family) → ((s : ℕ) → s < 2 ^ n → F s ≡ G s) → maximal n F ≡ maximal n G
maximal_ext n F G h =
    maximal_covers n F G (λ s l f. (s, l, sym (h s l) ∙ f, subset_refl s)) (λ s l g. (s, l, h s l ∙ g, subset_refl s))

-- an ascending antichain is the list of the maximal sets of what it holds
pub maximal_self : (n : ℕ) (l : List ℕ) → Within n l → Ascending l → Antichain l → maximal n (holds l) ≡ l
maximal_self n l b a c =
    ascending_same (maximal n (holds l)) l (maximal_ascending n (holds l)) a
    (λ s m. let v = mem_maximal n (holds l) s m in
    let w = holds_found l s v.1 in
    mathlib.Core.List.Memᴰ.cast (sym (v.2 w.0 (b w.0 w.1) (holds_mem l w.0 w.1) w.2)) w.1)
    (λ s m. maximal_mem n (holds l) s (b s m) (holds_mem l s m)
    (λ t h f k. let w = holds_found l t f in
    let e : s ≡ w.0 = c s w.0 m w.1 (subset_trans s t w.0 k w.2) in
    subset_antisym t s (subst (λ (x : ℕ). subset t x ≡ true) (sym e) w.2) k))

-- ---- join and meet

module _ (n : ℕ) (k l : List ℕ) (bk : Within n k) (bl : Within n l) where
  -- join is the list of the maximal sets that either list holds
  pub join_maximal : join n k l ≡ maximal n (λ s. holds k s || holds l s)
  unfolding join
  join_maximal =
      maximal_covers n (λ s. listed k s || listed l s) (λ s. holds k s || holds l s)
      (λ s h f. (
        s,
        h,
        ⊎_elim (λ a. or_left (holds l s) (holds_mem k s (listed_mem k s a))) (λ a. or_right (holds k s) (holds_mem l s (listed_mem l s a))) (or_cases (listed k s) (listed l s) f),
        subset_refl s,
      ))
      (λ s h f. ⊎_elim
      (λ a. let w = holds_found k s a in (w.0, bk w.0 w.1, or_left (listed l w.0) (mem_listed k w.0 w.1), w.2))
      (λ a. let w = holds_found l s a in (w.0, bl w.0 w.1, or_right (listed k w.0) (mem_listed l w.0 w.1), w.2))
      (or_cases (holds k s) (holds l s) f))

  -- meet is the list of the maximal sets that both lists hold
  pub meet_maximal : meet n k l ≡ maximal n (λ s. holds k s && holds l s)
  unfolding meet
  meet_maximal =
      maximal_covers n (cuts k l) (λ s. holds k s && holds l s)
      (λ s h f. let w = cuts_found k l s f in (
        s,
        h,
        and_intro (holds_intro k s w.0 w.2 (subst (λ (x : ℕ). subset x w.0 ≡ true) w.4 (common_subset_left w.0 w.1)))
            (holds_intro l s w.1 w.3 (subst (λ (x : ℕ). subset x w.1 ≡ true) w.4 (common_subset_right w.0 w.1))),
        subset_refl s,
      ))
      (λ s h f. let v = holds_found k s (and_left (holds k s) (holds l s) f) in
      let w = holds_found l s (and_right (holds k s) (holds l s) f) in (
        common v.0 w.0,
        common_lt n v.0 w.0 (bl w.0 w.1),
        cuts_intro k l (common v.0 w.0) v.0 w.0 v.1 w.1 refl,
        common_greatest s v.0 w.0 v.2 w.2,
      ))

  -- what the join holds
  pub join_holds : (s : ℕ) → s < 2 ^ n → holds (join n k l) s ≡ (holds k s || holds l s)
  join_holds s h =
      ap (λ (m : List ℕ). holds m s) join_maximal
      ∙ represents n (λ s. holds k s || holds l s)
      (λ s t h f c. ⊎_elim (λ a. or_left (holds l t) (holds_down k s t a c)) (λ a. or_right (holds k t) (holds_down l s t a c)) (or_cases (holds k s) (holds l s) f))
      s h

  -- what the meet holds
  pub meet_holds : (s : ℕ) → s < 2 ^ n → holds (meet n k l) s ≡ (holds k s && holds l s)
  meet_holds s h =
      ap (λ (m : List ℕ). holds m s) meet_maximal
      ∙ represents n (λ s. holds k s && holds l s)
      (λ s t h f c. and_intro (holds_down k s t (and_left (holds k s) (holds l s) f) c) (holds_down l s t (and_right (holds k s) (holds l s) f) c))
      s h
