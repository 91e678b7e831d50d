-- A list's sets, put into a family one after the other.
-- Assumes nothing.
use mathlib.Core.Path.{◌≡◌, sym, ap, ap₂, ◌∙◌}
use mathlib.Core.Logic.{⊎_elim}
use mathlib.Core.Bool.{Bool, ◌||◌, or-false}
use mathlib.Core.List.{List}
use Prim.Native.Nat.{ℕ, ◌+◌, ◌/◌, ◌%◌, ◌^◌, ◌<◌}
use native.Mathlib.Omega.{arith}
use lib.Dec.{eqb, ltb}
use lib.ListN.{length, get_or, set, take, replicate, length-replicate, get_or-replicate, get_or-eq_default}
use borrow.Author.Tests.{eqb-true, eqb-false, eq-eqb, ne_eqb, ltb-true, ltb-false}
use Rattle.sets.specs.Mask.{member, union}
use Rattle.sets.specs.Family.{listed}
use Rattle.sets.proofs.Logic.{decided}
use Rattle.sets.proofs.Mask.{member_zero, member_or, member_single, member_single_other}
use Rattle.sets.proofs.Family.{at_mem, listed_none, listed_more}
use Rattle.families.specs.Bits.{lane_sets, has, Holding}
use Rattle.families.proofs.Lanes.{shift_one, lane_there, has_stored, has_kept}

-- a family cleared has as many words
pub cleared_length : (n : ℕ) (bits : List ℕ) → bits ≡ replicate n 0 → length bits ≡ n
cleared_length n bits e = ap length e ∙ length-replicate n 0

-- no lane of it has a set
pub cleared_at : (n : ℕ) (bits : List ℕ) → bits ≡ replicate n 0 → (m : ℕ) → get_or bits m 0 ≡ 0
cleared_at n bits e m =
    ⊎_elim (λ b. ap (λ (x : List ℕ). get_or x m 0) e ∙ get_or-replicate n m 0 0 (ltb-true m n b))
    (λ b. get_or-eq_default bits 0 (omega (arith, cleared_length n bits e, ltb-false m n b))) (decided (ltb m n))

pub none_inserted : (list bits : List ℕ) → bits ≡ replicate (length bits) 0 → (s : ℕ) → has bits s ≡ listed (take 0 list) s
none_inserted list bits e s =
    ap (λ (x : ℕ). member x (s % lane_sets)) (cleared_at (length bits) bits e (s / lane_sets)) ∙ member_zero (s % lane_sets) ∙ sym (listed_none list s)

-- the mask at i has a lane
pub mask_lane : (n : ℕ) (list bits : List ℕ) → Holding n list bits → (i : ℕ) → i < length list → get_or list i 0 / lane_sets < length bits
mask_lane n list bits h i l = omega (arith, lane_there n (get_or list i 0) (h.masks (get_or list i 0) (at_mem list i l)), h.size)

pub single_is : (k t : ℕ) → member (2 ^ k) t ≡ eqb k t
single_is k t =
    ⊎_elim (λ e. ap (member (2 ^ k)) (sym (eqb-true k t e)) ∙ member_single k ∙ sym e)
    (λ e. member_single_other k t (λ d. eqb-false k t e (sym d)) ∙ sym e) (decided (eqb k t))

same_place : (m s : ℕ) → m / lane_sets ≡ s / lane_sets → eqb (m % lane_sets) (s % lane_sets) ≡ eqb m s
same_place m s d =
    ⊎_elim (λ e. e ∙ sym (eq-eqb m s (omega (arith, eqb-true (m % lane_sets) (s % lane_sets) e))))
    (λ e. e ∙ sym (ne_eqb m s (λ f. eqb-false (m % lane_sets) (s % lane_sets) e (ap (λ (x : ℕ). x % lane_sets) f)))) (decided (eqb (m % lane_sets) (s % lane_sets)))

-- one set put in
pub has_insert : (bits : List ℕ) (m s : ℕ) → m / lane_sets < length bits → has (set bits (m / lane_sets) (union (get_or bits (m / lane_sets) 0) (2 ^ (m % lane_sets)))) s ≡ (has bits s || eqb m s)
has_insert bits m s h =
    let word : ℕ = union (get_or bits (m / lane_sets) 0) (2 ^ (m % lane_sets)) in
    ⊎_elim
    (λ e. let d : m / lane_sets ≡ s / lane_sets = eqb-true (m / lane_sets) (s / lane_sets) e in
    has_stored bits (m / lane_sets) word s h d
    ∙ member_or (get_or bits (m / lane_sets) 0) (2 ^ (m % lane_sets)) (s % lane_sets)
    ∙ ap₂ ◌||◌ (ap (λ (x : ℕ). member (get_or bits x 0) (s % lane_sets)) d) (single_is (m % lane_sets) (s % lane_sets) ∙ same_place m s d))
    (λ e. has_kept bits (m / lane_sets) word s (eqb-false (m / lane_sets) (s / lane_sets) e)
    ∙ sym (or-false (has bits s))
    ∙ ap (λ (b : Bool). has bits s || b) (sym (ne_eqb m s (λ f. eqb-false (m / lane_sets) (s / lane_sets) e (ap (λ (x : ℕ). x / lane_sets) f)))))
    (decided (eqb (m / lane_sets) (s / lane_sets)))

-- one mask more
pub insert_more : (list bits : List ℕ) (i one : ℕ) → one ≡ 2 ^ (get_or list i 0 % lane_sets) → i < length list → get_or list i 0 / lane_sets < length bits → ((s : ℕ) → has bits s ≡ listed (take i list) s) →
    (s : ℕ) → has (set bits (get_or list i 0 / lane_sets) (union (get_or bits (get_or list i 0 / lane_sets) 0) one)) s ≡ listed (take (i + 1) list) s
insert_more list bits i one e l h f s =
    rw e (has_insert bits (get_or list i 0) s h ∙ ap (λ (b : Bool). b || eqb (get_or list i 0) s) (f s) ∙ sym (listed_more list s i l))

-- what the loop's steps go by
pub ruleset inserting = (mask_lane, shift_one, none_inserted)
