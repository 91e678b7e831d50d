-- The sets that hold h, state by state: what a loop over the states makes of a word. No function goes by these laws now; `supersets` goes by
-- `nothing_lacked` (Lanes).
-- Assumes nothing.
use mathlib.Core.Path.{◌≡◌, refl, sym, ap, ap₂, ◌∙◌}
use mathlib.Core.Bool.{Bool, true, false, not, ◌&&◌, ◌||◌, and-true, or-false}
use Prim.Native.Nat.{ℕ, ◌+◌, ◌-◌, ◌^◌, ◌<◌}
use lib.Pow.{pow_pos}
use Rattle.sets.specs.Mask.{member, common}
use Rattle.sets.specs.Bounded.{all}
use Rattle.families.specs.Bits.{lane_sets}
use Rattle.sets.proofs.Logic.{or_right, false_not}
use Rattle.sets.proofs.Bounded.{all_more}
use Rattle.sets.proofs.Mask.{member_zero, member_and, member_rest}

-- t has nothing of what h lacks below i
abbrev pub lacks : ℕ → ℕ → ℕ → Bool
lacks h i t = all i (λ i. member h i || not (member t i))

not_twice : (b : Bool) → not (not b) ≡ b
not_twice true = refl
not_twice false = refl

-- before the first turn
pub haves_none : (h t : ℕ) → t < lane_sets → member (2 ^ lane_sets - 1) t ≡ lacks t 0 h
unfolding all
haves_none h t l = member_rest lane_sets 0 t (pow_pos lane_sets) l ∙ false_not (member_zero t)

-- h has i
pub haves_more : (h i word lacking : ℕ) → lacking < 2 ^ lane_sets → member h i ≡ true → ((t : ℕ) → t < lane_sets → member word t ≡ lacks t i h) → ((t : ℕ) → t < lane_sets → member lacking t ≡ not (member t i)) → (t : ℕ) → t < lane_sets → member (common word ((2 ^ lane_sets - 1) - lacking)) t ≡ lacks t (i + 1) h
haves_more h i word lacking small m w k t l =
    member_and word ((2 ^ lane_sets - 1) - lacking) t
    ∙ ap₂ ◌&&◌ (w t l) (member_rest lane_sets lacking t small l ∙ ap not (k t l) ∙ not_twice (member t i) ∙ sym (ap (λ (b : Bool). member t i || not b) m ∙ or-false (member t i)))
    ∙ sym (all_more i (λ i. member t i || not (member h i)))

-- h lacks i
pub haves_skip : (h i word : ℕ) → member h i ≡ false → ((t : ℕ) → t < lane_sets → member word t ≡ lacks t i h) → (t : ℕ) → t < lane_sets → member word t ≡ lacks t (i + 1) h
haves_skip h i word f w t l =
    w t l ∙ sym (all_more i (λ i. member t i || not (member h i)) ∙ ap (λ (b : Bool). lacks t i h && b) (or_right (member t i) (false_not f)) ∙ and-true (lacks t i h))
