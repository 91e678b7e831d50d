-- Laws of what the search is helped by, as it is made: the lanes of each number of states, the masks.
-- Assumes nothing.
use mathlib.Core.Path.{◌≡◌, sym, ap, ap₂, ◌∙◌, subst}
use mathlib.Core.Logic.{⊎_elim}
use mathlib.Core.Bool.{Bool, cond, ◌&&◌, ◌||◌, or-false}
use mathlib.Core.List.{List}
use Prim.Native.Nat.{ℕ, ◌+◌, ◌-◌, ◌/◌, ◌^◌, ◌≤◌, ◌<◌}
use native.Mathlib.Omega.{arith}
use lib.Dec.{eqb}
use lib.ListN.{length, get_or, set, replicate, length-set}
use lib.Seq.{get_or-set_same, get_or-set_other}
use borrow.Author.Count.{below_none, below_more}
use borrow.Author.Tests.{eqb-true, eqb-false, lt-ltb, le-ltb}
use Rattle.sets.specs.Mask.{member, union, subset}
use Rattle.sets.specs.Bounded.{any, count}
use Rattle.sets.proofs.Logic.{decided, and_false_left}
use Rattle.sets.proofs.Bounded.{any_zero, any_more}
use Rattle.sets.proofs.Mask.{member_zero, member_or}
use Rattle.families.specs.Bits.{lane_states, lane_sets}
use Rattle.families.proofs.Lanes.{shift_one}
use Rattle.games.proofs.Holding.{count_few}
use Rattle.index.proofs.Sizes.{by_ones}
use Rattle.families.proofs.Inserting.{cleared_length, cleared_at, single_is}
use Rattle.games.specs.Format.{max_states}
use Rattle.games.specs.Automaton.{state_count}
use Rattle.index.specs.Index.{stands_in, Layers, mask_count, mask_has, Masks}

-- ---- the lanes of each number of states

pub record Layered (list : List ℕ) (c : ℕ) (layers : List ℕ) : Type 0 where
  pub size : length layers ≡ 1 + max_states
  pub at : (k lane : ℕ) → member (get_or layers k 0) lane ≡ any c (λ i. stands_in k lane (get_or list i 0))

pub layered_none : (list layers : List ℕ) → layers ≡ replicate (1 + max_states) 0 → Layered list 0 layers
layered_none list layers e =
    record {
      size = cleared_length (1 + max_states) layers e;
      at = λ k lane. ap (λ (x : ℕ). member x lane) (cleared_at (1 + max_states) layers e k) ∙ member_zero lane ∙ sym (any_zero (λ i. stands_in k lane (get_or list i 0)));
    }

module _ (list : List ℕ) (c : ℕ) (layers : List ℕ) (w : Layered list c layers) (s : ℕ) (is : s ≡ get_or list c 0) (few : state_count s < 1 + max_states) where
  abbrev old : ℕ
  old = get_or layers (state_count s) 0

  -- one lane put into one layer
  stored : (k lane : ℕ) → member (get_or (set layers (state_count s) (union old (2 ^ (s / lane_sets)))) k 0) lane ≡ (member (get_or layers k 0) lane || stands_in k lane s)
  stored k lane =
      ⊎_elim
      (λ e. let d : state_count s ≡ k = eqb-true (state_count s) k e in
      ap (λ (x : ℕ). member (get_or (set layers (state_count s) (union old (2 ^ (s / lane_sets)))) x 0) lane) (sym d)
      ∙ ap (λ (x : ℕ). member x lane) (get_or-set_same layers (state_count s) (union old (2 ^ (s / lane_sets))) 0 (subst (λ (n : ℕ). state_count s < n) (sym w.size) few))
      ∙ member_or old (2 ^ (s / lane_sets)) lane
      ∙ ap₂ ◌||◌ (ap (λ (x : ℕ). member (get_or layers x 0) lane) d) (single_is (s / lane_sets) lane ∙ sym (ap (λ (b : Bool). b && eqb (s / lane_sets) lane) e)))
      (λ e. ap (λ (x : ℕ). member x lane) (get_or-set_other layers (state_count s) k (union old (2 ^ (s / lane_sets))) 0 (λ q. eqb-false (state_count s) k e (sym q)))
      ∙ sym (ap (λ (b : Bool). member (get_or layers k 0) lane || b) (and_false_left (eqb (s / lane_sets) lane) e) ∙ or-false (member (get_or layers k 0) lane)))
      (decided (eqb (state_count s) k))

  layered_more : Layered list (c + 1) (set layers (state_count s) (union old (2 ^ (s / lane_sets))))
  layered_more =
      record {
        size = length-set layers (state_count s) (union old (2 ^ (s / lane_sets))) ∙ w.size;
        at = λ k lane. stored k lane ∙ ap₂ ◌||◌ (w.at k lane) (ap (stands_in k lane) is) ∙ sym (any_more c (λ i. stands_in k lane (get_or list i 0)));
      }

  -- the layer is told by binary digits
  pub layered_at : (k single : ℕ) → k ≡ state_count s → single ≡ 2 ^ (s / lane_sets) → Layered list (c + 1) (set layers k (union (get_or layers k 0) single))
  layered_at k single d e = rw (d, e) layered_more

pub layered_end : (list : List ℕ) (c : ℕ) (layers : List ℕ) → Layered list c layers → c ≡ length list → Layers list layers
layered_end list c layers w e = record { size = w.size; at = λ k lane. w.at k lane ∙ ap (λ (n : ℕ). any n (λ i. stands_in k lane (get_or list i 0))) e }

-- what the loop's steps go by
pub ruleset layering = (by_ones, count_few, shift_one, layered_end, cleared_length)

-- ---- the masks

pub mask_set : (i t : ℕ) → i < lane_sets → mask_has i t ≡ subset i t
mask_set i t l = ap (λ (b : Bool). cond b (subset i t) (eqb (count lane_states (member t)) (i - lane_sets))) (lt-ltb i lane_sets l)

pub mask_size : (i t : ℕ) → lane_sets ≤ i → mask_has i t ≡ eqb (count lane_states (member t)) (i - lane_sets)
mask_size i t l = ap (λ (b : Bool). cond b (subset i t) (eqb (count lane_states (member t)) (i - lane_sets))) (le-ltb i lane_sets l)

pub record Masking (i : ℕ) (masks : List ℕ) : Type 0 where
  pub size : length masks ≡ mask_count
  pub at : (k : ℕ) → k < i → (t : ℕ) → t < lane_sets → member (get_or masks k 0) t ≡ mask_has k t

pub masking_none : (masks : List ℕ) → length masks ≡ mask_count → Masking 0 masks
masking_none masks e = record { size = e; at = below_none (λ k. (t : ℕ) → t < lane_sets → member (get_or masks k 0) t ≡ mask_has k t) }

module _ (i : ℕ) (masks : List ℕ) (w : Masking i masks) where
  pub masking_more : (x : ℕ) → ((t : ℕ) → t < lane_sets → member x t ≡ mask_has i t) → i < length masks → Masking (i + 1) (set masks i x)
  masking_more x h b =
      record {
        size = length-set masks i x ∙ w.size;
        at =
            below_more (λ k. (t : ℕ) → t < lane_sets → member (get_or (set masks i x) k 0) t ≡ mask_has k t) i
            (λ k l t b. ap (λ (y : ℕ). member y t) (get_or-set_other masks i k x 0 (λ q. absurd (omega (arith, q)))) ∙ w.at k l t b)
            (λ t l. ap (λ (y : ℕ). member y t) (get_or-set_same masks i x 0 b) ∙ h t l);
      }

  pub masking_end : length masks ≤ i → Masks masks
  masking_end b = record { size = w.size; at = λ k l. w.at k (omega (arith, w.size)) }
