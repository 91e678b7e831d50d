-- What the code does with the lists' families as bits (no part of what the entries say).
-- Assumes nothing.
use Rattle.std.specs.Prelude.{◌≡◌, Bool, true, false, ◌&&◌, ◌||◌, ℕ, ◌^◌, ◌≤◌, ◌<◌, length, get_or, Err}
use mathlib.Core.Path.{refl, sym}
use mathlib.Core.Logic.{⊎_elim}
use mathlib.Core.List.{List, Memᴰ}
use Rattle.sets.specs.Mask.{member}
use Rattle.sets.specs.Family.{Family, holds, maximal, join, meet}
use Rattle.sets.proofs.Logic.{and_left, and_right, and_intro, or_cases, or_left, or_right}
use Rattle.sets.proofs.Family.{join_maximal, meet_maximal}
use Rattle.games.specs.Format.{max_states}
use Rattle.games.specs.Answers.{leaves}
use Rattle.games.specs.declared.Refusal.{Refusal}
use Rattle.lists.specs.Lists.{fitted, outcome}

-- the lists have only masks of n states
pub record Masks (n : ℕ) (k l : List ℕ) : Type 0 where
  pub width : n ≤ max_states
  pub first : (s : ℕ) → Memᴰ s k → s < 2 ^ n
  pub second : (s : ℕ) → Memᴰ s l → s < 2 ^ n

-- whatever is made of the two lists, it is what the entry leaves, where it fits
abbrev pub Allows : ℕ → List ℕ → List ℕ → Type 0
Allows n k l = (op : List ℕ → List ℕ → List ℕ) (d : List ℕ) → outcome op n k l d ≡ fitted (op k l) d

-- whatever is made of them, the entry refuses for this
abbrev pub Refuses : ℕ → List ℕ → List ℕ → Refusal → Type 0
Refuses n k l refusal = (op : List ℕ → List ℕ → List ℕ) (d : List ℕ) → outcome op n k l d ≡ leaves (Err refusal) d

-- the sets kept of what the two lists hold
abbrev pub held : (Bool → Bool → Bool) → List ℕ → List ℕ → Family
held keeps k l s = keeps (holds k s) (holds l s)

-- each word of the third family has the sets kept of those of the other two
pub record Merged (keeps : Bool → Bool → Bool) (a b r : List ℕ) : Type 0 where
  pub size : length r ≡ length a
  pub words : (i t : ℕ) → i < length a → member (get_or r i 0) t ≡ keeps (member (get_or a i 0) t) (member (get_or b i 0) t)

-- what makes one list of two: a set that neither holds is not kept; where more is held, no less is kept; and the maximal sets of those kept are the list made
pub record Combines (keeps : Bool → Bool → Bool) (made : ℕ → List ℕ → List ℕ → List ℕ) : Type 0 where
  pub none : keeps false false ≡ false
  pub grows : (p q x y : Bool) → (p ≡ true → x ≡ true) → (q ≡ true → y ≡ true) → keeps p q ≡ true → keeps x y ≡ true
  pub tops : (n : ℕ) (k l : List ℕ) → Masks n k l → maximal n (held keeps k l) ≡ made n k l

abbrev pub either : Bool → Bool → Bool
either p q = p || q

abbrev pub both : Bool → Bool → Bool
both p q = p && q

pub join_laws : Combines either join
join_laws = record {
  none = refl;
  grows = λ p q x y f g e. ⊎_elim (λ a. or_left y (f a)) (λ a. or_right x (g a)) (or_cases p q e);
  tops = λ n k l m. sym (join_maximal n k l m.first m.second);
}

pub meet_laws : Combines both meet
meet_laws = record {
  none = refl;
  grows = λ p q x y f g e. and_intro (f (and_left p q e)) (g (and_right p q e));
  tops = λ n k l m. sym (meet_maximal n k l m.first m.second);
}
