-- Heads and their numbers; the words of the places, and their masks.
-- Assumes nothing.
use mathlib.Core.Path.{◌≡◌, ◌∙◌, sym}
use mathlib.Core.Logic.{⊎_elim}
use Prim.Native.Nat.{ℕ, ◌+◌, ◌*◌, ◌/◌, ◌%◌, ◌^◌, ◌<◌}
use native.Mathlib.Omega.{arith}
use borrow.Author.Tests.{eq-eqb, ne_eqb, eqb-true, eqb-false}
use Rattle.sets.proofs.Logic.{decided}
use Rattle.games.specs.Format.{kind_table, kind_at, head_values, head_actions_at, head_observations_at, low_values, number_values, action_values, head_marked_at, bit_values, head_spare_at}
use Rattle.games.specs.Fields.{low_field, head_states, head_actions, head_observations, head_marked}
use Rattle.games.specs.Places.{shape_of, parked_words, Within, Limited}
use Rattle.games.specs.declared.State.{State}
use Rattle.games.specs.declared.Action.{Action}
use Rattle.games.specs.declared.Observation.{Observation}
use Rattle.games.specs.declared.Shape.{Shape}
use Rattle.games.specs.declared.Place.{Place}
use Rattle.games.specs.declared.Place.TheVariants.{Start, Bad, Parked, Shown, Move}
use Rattle.games.proofs.Places.{marked_word, unmarked_word, parked_words_lem}
use Rattle.tables.specs.Layout.{head_word, head_top, bare_word}

-- ---- heads

-- the bit of a head is 1 where it marks parked states
marks : (w : ℕ) → parked_words (shape_of w) ≡ w / head_marked_at % bit_values
marks w =
    ⊎_elim (λ b. omega (arith, marked_word (shape_of w) b, eqb-true (w / head_marked_at % bit_values) 1 b))
    (λ b. omega (arith, unmarked_word (shape_of w) b, eqb-false (w / head_marked_at % bit_values) 1 b))
    (decided (head_marked w))

-- a head is that of its numbers and its bit: those below the bit, and what is from the bit up
below_bit : (w : ℕ) → w ≡ w / head_marked_at * head_marked_at + head_observations w * head_observations_at + head_actions w * head_actions_at + head_states w
below_bit w = omega arith

from_bit : (w : ℕ) → w / head_marked_at ≡ w / head_spare_at * bit_values + w / head_marked_at % bit_values
from_bit w = omega arith

pub head_back : (w : ℕ) → w / head_spare_at ≡ head_top → head_word (shape_of w) ≡ w
head_back w e = omega (arith, marks w, from_bit w, below_bit w)

-- its numbers and its bit, one after the other
module _ (n a o m : ℕ) (small : n < head_values) where
  abbrev head_of : ℕ
  head_of = kind_table * kind_at + m * head_marked_at + o * head_observations_at + a * head_actions_at + n

  states_of : head_states head_of ≡ n
  states_of = omega arith

  actions_of : a < head_values → head_actions head_of ≡ a
  actions_of h = omega arith

  observations_of : a < head_values → o < head_values → head_observations head_of ≡ o
  observations_of h k = omega arith

  bit_of : a < head_values → o < head_values → m < bit_values → head_of / head_marked_at % bit_values ≡ m
  bit_of h k l = omega arith

module _ (s : Shape) (l : Limited s) where
  bit_back : head_word s / head_marked_at % bit_values ≡ parked_words s
  bit_back =
      bit_of s.states s.actions s.observations (parked_words s) (omega arith) (omega arith) (omega arith) (omega (arith, parked_words_lem s))

  marked_back : head_marked (head_word s) ≡ s.marked
  marked_back =
      ⊎_elim (λ b. eq-eqb (head_word s / head_marked_at % bit_values) 1 (bit_back ∙ marked_word s b) ∙ sym b)
      (λ b. ne_eqb (head_word s / head_marked_at % bit_values) 1 (λ e. omega (arith, e, bit_back, unmarked_word s b)) ∙ sym b)
      (decided s.marked)

  -- they are those that it was made of
  pub shape_back : shape_of (head_word s) ≡ s
  shape_back =
      let n = s.states in
      let a = s.actions in
      let o = s.observations in
      let m = parked_words s in
      let states = states_of n a o m (omega arith) in
      let actions = actions_of n a o m (omega arith) (omega arith) in
      let observations = observations_of n a o m (omega arith) (omega arith) (omega arith) in
      let marked = marked_back in
      λ i. record { states = states i; actions = actions i; observations = observations i; marked = marked i }

  pub head_above : head_word s / head_spare_at ≡ head_top
  head_above = omega (arith, parked_words_lem s)

  -- ---- words

  -- a word's numbers fit their fields
  pub shown_fits : (x : Place) (j : Observation) → Within s x → x ≡ Shown j → j.0 < number_values
  shown_fits x j h e = let k : Within s (Shown j) = rw e at h in omega arith

  pub move_fits : (x : Place) (a : Action) (i : State) → Within s x → x ≡ Move a i → (i.0 < number_values) × (a.0 < action_values)
  move_fits x a i h e = let k : Within s (Move a i) = rw e at h in omega arith

  -- a word without its mask leaves room for it
  pub bare_small : (x : Place) → Within s x → bare_word x + low_values < 2 ^ 32
  unfolding bare_word
  bare_small Start h = omega arith
  bare_small Bad h = omega arith
  bare_small Parked h = omega arith
  bare_small (Shown j) h = omega arith
  bare_small (Move a i) h = omega arith

-- a word's mask comes back
pub mask_back : (x : Place) (m : ℕ) → m < low_values → low_field (bare_word x + m) ≡ m
unfolding bare_word
mask_back Start m h = omega arith
mask_back Bad m h = omega arith
mask_back Parked m h = omega arith
mask_back (Shown j) m h = omega arith
mask_back (Move a i) m h = omega arith
