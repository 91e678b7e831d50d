-- A card written part by part: a row of one word and some more that fills, and the parts one behind the other behind the front.
-- Assumes nothing.
use Rattle.std.proofs.Common.{◌≡◌, ℕ, suc, ◌+◌, ◌-◌, ◌*◌, ◌<◌, ◌≤◌, List, [], ◌∷◌, ◌++◌, length, take, drop, set, sym, refl, ap, ◌∙◌, subst, ap₂, append_assoc, append-nil, mul-le-mul_right, le_antisymm, add-one, arith, length-append, length-drop, length-set, take-append-drop, length-take-le, take_all, drop-drop, take_at}
use native.Mathlib.Nat.{add-sub_cancel_left}
use lib.Seq.{drop-append-add, drop-set-add, set_split}
use borrow.Rule.Slice.PartMut.{put_mid, post_of, drop_put, same_len_mid, mid_len}
use Rattle.sets.specs.Bounded.{gather}
use Rattle.sets.proofs.Fills.{length_values, values_more}
use Rattle.games.specs.Words.{front_length, part_length, card_length}
use Rattle.cards.specs.Card.{cell_place}
use Rattle.cards.proofs.Checked.{part_behind}

-- ---- a row

-- a word, and n words behind it
pub row_length : (n : ℕ) (f : ℕ → ℕ) → suc (length (gather n (λ j. f j ∷ []))) ≡ 1 + n
row_length n f = omega (arith, length_values f n)

-- room for one word and o more, of which j are those of f
pub record Filled (o : ℕ) (f : ℕ → ℕ) (j : ℕ) (out : List ℕ) : Type 0 where
  pub size : length out ≡ 1 + o
  pub front : take j (drop 1 out) ≡ gather j (λ i. f i ∷ [])

module _ (o : ℕ) (f : ℕ → ℕ) where
  pub filled_none : (out : List ℕ) → length out ≡ 1 + o → Filled o f 0 out
  unfolding gather
  filled_none out h = record { size = h; front = refl }

  pub filled_more : (j : ℕ) (out : List ℕ) (x : ℕ) → j < o → x ≡ f j → Filled o f j out → Filled o f (j + 1) (set out (1 + j) x)
  filled_more j out x l e w =
      record {
        size = length-set out (1 + j) x ∙ w.size;
        front =
            ap (λ (d : List ℕ). take (j + 1) d) (drop-set-add 1 out j x)
            ∙ values_more f j (drop 1 out) x (omega (arith, length-drop 1 out, w.size)) w.front e;
      }

  pub filled_end : (j : ℕ) (out : List ℕ) (x : ℕ) → o ≤ j → j ≤ o → Filled o f j out → set out 0 x ≡ x ∷ gather o (λ i. f i ∷ [])
  filled_end j out x l b w =
      let e : j ≡ o = le_antisymm b l in
      set_split out 0 x (omega (arith, w.size))
      ∙ ap (λ (d : List ℕ). x ∷ d)
      (sym (take_all j (drop 1 out) (omega (arith, length-drop 1 out, w.size))) ∙ w.front ∙ ap (λ (n : ℕ). gather n (λ i. f i ∷ [])) e)

-- ---- the parts

-- of m parts for o observations, c stand behind the front
pub record Carded (o m : ℕ) (part : ℕ → List ℕ) (d₀ : List ℕ) (c : ℕ) (d : List ℕ) : Type 0 where
  pub room : card_length m o ≤ length d₀
  pub same : length d ≡ length d₀
  pub front : take (cell_place o c) d ≡ take (front_length o) d₀ ++ gather c part
  pub rest : drop (cell_place o c) d ≡ drop (cell_place o c) d₀
  pub within : c ≤ m

module _ (o m : ℕ) (part : ℕ → List ℕ) (d₀ : List ℕ) where
  pub carded_none : card_length m o ≤ length d₀ → Carded o m part d₀ 0 d₀
  unfolding gather
  carded_none r =
      let f = front_length o in
      let z : f + 0 * part_length o ≡ f = omega arith in
      record {
        room = r;
        same = refl;
        front = ap (λ (n : ℕ). take n d₀) z ∙ sym (append-nil (take f d₀));
        rest = refl;
        within = omega arith;
      }

  -- part c, of `size` words from `at` on
  module _ (c : ℕ) (d : List ℕ) (w : Carded o m part d₀ c d) (h : c < m) (at size : ℕ) (place : at ≡ cell_place o c) (sized : size ≡ part_length o) where
    beyond : at + size ≡ cell_place o (c + 1)
    beyond = ap₂ (λ (x y : ℕ). x + y) place sized ∙ part_behind o c

    pub carded_room : at + size ≤ length d
    carded_room =
        let b = mul-le-mul_right {m = c + 1} {n = m} (part_length o) (omega arith) in
        omega (arith, beyond, b, w.room, w.same)

    pub carded_part : length (take (at + size - at) (drop at d)) ≡ part_length o
    carded_part = mid_len at (at + size) d carded_room ∙ add-sub_cancel_left at size ∙ sized

    pub carded_more : (e : List ℕ) → e ≡ part c → length (part c) ≡ part_length o → Carded o m part d₀ (c + 1) (put_mid at (at + size - at) d e)
    unfolding gather
    carded_more e is parted =
        let end = at + size in
        let f = take (front_length o) d₀ in
        let long : length e ≡ size = ap length is ∙ parted ∙ sym sized in
        let new = put_mid at (end - at) d e in
        record {
          room = w.room;
          same = same_len_mid at (end - at) d e (long ∙ sized ∙ sym carded_part) ∙ w.same;
          front =
              ap (λ (n : ℕ). take n new) (sym beyond)
              ∙ ap (take end) (sym (append_assoc (take at d) e (post_of at (end - at) d)))
              ∙ take_at (take at d ++ e) (post_of at (end - at) d) end (length-append (take at d) e ∙ omega (arith, length-take-le at d (omega (arith, carded_room)), long))
              ∙ ap₂ (λ (x y : List ℕ). x ++ y) (ap (λ (n : ℕ). take n d) place ∙ w.front) is
              ∙ append_assoc f (gather c part) (part c)
              ∙ ap (λ (n : ℕ). f ++ gather n part) (sym (add-one c));
          rest =
              ap (λ (n : ℕ). drop n new) (sym beyond)
              ∙ drop_put at end d e (omega arith) carded_room (long ∙ sym (add-sub_cancel_left at size))
              ∙ sym (drop-drop size at d)
              ∙ ap (drop size) (ap (λ (n : ℕ). drop n d) place ∙ w.rest ∙ ap (λ (n : ℕ). drop n d₀) (sym place))
              ∙ drop-drop size at d₀
              ∙ ap (λ (n : ℕ). drop n d₀) beyond;
          within = omega arith;
        }

  carded_end : (c : ℕ) (d : List ℕ) → Carded o m part d₀ c d → m ≤ c → d ≡ (take (front_length o) d₀ ++ gather m part) ++ drop (card_length m o) d₀
  carded_end c d w h =
      let s : c ≡ m = le_antisymm w.within h in
      sym (take-append-drop (cell_place o c) d)
      ∙ ap₂ (λ (x y : List ℕ). x ++ y) w.front w.rest
      ∙ ap (λ (n : ℕ). (take (front_length o) d₀ ++ gather n part) ++ drop (cell_place o n) d₀) s

-- a card room has room for the front
pub front_within : (m o n : ℕ) → card_length m o ≤ n → front_length o ≤ n
front_within m o n h = omega arith

-- the parts written behind the front, from the room as it came
module _ (o m : ℕ) (part : ℕ → List ℕ) (front : List ℕ) (f : ℕ) (size : f ≡ front_length o) (long : length front ≡ front_length o) (entry exit : List ℕ) (fronted : exit ≡ front) (room : card_length m o ≤ length entry) where
  exit_length : length exit ≡ f
  exit_length = ap length fronted ∙ long ∙ sym size

  pub fronted_same : length (exit ++ drop f entry) ≡ length entry
  fronted_same =
      omega (arith, length-append exit (drop f entry), length-drop f entry, exit_length, front_within m o (length entry) room)

  pub fronted_room : card_length m o ≤ length (exit ++ drop f entry)
  fronted_room = subst (λ (n : ℕ). card_length m o ≤ n) (sym fronted_same) room

  pub carded_whole : (c : ℕ) (d : List ℕ) → Carded o m part (exit ++ drop f entry) c d → m ≤ c → d ≡ (front ++ gather m part) ++ drop (card_length m o) entry
  carded_whole c d w h =
      let parts = m * part_length o in
      carded_end o m part (exit ++ drop f entry) c d w h
      ∙ ap₂ (λ (x y : List ℕ). x ++ y)
      (ap (λ (x : List ℕ). x ++ gather m part) (take_at exit (drop f entry) (front_length o) (exit_length ∙ size) ∙ fronted))
      (ap (λ (n : ℕ). drop (n + parts) (exit ++ drop f entry)) (sym (exit_length ∙ size))
      ∙ drop-append-add exit (drop f entry) parts
      ∙ drop-drop parts f entry
      ∙ ap (λ (n : ℕ). drop (n + parts) entry) size)
