-- What stands at each place of a card.
-- Assumes nothing.
use Rattle.std.proofs.Common.{◌≡◌, ℕ, zero, suc, ◌+◌, ◌-◌, ◌*◌, ◌/◌, ◌%◌, ◌<◌, ◌≤◌, ltb, ap, ◌∙◌, subst, ⊎_elim, add-zero, mod-lt, mod-eq_of_lt, div-lt_iff_lt-mul, div-add-mod', mul-div_cancel, arith, ltb-false, ltb-true, le-ltb, lt-ltb, eq-eqb, ne_eqb}
use native.Mathlib.Nat.{mul-mod_left, mul-add-mod_self_right, mul-add-div_right, div-eq_of_lt}
use Rattle.sets.proofs.Logic.{decided}
use Rattle.games.specs.Words.{front_length, part_length, card_length}
use Rattle.cards.specs.Card.{first_place, cell_place, next_place, at_head, at_first, at_cell, at_next, part_spot, spot_at}

-- ---- the places

module _ (o : ℕ) where
  pub spot_head : (p : ℕ) → p ≡ 0 → spot_at o p ≡ at_head
  unfolding spot_at
  spot_head p e = rw (spot_at, eq-eqb p 0 e)

  pub spot_first : (j : ℕ) → j < o → spot_at o (first_place j) ≡ at_first j
  unfolding spot_at
  spot_first j l =
      let e : first_place j - 1 ≡ j = omega arith in
      rw (spot_at, ne_eqb (first_place j) 0 (λ z. omega arith), lt-ltb (first_place j) (front_length o) (omega arith), e)

  behind : (i : ℕ) → spot_at o (front_length o + i) ≡ part_spot o i
  unfolding spot_at
  behind i =
      let e : front_length o + i - front_length o ≡ i = omega arith in
      rw (spot_at, ne_eqb (front_length o + i) 0 (λ z. omega arith), le-ltb (front_length o + i) (front_length o) (omega arith), e)

  part_own : (i c : ℕ) → i % part_length o ≡ 0 → i / part_length o ≡ c → part_spot o i ≡ at_cell c
  unfolding part_spot
  part_own i c e f = rw (part_spot, eq-eqb (i % part_length o) 0 e, f)

  part_next : (i c j : ℕ) → i % part_length o ≡ 1 + j → i / part_length o ≡ c → part_spot o i ≡ at_next c j
  unfolding part_spot
  part_next i c j e f =
      let k : i % part_length o - 1 ≡ j = omega arith in
      rw (part_spot, ne_eqb (i % part_length o) 0 (λ z. omega arith), f, k)

  pub spot_cell : (c : ℕ) → spot_at o (cell_place o c) ≡ at_cell c
  spot_cell c = behind (c * part_length o) ∙ part_own (c * part_length o) c (mul-mod_left c (part_length o)) (mul-div_cancel c (omega arith))

  pub spot_next : (c j : ℕ) → j < o → spot_at o (next_place o c j) ≡ at_next c j
  spot_next c j l =
      let i = c * part_length o + (1 + j) in
      let e : next_place o c j ≡ front_length o + i = omega arith in
      let turn : i % part_length o ≡ 1 + j = mul-add-mod_self_right c (part_length o) (1 + j) ∙ mod-eq_of_lt (omega arith) in
      let less : (1 + j) / part_length o ≡ 0 = div-eq_of_lt (omega arith) in
      let number : i / part_length o ≡ c = mul-add-div_right (omega arith) c (1 + j) ∙ ap (λ (n : ℕ). c + n) less ∙ add-zero c in
      ap (spot_at o) e ∙ behind i ∙ part_next i c j turn number

-- what holds of each of these holds of every place of a card for m cells
module _ (m o : ℕ) (P : ℕ → Type 0) (head : P 0) (firsts : (j : ℕ) → j < o → P (first_place j))
    (owns : (c : ℕ) → c < m → P (cell_place o c)) (nexts : (c j : ℕ) → c < m → j < o → P (next_place o c j)) where
  early : (p : ℕ) → p < front_length o → P p
  early zero l = head
  early (suc j) l = subst P (let e : first_place j ≡ suc j = omega arith in e) (firsts j (omega arith))

  in_part : (p c r : ℕ) → p ≡ cell_place o c + r → c < m → r < part_length o → P p
  in_part p c zero e l k = subst P (let f : cell_place o c ≡ p = omega arith in f) (owns c l)
  in_part p c (suc j) e l k = subst P (let f : next_place o c j ≡ p = omega arith in f) (nexts c j l (omega arith))

  later : (i : ℕ) → i < m * part_length o → P (front_length o + i)
  later i l =
      in_part (front_length o + i) (i / part_length o) (i % part_length o)
      (let d : i / part_length o * part_length o + i % part_length o ≡ i = div-add-mod' i (part_length o) in omega arith)
      ((div-lt_iff_lt-mul {k = part_length o} {x = i} {y = m} (omega arith)).1 l)
      (mod-lt i {m = part_length o} (omega arith))

  pub every_place : (p : ℕ) → p < card_length m o → P p
  every_place p l =
      ⊎_elim (λ e. early p (ltb-true p (front_length o) e))
      (λ e.
      let k : front_length o ≤ p = ltb-false p (front_length o) e in
      subst P (let f : front_length o + (p - front_length o) ≡ p = omega arith in f) (later (p - front_length o) (omega arith)))
      (decided (ltb p (front_length o)))
