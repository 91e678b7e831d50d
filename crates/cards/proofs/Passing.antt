-- A test of n places in their order, for a loop over them and for a loop over a row of them.
-- Assumes nothing.
use Rattle.std.proofs.Common.{◌≡◌, ℕ, zero, suc, ◌+◌, ◌-◌, ◌<◌, ◌≤◌, Bool, true, false, not, ◌&&◌, ltb, ◌∙◌, subst, ⊎_elim, arith, ltb-false, ltb-true}
use Rattle.sets.specs.Bounded.{nothing, found, first}
use Rattle.sets.proofs.Logic.{decided, and_four, true_not, false_not}
use Rattle.sets.proofs.Bounded.{first_is, first_none}
use Rattle.cards.specs.Checking.{Pass, FirstWrong}

module _ (test : ℕ → Bool) (n : ℕ) where
  pub pass_none : Pass test n 0
  pass_none = record { within = omega arith; right = λ i l. absurd (omega arith) }

  -- r places more
  pub pass_on : (p r : ℕ) → Pass test n p → p + r ≤ n → ((i : ℕ) → i < r → test (p + i) ≡ true) → Pass test n (p + r)
  pass_on p r h room more =
      record {
        within = room;
        right = λ q l.
            ⊎_elim (λ b. h.right q (ltb-true q p b))
            (λ b.
            let k : p ≤ q = ltb-false q p b in
            let e : p + (q - p) ≡ q = omega arith in
            subst (λ (i : ℕ). test i ≡ true) e (more (q - p) (omega arith)))
            (decided (ltb q p));
      }

  -- one more
  pub pass_more : (p : ℕ) → Pass test n p → p < n → test p ≡ true → Pass test n (p + 1)
  pass_more p h l e = pass_on p 1 h (omega arith) (λ i b. let z : p ≡ p + i = omega arith in subst (λ (q : ℕ). test q ≡ true) z e)

  -- four more
  pub pass_four : (p : ℕ) → Pass test n p → p + 4 ≤ n → (test p && test (p + 1) && test (p + 2) && test (p + 3)) ≡ true → Pass test n (p + 4)
  pass_four p h room e =
      let f = and_four (test p) (test (p + 1)) (test (p + 2)) (test (p + 3)) e in
      let one = pass_more p h (omega arith) f.0 in
      let two = subst (Pass test n) (let z : p + 1 + 1 ≡ p + 2 = omega arith in z) (pass_more (p + 1) one (omega arith) f.1) in
      let three = subst (Pass test n) (let z : p + 2 + 1 ≡ p + 3 = omega arith in z) (pass_more (p + 2) two (omega arith) f.2) in
      subst (Pass test n) (let z : p + 3 + 1 ≡ p + 4 = omega arith in z) (pass_more (p + 3) three (omega arith) f.3)

  -- the loop ends
  pub pass_end : (p : ℕ) → Pass test n p → (p < n → test p ≡ false) → FirstWrong test n p
  pass_end p h e = record { most = h.within; right = h.right; wrong = e }

  -- the first place that fails
  pub pass_stop : (p : ℕ) → Pass test n p → p < n → test p ≡ false → first n (λ q. not (test q)) ≡ found p
  pass_stop p h l e = first_is n (λ q. not (test q)) p l (false_not e) (λ q k. true_not (h.right q k))

  -- none does
  pub pass_all : Pass test n n → first n (λ q. not (test q)) ≡ nothing
  pass_all h = first_none n (λ q. not (test q)) (λ q l. true_not (h.right q l))

  -- a row of m places from `at` on, tested by another name: all pass, or the first wrong one is the first place that fails
  module _ (row : ℕ → Bool) (at m r : ℕ) (same : (j : ℕ) → j < m → test (at + j) ≡ row j) (enough : at + m ≤ n)
      (below : Pass test n at) (ended : FirstWrong row m r) where
    row_passed : Pass test n (at + r)
    row_passed = pass_on at r below (omega (arith, ended.most)) (λ i l. same i (omega (arith, ended.most)) ∙ ended.right i l)

    pub row_stop : r < m → first n (λ q. not (test q)) ≡ found (at + r)
    row_stop l = pass_stop (at + r) row_passed (omega arith) (same r l ∙ ended.wrong l)

    pub row_pass : m ≤ r → Pass test n (at + m)
    row_pass l = let e : r ≡ m = omega (arith, ended.most) in subst (λ (i : ℕ). Pass test n (at + i)) e row_passed

-- a row with one place more in front of it: that place fails, or it passes and the row decides
pub front_wrong : (test : ℕ → Bool) (n : ℕ) → test 0 ≡ false → FirstWrong test n 0
front_wrong test n e = record { most = omega arith; right = λ j l. absurd (omega arith); wrong = λ l. e }

module _ (test row : ℕ → Bool) (n r : ℕ) (same : (j : ℕ) → j < n → test (1 + j) ≡ row j) (front : test 0 ≡ true) (ended : FirstWrong row n r) where
  behind_right : (j : ℕ) → j < 1 + r → test j ≡ true
  behind_right zero l = front
  behind_right (suc j) l =
      let e : 1 + j ≡ suc j = omega arith in
      subst (λ (i : ℕ). test i ≡ true) e (same j (omega (arith, ended.most)) ∙ ended.right j (omega arith))

  pub behind_front : FirstWrong test (1 + n) (1 + r)
  behind_front =
      record {
        most = omega (arith, ended.most);
        right = behind_right;
        wrong = λ l. let k : r < n = omega arith in same r k ∙ ended.wrong k;
      }
