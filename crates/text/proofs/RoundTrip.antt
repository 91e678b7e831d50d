-- What stands at a place is read there, and what is read stands there: the round trips of runs of bytes and of decimals.
-- Assumes nothing.
use mathlib.Core.Path.{◌≡◌, refl, sym, ap, ap₂, ◌∙◌}
use mathlib.Core.Logic.{⊎_elim}
use mathlib.Core.Bool.{true, false}
use Rattle.std.specs.Prelude.{Ok}
use mathlib.Core.List.{List, [], ◌∷◌, ◌++◌, append_assoc}
use Prim.Native.Nat.{ℕ, suc, ◌+◌, ◌-◌, ◌*◌, ◌/◌, ◌%◌, ◌≤◌, ◌<◌}
use native.Mathlib.Nat.{add-zero, add-suc, suc-add}
use native.Mathlib.Numerals.{add-one}
use native.Mathlib.Omega.{arith}
use borrow.Author.Tests.{le-ltb, ltb-true, ltb-false, eq-eqb, eqb-true}
use lib.Dec.{eqb, ltb}
use lib.ListN.{length, drop}
use lib.Seq.{drop-drop, get_or-drop}
use Rattle.sets.proofs.Logic.{decided}
use Rattle.text.specs.Text.{Wrote, Stands}
use Rattle.text.specs.Decimal.{digit, decimal, digit_of, digit_at}
use Rattle.text.specs.Read.{wrong, matched, skipped, number, no_number, misplaced, further_digits, number_of, read_decimal}
use Rattle.text.proofs.Writing.{stands_wrote, wrote_stands}
use Rattle.text.proofs.Decimals.{by_digits, digit_of_lem, digit_byte, decimal_small, decimal_large, decimal_longer}
use Rattle.text.proofs.Readers.{placed, well_placed, further_none}

-- a wrong place is no answer
never : {A P : Type 0} (i : ℕ) (a : A) → wrong i ≡ Ok a → P
never i a e = let z : ◌≡◌ {A = ℕ} 0 1 = cc in absurd (omega arith)

-- ---- a literal run of bytes

matched_self : (s : List ℕ) (i : ℕ) (rest : List ℕ) → matched s i (s ++ rest) ≡ Ok (i + length s)
unfolding matched
matched_self [] i rest = rw (add-zero i)
matched_self (b ∷ s) i rest = rw (eq-eqb b b refl, add-suc i (length s), ← (suc-add i (length s))) (matched_self s (suc i) rest)

-- what stands there is passed
pub skip_stands : {s l : List ℕ} {i j : ℕ} → Stands s i l j → skipped s l i ≡ Ok j
unfolding skipped
skip_stands {s} {l} {i} {j} h = rw h.text (matched_self s i (drop j l) ∙ ap (λ (k : ℕ). Ok k) (sym h.next))

matched_is : (s : List ℕ) (i j : ℕ) (l : List ℕ) → matched s i l ≡ Ok j → (j ≡ i + length s) × (l ≡ s ++ drop (length s) l)
unfolding matched
matched_is [] i j l e = (omega (arith, (let q : i ≡ j = cc in q)), refl)
matched_is (b ∷ s) i j [] e = never i j e
matched_is (b ∷ s) i j (c ∷ l) e =
    ⊎_elim (λ (t : eqb c b ≡ true).
    let r = matched_is s (suc i) j l (rw t at e) in
    (omega (arith, r.0), ap₂ (λ (x : ℕ) (y : List ℕ). x ∷ y) (eqb-true c b t) r.1))
    (λ (t : eqb c b ≡ false). never i j (rw t at e))
    (decided (eqb c b))

-- what was passed stands there
pub skip_is : (s l : List ℕ) (i j : ℕ) → skipped s l i ≡ Ok j → Stands s i l j
unfolding skipped
skip_is s l i j e =
    let r = matched_is s i j (drop i l) e in
    record { next = r.0; text = r.1 ∙ rw (drop-drop (length s) i l, r.0) }

-- ---- a number in decimal

further_digit : (most v d j : ℕ) (rest : List ℕ) → d ≤ 9 → misplaced most v d ≡ false → further_digits most v j (digit d ∷ rest) ≡ further_digits most (v * 10 + d) (suc j) rest
unfolding further_digits
further_digit most v d j rest l m = rw (digit_of_lem d l, le-ltb 9 d l, m)

-- a number's digits are read, whatever follows
abbrev ReadBack : ℕ → Type 0
ReadBack n = (most i : ℕ) (rest : List ℕ) → n ≤ most → number_of most i (decimal n ++ rest) ≡ further_digits most n (i + length (decimal n)) rest

reads_small : (n : ℕ) → n < 10 → ReadBack n
unfolding number_of
reads_small n h most i rest m =
    let l : n ≤ 9 = omega arith in
    rw (decimal_small n h, digit_of_lem n l, le-ltb 9 n l, le-ltb most n m, add-one i)

reads_large : (n : ℕ) → 10 ≤ n → ReadBack (n / 10) → ReadBack n
reads_large n h before most i rest m =
    let e : n / 10 * 10 + n % 10 ≡ n = omega arith in
    let front = length (decimal (n / 10)) in
    let p : i + (front + 1) ≡ suc (i + front) = omega arith in
    rw (decimal_longer n h, decimal_large n h, append_assoc, p)
    (before most i ((digit (n % 10) ∷ []) ++ rest) (omega arith)
    ∙ further_digit most (n / 10) (n % 10) (i + front) rest (omega arith) (placed most (n / 10) (n % 10) (omega arith) (omega arith))
    ∙ rw e)

reads : (n : ℕ) → ReadBack n
reads = by_digits ReadBack reads_small reads_large

-- what stands there is read, where no digit follows
pub read_stands : (most n : ℕ) {l : List ℕ} {i j : ℕ} → Stands (decimal n) i l j → n ≤ most → 9 < digit_at l j → read_decimal most l i ≡ number n j
unfolding read_decimal
read_stands most n {l} {i} {j} h m d =
    rw h.text (reads n most i (drop j l) m ∙ rw (← h.next) (further_none most n l j (digit_at l j) refl d))

-- front, then the text l from place i on, is the number n, then the text from place j on, which begins with no digit
record Is (most n i j : ℕ) (front l : List ℕ) : Type 0 where
  forward : i ≤ j
  next : j + length front ≡ i + length (decimal n)
  bounded : n ≤ most
  text : front ++ l ≡ decimal n ++ drop (j - i) l
  stops : 9 < digit_at l (j - i)

module _ (most n j : ℕ) where
  stopped : (v i : ℕ) (l : List ℕ) → v ≤ most → 9 < digit_at l 0 → number v i ≡ number n j → Is most n i j (decimal v) l
  stopped v i l m s h =
      let p : ◌≡◌ {A = ℕ × ℕ} (v, i) (n, j) = cc in
      let a : v ≡ n = ap (λ (x : ℕ × ℕ). x.0) p in
      let b : i ≡ j = ap (λ (x : ℕ × ℕ). x.1) p in
      let z : j - i ≡ 0 = omega arith in
      record { forward = omega arith; next = rw (a, b); bounded = omega arith; text = rw (z, a); stops = rw z s }

  nowhere : {P : Type 0} (i : ℕ) → no_number i ≡ number n j → P
  nowhere i h = never i (n, j) h

  -- one digit more in front
  further : (b v i : ℕ) (l : List ℕ) → digit_of b ≤ 9 → 0 < v → Is most n (suc i) j (decimal (v * 10 + digit_of b)) l → Is most n i j (decimal v) (b ∷ l)
  unfolding digit_at
  further b v i l d z s =
      let w = v * 10 + digit_of b in
      let f : suc i ≤ j = s.forward in
      let k : j - i ≡ suc (j - suc i) = omega arith in
      let q : w / 10 ≡ v = omega arith in
      let r : w % 10 ≡ digit_of b = omega arith in
      let e : decimal w ≡ decimal v ++ (b ∷ []) = decimal_large w (omega arith) ∙ rw (q, r, ← (digit_byte b d)) in
      let g : length (decimal w) ≡ length (decimal v) + 1 = decimal_longer w (omega arith) ∙ rw q in
      record {
        forward = omega arith;
        next = omega (arith, s.next);
        bounded = s.bounded;
        text = rw k (sym (append_assoc (decimal v) (b ∷ []) l) ∙ rw (← e) s.text);
        stops = rw k s.stops;
      }

  further_is : (l : List ℕ) (v i : ℕ) → v ≤ most → further_digits most v i l ≡ number n j → Is most n i j (decimal v) l
  unfolding further_digits digit_at digit_of
  further_is [] v i m h = stopped v i [] m (omega arith) h
  further_is (b ∷ l) v i m h =
      ⊎_elim (λ (t : ltb 9 (digit_of b) ≡ true). stopped v i (b ∷ l) m (ltb-true 9 (digit_of b) t) (rw t at h))
      (λ (t : ltb 9 (digit_of b) ≡ false). ⊎_elim (λ (w : misplaced most v (digit_of b) ≡ true). nowhere i (rw (t, w) at h))
      (λ (w : misplaced most v (digit_of b) ≡ false).
      let p = well_placed most v (digit_of b) w in
      further b v i l (ltb-false 9 (digit_of b) t) p.0 (further_is l (v * 10 + digit_of b) (suc i) p.1 (rw (t, w) at h)))
      (decided (misplaced most v (digit_of b))))
      (decided (ltb 9 (digit_of b)))

  number_is : (l : List ℕ) (i : ℕ) → number_of most i l ≡ number n j → Is most n i j [] l
  unfolding number_of digit_at
  number_is [] i h = nowhere i h
  number_is (b ∷ l) i h =
      ⊎_elim (λ (t : ltb 9 (digit_of b) ≡ true). nowhere i (rw t at h))
      (λ (t : ltb 9 (digit_of b) ≡ false). ⊎_elim (λ (w : ltb most (digit_of b) ≡ true). nowhere i (rw (t, w) at h))
      (λ (w : ltb most (digit_of b) ≡ false).
      let d : digit_of b ≤ 9 = ltb-false 9 (digit_of b) t in
      let s = further_is l (digit_of b) (suc i) (ltb-false most (digit_of b) w) (rw (t, w) at h) in
      let f : suc i ≤ j = s.forward in
      let k : j - i ≡ suc (j - suc i) = omega arith in
      let e : decimal (digit_of b) ≡ b ∷ [] = decimal_small (digit_of b) (omega arith) ∙ rw (← (digit_byte b d)) in
      record {
        forward = omega arith;
        next = omega (arith, s.next, ap length e);
        bounded = s.bounded;
        text = rw k (rw e at s.text);
        stops = rw k s.stops;
      })
      (decided (ltb most (digit_of b))))
      (decided (ltb 9 (digit_of b)))

-- the number n, at most `most`, was read at place i of the text l, up to place j
pub record ReadAs (most : ℕ) (l : List ℕ) (i n j : ℕ) : Type 0 where
  pub stands : Stands (decimal n) i l j
  pub bounded : n ≤ most
  pub stops : 9 < digit_at l j

-- what was read stands there, and no digit follows
pub read_is : (most : ℕ) (l : List ℕ) (i n j : ℕ) → read_decimal most l i ≡ number n j → ReadAs most l i n j
unfolding read_decimal digit_at
read_is most l i n j e =
    let s = number_is most n j (drop i l) i e in
    let f : i ≤ j = s.forward in
    let k : i + (j - i) ≡ j = omega arith in
    record {
      stands = record { next = omega (arith, s.next); text = s.text ∙ rw (drop-drop (j - i) i l, k) };
      bounded = s.bounded;
      stops = rw (get_or-drop i l (j - i) 0, k) at s.stops;
    }

-- no two numbers have the same decimal
pub decimal_injective : (a b : ℕ) → decimal a ≡ decimal b → a ≡ b
unfolding further_digits
decimal_injective a b e =
    let p : number_of (a + b) 0 (decimal a ++ []) ≡ number a (0 + length (decimal a)) = reads a (a + b) 0 [] (omega arith) in
    let q : number_of (a + b) 0 (decimal b ++ []) ≡ number b (0 + length (decimal b)) = reads b (a + b) 0 [] (omega arith) in
    let r : number a (0 + length (decimal a)) ≡ number b (0 + length (decimal b)) = sym p ∙ rw e q in
    let s : ◌≡◌ {A = ℕ × ℕ} (a, 0 + length (decimal a)) (b, 0 + length (decimal b)) = cc in
    ap (λ (x : ℕ × ℕ). x.0) s

-- ---- on the contracts

-- a run of bytes that was written is passed
pub put_then_skip : {s d e : List ℕ} {at r : ℕ} → Wrote s at d r e → r ≤ length d → skipped s e at ≡ Ok r
put_then_skip w h = skip_stands (wrote_stands w h)

-- a number that was written is read, where no digit follows
pub put_then_read : (most n : ℕ) {d e : List ℕ} {at r : ℕ} → Wrote (decimal n) at d r e → r ≤ length d → n ≤ most → 9 < digit_at e r → read_decimal most e at ≡ number n r
put_then_read most n w h m stop = read_stands most n (wrote_stands w h) m stop

-- writing what was read changes nothing
pub read_then_put : (most : ℕ) (l : List ℕ) (i n j : ℕ) → read_decimal most l i ≡ number n j → Wrote (decimal n) i l j l
read_then_put most l i n j e = stands_wrote (read_is most l i n j e).stands
