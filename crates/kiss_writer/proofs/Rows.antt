-- Laws of loops over numbered pieces of text: those that are written, and those that are counted.
-- Assumes nothing.
use mathlib.Core.Path.{◌≡◌, refl, sym, ap, subst, ◌∙◌}
use mathlib.Core.List.{List, []}
use Prim.Native.Nat.{ℕ, suc, ◌+◌, ◌*◌, ◌≤◌, ◌<◌}
use native.Mathlib.Nat.{suc-mul, mul-le-mul_right}
use native.Mathlib.Numerals.{add-one}
use native.Mathlib.Omega.{arith}
use lib.ListN.{length, length-append}
use Rattle.sets.specs.Bounded.{gather}
use Rattle.text.specs.Puts.{Puts}
use Rattle.text.specs.declared.Writer.{Writer}
use Rattle.text.proofs.Writing.{puts_gathered_none, puts_gathered_more}

-- one piece more, of `width` bytes at most, is no longer than all n of them
inside : (j n width : ℕ) → j < n → j * width + width ≤ n * width
inside j n width l = let h = mul-le-mul_right {m = suc j} {n = n} width l in omega (arith, suc-mul j width)

-- ---- written

-- the pieces below j are written
pub record Below (piece : ℕ → List ℕ) (width j : ℕ) (w v : Writer) : Type 0 where
  pub puts : Puts (gather j piece) w v
  pub most : v.at ≤ w.at + j * width

module _ (piece : ℕ → List ℕ) (width : ℕ) where
  pub below_none : {w : Writer} → Below piece width 0 w w
  below_none = record { puts = puts_gathered_none piece; most = omega arith }

  module _ (j : ℕ) {w v : Writer} (b : Below piece width j w v) where
    -- there is room for one more
    pub below_fits : (n : ℕ) → j < n → v.at + width ≤ w.at + n * width
    below_fits n l = omega (arith, b.most, inside j n width l)

    -- it is written
    pub below_more : {u : Writer} → Puts (piece j) v u × (u.at ≤ v.at + width) → Below piece width (j + 1) w u
    below_more {u} l =
        let h : u.at ≤ v.at + width = l.1 in
        record {
          puts = puts_gathered_more piece j b.puts l.0;
          most = rw (add-one j) (omega (arith, b.most, suc-mul j width));
        }

    -- all of them are; m is their number as the definition has it
    pub below_all : (n m : ℕ) → n ≡ m → j ≤ n → n ≤ j → Puts (gather m piece) w v × (v.at ≤ w.at + m * width)
    below_all n m g h l =
        let e : j ≡ m = omega arith in
        (subst (λ (i : ℕ). Puts (gather i piece) w v) e b.puts, rw (← e) b.most)

-- ---- counted

-- the pieces below j have so many bytes
pub record Counted (piece : ℕ → List ℕ) (width j k : ℕ) : Type 0 where
  pub long : k ≡ length (gather j piece)
  pub most : k ≤ j * width

module _ (piece : ℕ → List ℕ) (width : ℕ) where
  pub counted_none : Counted piece width 0 0
  unfolding gather
  counted_none = record { long = refl; most = omega arith }

  -- the first one is counted
  pub counted_one : (s : ℕ) → s ≡ length (piece 0) → s ≤ width → Counted piece width 1 s
  unfolding gather
  counted_one s e h = record { long = e; most = omega arith }

  module _ (j k : ℕ) (b : Counted piece width j k) where
    -- one more is counted, of so many bytes
    pub counted_more : (s : ℕ) → s ≡ length (piece j) → s ≤ width → Counted piece width (j + 1) (k + s)
    unfolding gather
    counted_more s e h =
        record {
          long = rw (add-one j) (omega (arith, b.long, length-append (gather j piece) (piece j)));
          most = rw (add-one j) (omega (arith, b.most, suc-mul j width));
        }

    -- that one is empty
    pub counted_skip : piece j ≡ [] → Counted piece width (j + 1) k
    counted_skip e =
        let f : k + 0 ≡ k = omega arith in
        subst (λ (x : ℕ). Counted piece width (j + 1) x) f (counted_more 0 (sym (ap length e)) (omega arith))

    -- the sum with one more stays small
    pub counted_fits : (n : ℕ) → j < n → k + width ≤ n * width
    counted_fits n l = omega (arith, b.most, inside j n width l)

    pub counted_all : (n m : ℕ) → n ≡ m → j ≤ n → n ≤ j → (k ≡ length (gather m piece)) × (k ≤ m * width)
    counted_all n m g i l =
        let h : j ≡ m = omega arith in
        (b.long ∙ ap (λ (i : ℕ). length (gather i piece)) h, rw (← h) b.most)
