-- Laws of writing: one piece behind the other, and what then stands in the buffer.
-- Assumes nothing.
use mathlib.Core.Path.{◌≡◌, refl, sym, ap, ◌∙◌}
use mathlib.Core.List.{List, [], ◌∷◌, ◌++◌, append_assoc, append-nil}
use Prim.Native.Nat.{ℕ, suc, ◌+◌, ◌-◌, ◌≤◌, ◌<◌}
use native.Mathlib.Nat.{add-zero, zero-add, add-suc, suc-add}
use native.Mathlib.Numerals.{add-one}
use native.Mathlib.Omega.{arith}
use lib.ListN.{length, get_or, set, take, drop, length-append, length-drop, take-append-drop}
use lib.Seq.{sets, sets-eq, length-sets, take-suc, take_all, length-take-le, drop-length, drop-drop, drop-append_seam, drop_at, get_or-drop}
use Rattle.sets.specs.Bounded.{gather}
use Rattle.text.specs.Text.{Wrote, Stands}
use Rattle.text.specs.Puts.{Puts}
use Rattle.text.specs.declared.Writer.{Writer}
use Rattle.text.specs.Decimal.{digit_of, digit_at}

-- ---- writers

sets_append : (x y d : List ℕ) (at : ℕ) → sets (sets d at x) (at + length x) y ≡ sets d at (x ++ y)
sets_append [] y d at = rw (add-zero at)
sets_append (a ∷ x) y d at = rw (add-suc at (length x), ← (suc-add at (length x))) (sets_append x y (set d at a) (suc at))

-- nothing was written yet
pub wrote_none : {d : List ℕ} {at : ℕ} → Wrote [] at d at d
wrote_none {d} {at} = record { next = sym (add-zero at); stored = refl }

-- x, then y behind it
pub wrote_then : {x y d e f : List ℕ} {at r q : ℕ} → Wrote x at d r e → Wrote y r e q f → Wrote (x ++ y) at d q f
wrote_then {x} {y} {d} {e} {f} {at} {r} {q} v w =
    record { next = omega (arith, length-append x y); stored = w.stored ∙ rw (v.next, v.stored) (sets_append x y d at) }

-- the buffer keeps its length
pub wrote_length : {s d e : List ℕ} {at r : ℕ} → Wrote s at d r e → length e ≡ length d
wrote_length {s} {d} {e} {at} w = rw w.stored (length-sets d at s)

-- a whole text, in a buffer with room for it
pub wrote_front : {s d e : List ℕ} {r : ℕ} → Wrote s 0 d r e → length s ≤ length d → e ≡ s ++ drop (length s) d
wrote_front {s} {d} {e} {r} w l = w.stored ∙ rw (zero-add (length s)) at (sets-eq s d 0 (rw (zero-add (length s)) l))

-- s at once, over a part of the buffer that it fills
pub part_wrote : (s d e : List ℕ) (at : ℕ) → at + length s ≤ length d → e ≡ s ++ drop (length s) (take (at + length s - at) (drop at d))
    → Wrote s at d (at + length s) (take at d ++ (e ++ drop (at + length s - at) (drop at d)))
part_wrote s d e at l is =
    let k : at + length s - at ≡ length s = omega arith in
    let part = take (length s) (drop at d) in
    let long : length part ≡ length s = length-take-le (length s) (drop at d) (omega (arith, length-drop at d)) in
    let none : drop (length s) part ≡ [] = ap (λ (n : ℕ). drop n part) (sym long) ∙ drop-length part in
    let whole : e ≡ s = (rw k at is) ∙ ap (λ (x : List ℕ). s ++ x) none ∙ append-nil s in
    record {
      next = refl;
      stored = rw (whole, k) (ap (λ (x : List ℕ). take at d ++ (s ++ x)) (drop-drop (length s) at d) ∙ sym (append_assoc (take at d) s (drop (at + length s) d)) ∙ sym (sets-eq s d at l));
    }

-- ---- the same of a writer

-- nothing yet
pub puts_none : {w : Writer} → Puts [] w w
puts_none = record { buffer = refl; wrote = wrote_none }

-- x, then y behind it
pub puts_then : {x y : List ℕ} {w v u : Writer} → Puts x w v → Puts y v u → Puts (x ++ y) w u
puts_then a b = record { buffer = b.buffer ∙ a.buffer; wrote = wrote_then a.wrote b.wrote }

-- a loop over the bytes of s: one byte more, and its end
pub puts_more : (s : List ℕ) (i : ℕ) {w v u : Writer} → i < length s → Puts (take i s) w v → Puts (get_or s i 0 ∷ []) v u → Puts (take (i + 1) s) w u
puts_more s i l a b = rw (add-one i, take-suc s i 0) (puts_then a b)

pub puts_all : {s : List ℕ} {w v : Writer} (i : ℕ) → length s ≤ i → Puts (take i s) w v → Puts s w v
puts_all {s} i l a = rw (take_all i s l) at a

-- a loop over numbered pieces: before the first
pub puts_gathered_none : (piece : ℕ → List ℕ) {w : Writer} → Puts (gather 0 piece) w w
unfolding gather
puts_gathered_none piece = puts_none

-- and one piece more
pub puts_gathered_more : (piece : ℕ → List ℕ) (i : ℕ) {w v u : Writer} → Puts (gather i piece) w v → Puts (piece i) v u → Puts (gather (i + 1) piece) w u
unfolding gather
puts_gathered_more piece i a b = rw (add-one i) (puts_then a b)

-- ---- what stands at a place

-- x, and y behind it
pub stands_then : {x y l : List ℕ} {i j k : ℕ} → Stands x i l j → Stands y j l k → Stands (x ++ y) i l k
stands_then {x} {y} {l} {i} {j} {k} v w =
    record { next = omega (arith, length-append x y, v.next, w.next); text = v.text ∙ rw w.text (sym (append_assoc x y (drop k l))) }

-- what a text continues with
pub stands_front : (s rest l : List ℕ) (i : ℕ) → drop i l ≡ s ++ rest → Stands s i l (i + length s) × (drop (i + length s) l ≡ rest)
stands_front s rest l i e =
    let f : drop (i + length s) l ≡ rest = sym (drop-drop (length s) i l) ∙ rw e (drop-append_seam s rest) in
    (record { next = refl; text = rw f e }, f)

-- x ++ y in its parts
pub stands_parts : (x y : List ℕ) {l : List ℕ} {i k : ℕ} → Stands (x ++ y) i l k → Stands x i l (i + length x) × Stands y (i + length x) l k
stands_parts x y {l} {i} {k} s =
    let f = stands_front x (y ++ drop k l) l i (s.text ∙ append_assoc x y (drop k l)) in
    (f.0, record { next = omega (arith, s.next, length-append x y); text = f.1 })

-- what was written stands there, where there was room for it
pub wrote_stands : {s d e : List ℕ} {at r : ℕ} → Wrote s at d r e → r ≤ length d → Stands s at e r
wrote_stands {s} {d} {e} {at} {r} w h =
    let n : r ≡ at + length s = w.next in
    let t : length (take at d) ≡ at = length-take-le at d (omega arith) in
    let q : e ≡ take at d ++ (s ++ drop (at + length s) d) = w.stored ∙ sets-eq s d at (omega arith) ∙ append_assoc (take at d) s (drop (at + length s) d) in
    let f = stands_front s (drop (at + length s) d) e at (rw q (drop_at (take at d) (s ++ drop (at + length s) d) at t)) in
    rw n f.0

-- the digit there is that of the first byte
pub stands_digit : {b : ℕ} {s l : List ℕ} {i j : ℕ} → Stands (b ∷ s) i l j → digit_at l i ≡ digit_of b
unfolding digit_at
stands_digit {b} {s} {l} {i} {j} h =
    let e : get_or l (i + 0) 0 ≡ b = sym (get_or-drop i l 0 0) ∙ rw h.text in
    rw (add-zero i) at (ap digit_of e)

unmoved : (s l : List ℕ) (i : ℕ) → drop i l ≡ s ++ drop (i + length s) l → l ≡ sets l i s
unmoved [] l i e = refl
unmoved (a ∷ s) l i e =
    let n : length (drop i l) ≡ length (a ∷ s) + length (drop (i + length (a ∷ s)) l) = ap length e ∙ length-append (a ∷ s) (drop (i + length (a ∷ s)) l) in
    let h : i + length (a ∷ s) ≤ length l = omega (arith, length-drop i l, length-drop (i + length (a ∷ s)) l) in
    sym (sets-eq (a ∷ s) l i h ∙ append_assoc (take i l) (a ∷ s) (drop (i + length (a ∷ s)) l) ∙ rw (← e) (take-append-drop i l))

-- what stands there already: writing it changes nothing
pub stands_wrote : {s l : List ℕ} {i j : ℕ} → Stands s i l j → Wrote s i l j l
stands_wrote {s} {l} {i} {j} v = record { next = v.next; stored = unmoved s l i (rw v.next at v.text) }
