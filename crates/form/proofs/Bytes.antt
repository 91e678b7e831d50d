-- The byte at a place, as the code has it: an option that is none at the text's end.
-- Assumes nothing.
use mathlib.Core.Path.{◌≡◌, refl, sym, ap, ◌∙◌}
use mathlib.Core.Bool.{Bool, true, false, ◌&&◌}
use mathlib.Core.List.{List}
use Prim.Native.Nat.{ℕ, suc, ◌+◌, ◌*◌, ◌-◌, ◌≤◌, ◌<◌}
use native.Mathlib.Omega.{arith, not-le}
use lib.Dec.{eqb, ltb, leb}
use lib.ListN.{length, get_or}
use borrow.Author.Tests.{eqb-true, eqb-false, ltb-true, ltb-false}
use Rattle.std.proofs.Common.{Option, None, Some, Result, Err, Bor, slice_range, drop}
use Rattle.std.proofs.lemmas.List.{get_or-take, get_or-drop, get_or_default}
use Rattle.std.specs.Option.{MatchOption, option_eq, option_copied, option_map, unwrap_or, ok_or}
use Rattle.std.specs.Bool.{then_some}
use Rattle.sets.proofs.Logic.{clash}
use Rattle.text.specs.declared.Wrong.{Wrong}
use Rattle.form.specs.Form.{byte_at, digit_fits}
use Rattle.form.specs.Places.{next_byte}
use Rattle.form.proofs.Steps.{no_digit, past_digit, digit_range}

pub next_same : (o : Option ℕ) (b : ℕ) → option_eq eqb o (Some b) ≡ true → next_byte o ≡ b
next_same None b e = clash e refl
next_same (Some x) b e = eqb-true x b e

pub next_other : (o : Option ℕ) (b : ℕ) → b < 256 → option_eq eqb o (Some b) ≡ false → next_byte o ≡ b → ⊥
next_other None b l e f = omega (arith, l, f)
next_other (Some x) b l e f = eqb-false x b e f

-- what is no digit
pub unfit : (base lo hi w v b : ℕ) → (48 ≤ b → b < 48 + base → ⊥) → digit_fits base lo hi w v b ≡ false
unfit base lo hi w v b n = by_order (ltb b 48) refl
  where
    by_order : (t : Bool) → ltb b 48 ≡ t → digit_fits base lo hi w v b ≡ false
    by_order true e = no_digit base lo hi w v b (ltb-true b 48 e)
    by_order false e =
        let from : 48 ≤ b = ltb-false b 48 e in
        past_digit base lo hi w v b from (omega (arith, not-le (suc b) (48 + base) (λ g. n from g)))

-- a digit d of weight w behind v, if it fits
pub grown_by : (base lo hi w v b d : ℕ) → b ≡ 48 + d → d < base
    → MatchOption (then_some (leb (v + d * w) hi && ltb lo (v + d * w + w)) (v + d * w)) (digit_fits base lo hi w v b ≡ false) (λ x. (digit_fits base lo hi w v b ≡ true) × (x ≡ v + (b - 48) * w))
grown_by base lo hi w v b d e l =
    let same : b - 48 ≡ d = omega arith in
    let value : v + d * w ≡ v + (b - 48) * w = ap (λ (n : ℕ). v + n * w) (sym same) in
    by_test (leb (v + d * w) hi && ltb lo (v + d * w + w)) value
    (digit_range base lo hi w v b (omega arith) (omega arith) ∙ ap (λ (x : ℕ). leb x hi && ltb lo (x + w)) (sym value))
  where
    by_test : (t : Bool) → v + d * w ≡ v + (b - 48) * w → digit_fits base lo hi w v b ≡ t
        → MatchOption (then_some t (v + d * w)) (digit_fits base lo hi w v b ≡ false) (λ x. (digit_fits base lo hi w v b ≡ true) × (x ≡ v + (b - 48) * w))
    by_test true f g = (g, f)
    by_test false f g = g

pub next_is : (o : Option (Bor ℕ)) → next_byte (option_copied o) ≡ unwrap_or (option_map (λ x. x.now) o) 256
next_is None = refl
next_is (Some x) = refl

-- a digit of a part of the text, where it stands in the text
pub digit_there : (t : List ℕ) (at width i d : ℕ) (s : List ℕ) → s ≡ slice_range t at (at + width) → at + width ≤ length t → i < width → get_or s i 0 ≡ 48 + d → byte_at t (at + i) ≡ 48 + d
unfolding byte_at
digit_there t at width i d s e k l h =
    let inside : i < at + width - at = omega arith in
    let there : get_or (slice_range t at (at + width)) i 0 ≡ get_or t (at + i) 0 = get_or-take (at + width - at) (drop at t) i 0 inside ∙ get_or-drop at t i 0 in
    get_or_default t (at + i) 256 0 (omega arith) ∙ sym there ∙ ap (λ (x : List ℕ). get_or x i 0) (sym e) ∙ h

-- the place of a refusal made of none
pub place_is : (o : Option ℕ) (p q : Wrong) → ◌≡◌ {A = Result ℕ Wrong} (Err p) (ok_or o q) → o ≡ None → q ≡ p
place_is None p q e n = cc
place_is (Some x) p q e n = absurd (let z : ◌≡◌ {A = ℕ} 0 1 = cc in omega arith)
