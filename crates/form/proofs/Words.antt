-- A fixed run of bytes, as `text::skip` reads it.
-- Assumes nothing.
use mathlib.Core.Path.{◌≡◌, refl, sym, ap, ◌∙◌}
use mathlib.Core.Logic.{⊎_elim}
use mathlib.Core.Bool.{true, false}
use mathlib.Core.List.{List, [], ◌∷◌}
use Prim.Native.Nat.{ℕ, suc, ◌+◌, ◌≤◌, ◌<◌}
use native.Mathlib.Nat.{add-zero, add-suc, suc-add}
use native.Mathlib.Omega.{arith}
use borrow.Author.Tests.{ne_eqb}
use lib.Dec.{eqb}
use lib.ListN.{length, get_or, drop, length-append, length-drop}
use lib.Seq.{get_or-drop}
use Rattle.std.specs.Prelude.{Result, Ok, Err}
use Rattle.sets.proofs.Logic.{decided}
use Rattle.text.specs.declared.Wrong.{Wrong}
use Rattle.text.specs.Read.{matched, skipped}
use Rattle.text.proofs.RoundTrip.{skip_is}
use Rattle.form.specs.Form.{Form, departs, reads, byte_at, word}
use Rattle.form.specs.Cursors.{behind}

-- the bytes s have l from place i on, and then the end
word_matched : (w : List ℕ) (s : ℕ → ℕ) (i : ℕ) (l : List ℕ) → ((k : ℕ) → s (i + k) ≡ get_or l k 256) → ((k : ℕ) → get_or w k 0 < 256) → (F : Form)
    → reads (word w F) s i ≡ behind (matched w i l) (λ j. reads F s j)
unfolding reads word matched
word_matched [] s i l h b F = refl
word_matched (x ∷ w) s i [] h b F =
    let e : s i ≡ 256 = ap s (sym (add-zero i)) ∙ h 0 in
    let f : x < 256 = b 0 in
    rw (ne_eqb (s i) x (λ g. let y : s i ≡ x = g in omega arith))
word_matched (x ∷ w) s i (c ∷ l) h b F =
    let e : s i ≡ c = ap s (sym (add-zero i)) ∙ h 0 in
    ⊎_elim
    (λ (t : eqb c x ≡ true). rw (e, t) (word_matched w s (suc i) l (λ k. ap s (suc-add i k ∙ sym (add-suc i k)) ∙ h (suc k)) (λ k. b (suc k)) F))
    (λ (t : eqb c x ≡ false). rw (e, t))
    (decided (eqb c x))

module _ (w t : List ℕ) (at : ℕ) (b : (k : ℕ) → get_or w k 0 < 256) (F : Form) where
  word_skipped : reads (word w F) (byte_at t) at ≡ behind (skipped w t at) (λ j. reads F (byte_at t) j)
  unfolding skipped byte_at
  word_skipped = word_matched w (byte_at t) at (drop at t) (λ k. sym (get_or-drop at t k 256)) b F

  pub word_passed : (j : ℕ) → skipped w t at ≡ Ok j → reads (word w F) (byte_at t) at ≡ reads F (byte_at t) j
  word_passed j e = word_skipped ∙ ap (λ (r : Result ℕ Wrong). behind r (λ k. reads F (byte_at t) k)) e

  pub word_departs : (p : Wrong) → skipped w t at ≡ Err p → reads (word w F) (byte_at t) at ≡ departs p.place
  word_departs p e = word_skipped ∙ ap (λ (r : Result ℕ Wrong). behind r (λ k. reads F (byte_at t) k)) e

-- behind the run a reader is still in the text
pub skipped_within : (w t : List ℕ) (at j : ℕ) → at ≤ length t → skipped w t at ≡ Ok j → j ≤ length t
skipped_within w t at j l e =
    let s = skip_is w t at j e in
    omega (arith, s.next, ap length s.text, length-append w (drop j t), length-drop at t, length-drop j t)
