-- What the answer words tell: the answer behind them, and what is promised of it.
-- Assumes nothing.
use mathlib.Core.Path.{◌≡◌, refl, sym, ap, ap₂, ◌∙◌, subst}
use mathlib.Core.List.{List}
use Prim.Native.Nat.{ℕ}
use native.Mathlib.Omega.{arith}
use lib.ListN.{take}
use Rattle.std.specs.Prelude.{Result, Ok, Err}
use Rattle.games.specs.Answers.{Leaves, leaves, unless, Checked, Written}
use Rattle.games.specs.declared.Refusal.{Refusal}
use Rattle.games.proofs.Reasons.{same_refusal}
use Rattle.tables.specs.Fields.{fields_of}
use Rattle.tables.specs.declared.Fields.{Fields}
use Rattle.lists.specs.Plain.{MaximalOf}
use Rattle.fields.specs.Read.{read_of}
use Rattle.fields.specs.RoundTrip.{ReadsBack}
use Rattle.fields.proofs.RoundTrip.{read_then_write}
use Rattle.solver.specs.declared.Verdict.{Verdict}
use Rattle.solver.specs.declared.Verdict.TheVariants.{Yes, No}
use Rattle.trimmer.specs.Trimmer.{Answer as TrimAnswer}
use Rattle.cards.specs.declared.Extent.{Extent}
use Rattle.answers.specs.Words.{done, refusal_words, words_of, length_words, verdict_words, trim_words, extent_words, written_words, check_words}
use Rattle.abi.specs.Calls.{told, written_again, rewritten, ComesBack, ReadsAs}

-- the words of an answer, with what it left, tell the outcome
pub tells : {A L : Type 0} (words : A → List ℕ) (a : List ℕ) (r : A) (left : L) (o : Leaves A L) → a ≡ words r → leaves r left ≡ o → leaves a left ≡ told words o
tells words a r left o e f = ap (λ (x : List ℕ). leaves x left) e ∙ ap (told words) f

-- ---- judge_card

-- only fine has its words
fine_told : (r : Checked) → check_words r ≡ done 0 0 → r ≡ Ok tt
fine_told (Ok tt) e = refl
fine_told (Err stop) e = let z : ◌≡◌ {A = ℕ} 2 0 = cc in absurd (omega arith)

pub accepted_told : (a : List ℕ) (r : Checked) (P : Type 0) → a ≡ check_words r → (r ≡ Ok tt → P) → a ≡ done 0 0 → P
accepted_told a r P e p f = p (fine_told r (sym e ∙ f))

-- ---- two answers with the same words are the same, where two values with the same words are, and no value has a refusal's

same_refused : (e f : Refusal) → refusal_words e ≡ refusal_words f → e ≡ f
same_refused e f h = same_refusal e f (cc) (cc)

-- a value's words tell it, and are no refusal's
pub record Telling {A : Type 0} (words : A → List ℕ) : Type 0 where
  pub one : (x y : A) → words x ≡ words y → x ≡ y
  pub done_first : (x : A) (e : Refusal) → words x ≡ refusal_words e → ⊥

same_answer : {A : Type 0} (words : A → List ℕ) → Telling words → (r s : Result A Refusal) → words_of words r ≡ words_of words s → r ≡ s
same_answer words T (Ok x) (Ok y) h = ap Ok (T.one x y h)
same_answer words T (Ok x) (Err f) h = absurd (T.done_first x f h)
same_answer words T (Err e) (Ok y) h = absurd (T.done_first y e (sym h))
same_answer words T (Err e) (Err f) h = ap Err (same_refused e f h)

-- so what is promised of an answer is promised of every answer with its words
pub promised_of : {A : Type 0} (words : A → List ℕ) → Telling words → (a : List ℕ) (r : Result A Refusal) → a ≡ words_of words r
    → (P : Result A Refusal → Type 0) → P r → (s : Result A Refusal) → a ≡ words_of words s → P s
promised_of words T a r e P p s f = subst P (same_answer words T r s (sym e ∙ f)) p

pub verdict_tells : Telling verdict_words
verdict_tells = record { one = one; done_first = apart } where
  one : (x y : Verdict) → verdict_words x ≡ verdict_words y → x ≡ y
  one (Yes a b) (Yes c d) h = cc
  one (Yes a b) (No k) h = let z : ◌≡◌ {A = ℕ} 0 1 = cc in absurd (omega arith)
  one (No k) (Yes a b) h = let z : ◌≡◌ {A = ℕ} 1 0 = cc in absurd (omega arith)
  one (No k) (No l) h = cc

  apart : (x : Verdict) (e : Refusal) → verdict_words x ≡ refusal_words e → ⊥
  apart (Yes a b) e h = let z : ◌≡◌ {A = ℕ} 0 2 = cc in omega arith
  apart (No k) e h = let z : ◌≡◌ {A = ℕ} 1 2 = cc in omega arith

pub length_tells : Telling length_words
length_tells = record { one = λ x y h. cc; done_first = λ x e h. let z : ◌≡◌ {A = ℕ} 0 2 = cc in omega arith }

pub read_tells : Telling extent_words
read_tells = record { one = one; done_first = λ x e h. let z : ◌≡◌ {A = ℕ} 0 2 = cc in omega arith } where
  one : (x y : Extent) → extent_words x ≡ extent_words y → x ≡ y
  one x y h =
      let words : x.words ≡ y.words = cc in
      let cells : x.cells ≡ y.cells = cc in
      ap₂ (λ (a b : ℕ). let t : Extent = record { words = a; cells = b } in t) words cells

-- as of the trimmer's answers
pub same_trim : (r s : TrimAnswer) → trim_words r ≡ trim_words s → r ≡ s
same_trim = same_answer extent_words read_tells

-- ---- join, meet and write

-- the words of so many words written are those of no other answer
words_length_lem : (r : Written) (n : ℕ) → written_words r ≡ done n 0 → r ≡ Ok n
words_length_lem (Ok m) n e = cc
words_length_lem (Err stop) n e = let z : ◌≡◌ {A = ℕ} 2 0 = cc in absurd (omega arith)

pub list_plain : (a : List ℕ) (r : Written) → a ≡ written_words r → (F : ℕ → Type 0) (out : List ℕ) → ((n : ℕ) → r ≡ Ok n → MaximalOf F (take n out)) → (n : ℕ) → a ≡ done n 0 → MaximalOf F (take n out)
list_plain a r e F out p n f = p n (words_length_lem r n (sym e ∙ f))

pub write_read_back : (a : List ℕ) (r : Written) → a ≡ written_words r → (f : Fields) (out : List ℕ) → ReadsBack f r out → ReadsAs f a out
write_read_back a r e f out p n g = p n (words_length_lem r n (sym e ∙ g))

-- ---- rewrite

-- an accepted table comes back as it was
pub rewrite_same : (w d : List ℕ) (l : Leaves (List ℕ) (List ℕ)) → l ≡ told written_words (rewritten w d) → ComesBack w d l
unfolding rewritten read_of
rewrite_same w d l e g long =
    e
    ∙ ap (λ (c : Checked). told written_words (written_again (unless c Err (Ok (fields_of w))) d)) g
    ∙ ap (told written_words) (read_then_write w g d long)
