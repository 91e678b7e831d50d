-- Laws of what is printed: for each answer of solve, and for each input.
-- Assumes nothing.
use mathlib.Core.Path.{◌≡◌, refl, sym, ap, ◌∙◌, subst}
use mathlib.Core.List.{List, ◌++◌}
use Prim.Native.Nat.{ℕ, ◌*◌, ◌/◌, ◌%◌, ◌≤◌, ◌<◌}
use native.Mathlib.Nat.{mul_comm, mul-le-mul_right}
use native.Mathlib.Omega.{arith}
use borrow.Author.Tests.{eq-eqb, ne_eqb, lt-ltb, le-ltb}
use lib.ListN.{length, take, drop, replicate, length-replicate}
use lib.Seq.{length-take-le, take-append_seam}
use denote.Ref.{Bor}
use Rattle.solver.proofs.Promises.{Given, yes_given}
use Rattle.games.specs.Answers.{Leaves, leaves}
use Rattle.games.specs.Format.{max_observations, low_values, number_values}
use Rattle.games.specs.Words.{game, part_length, card_length}
use Rattle.solver.specs.Solve.{Buffers, buffers, solved, written}
use Rattle.solver.specs.Solve.{Answer, says_yes, says_no}
use Rattle.text.specs.Puts.{Puts}
use Rattle.text.specs.declared.Writer.{Writer}
use Rattle.printout.proofs.Texts.{front_taken}
use Rattle.printout.specs.Lines.{yes_line, card_text, no_line, refused_line, answer_text, unread_line}
use Rattle.words.specs.Bytes.{words_of}
use Rattle.solve.specs.Program.{input_bytes, buffer_words, blank, card_in, table_text, program_text, reply_to, reply_text}
use Rattle.solve.specs.declared.Stream.TheVariants.{Output, Errors}
use Rattle.games.specs.declared.Refusal.{Refusal}
use Rattle.solver.specs.declared.Verdict.TheVariants.{Yes, No}
use Rattle.games.specs.Answers.{number_of}
use Rattle.std.specs.Prelude.{Result, Ok, Err}

-- another name for the text that was written
pub puts_same : {s t : List ℕ} {w v : Writer} → s ≡ t → Puts s w v → Puts t w v
puts_same {s} {t} {w} {v} h p = subst (λ (x : List ℕ). Puts x w v) h p

-- what a writer that began at the front, with room for its text, has written
pub text_is : {s : List ℕ} {w v : Writer} → w.at ≡ 0 → Puts s w v → v.at ≤ length w.out.now → take v.at v.out.now ≡ s
text_is z p l = front_taken (rw z at p.wrote) l

-- ---- a table, by solve's answer r, which left d in the card room

module _ (w work card : List ℕ) (r : Answer) (left d : List ℕ) (e : leaves r (buffers left d) ≡ solved w work card) where
  said : (x : Answer) → r ≡ x → answer_text x (card_in w x d) ≡ table_text w work card
  unfolding table_text
  said x f =
      ap (λ (y : Answer). answer_text y (card_in w y d)) (sym f)
      ∙ ap (λ (o : Leaves Answer Buffers). answer_text o.answer (card_in w o.answer o.left.card)) e

  pub refused_text : (stop : Refusal) → r ≡ Err stop → refused_line (number_of stop.reason) stop.place ≡ table_text w work card
  unfolding answer_text
  refused_text stop f = said (Err stop) f

  pub no_text : (k : ℕ) → r ≡ says_no k → no_line k ≡ table_text w work card
  unfolding answer_text
  no_text k f = said (says_no k) f

  pub yes_text : (t m : ℕ) → r ≡ says_yes t m → yes_line t m ++ card_text (written w m d) ≡ table_text w work card
  unfolding answer_text
  yes_text t m f = said (says_yes t m) f

  -- after a yes: its card lies in front of its room; n is the card's length, as the code has it
  module _ (t m : ℕ) (f : r ≡ says_yes t m) where
    pub given : Given w work card r d m
    given = yes_given _ _ _ r d t m left e f

    module _ (n : ℕ) (g : n ≡ card_length m (game w).observations) where
      pub in_room : length d ≡ length card → n ≤ length d
      in_room h = omega (arith, g, h, given.fits)

      pub front_long : length d ≡ length card → n ≡ length (take n d)
      front_long h = sym (length-take-le n d (in_room h))

      pub front_is : take n d ≡ written w m d
      front_is = ap (λ (k : ℕ). take k d) g

-- the words of an input lie in front of their room
pub words_long : (b room : List ℕ) → length b ≤ input_bytes → room ≡ replicate 1024 0 → length (take (length b / 4) room) ≡ length b / 4
words_long b room l e =
    let long : length room ≡ 1024 = ap length e ∙ length-replicate {0} {A = ℕ} 1024 0 in
    length-take-le (length b / 4) room (omega arith)

pub same_text : {v w work card : List ℕ} → v ≡ w → work ≡ blank → card ≡ blank → table_text v work card ≡ table_text w blank blank
same_text e f g = rw (e, f, g)

-- the answer is a yes, a no or a refusal
pub no_fourth : (r : Answer) → ((t m : ℕ) → r ≡ says_yes t m → ⊥) → ((k : ℕ) → r ≡ says_no k → ⊥) → ((e : Refusal) → r ≡ Err e → ⊥) → ⊥
no_fourth (Ok (Yes t m)) a b c = a t m refl
no_fourth (Ok (No k)) a b c = b k refl
no_fourth (Err e) a b c = c e refl

-- a card in a room of so many words has numbers that its head can hold
pub card_fits : (m o p n : ℕ) → p ≡ o → o ≤ max_observations → n ≡ buffer_words → card_length m o ≤ n → (m ≤ low_values) × (p < number_values)
card_fits m o p n e l h r =
    let c : 1 * m ≤ part_length o * m = mul-le-mul_right m (omega arith) in
    (omega (arith, mul_comm (part_length o) m), omega arith)

-- ---- the bytes of the input

module _ (b : List ℕ) where
  pub too_long : input_bytes < length b → refused_line 3 1025 ≡ program_text b
  unfolding program_text answer_text
  too_long l = rw (program_text, lt-ltb input_bytes (length b) l)

  pub no_words : length b ≤ input_bytes → (length b % 4 ≡ 0 → ⊥) → refused_line 3 (length b / 4) ≡ program_text b
  unfolding program_text answer_text
  no_words l n = rw (program_text, le-ltb input_bytes (length b) l, ne_eqb (length b % 4) 0 n)

  pub whole_words : length b ≤ input_bytes → length b % 4 ≡ 0 → table_text (words_of (length b / 4) b) blank blank ≡ program_text b
  unfolding program_text
  whole_words l e = rw (program_text, le-ltb input_bytes (length b) l, eq-eqb (length b % 4) 0 e)

-- ---- the reply

module _ {E : Type 0} (input : Result (Bor (List ℕ)) E) where
  pub failed_reply : (e : E) → input ≡ Err e → (Errors ≡ reply_to input) × (unread_line ≡ reply_text input)
  failed_reply e f = rw f (refl, refl)

  pub bytes_reply : (b : Bor (List ℕ)) → input ≡ Ok b → (Output ≡ reply_to input) × (program_text b.now ≡ reply_text input)
  bytes_reply b f = rw f (refl, refl)
