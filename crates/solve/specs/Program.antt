-- What the solving program prints for the bytes on its standard input (document 01, "Stations to try").
-- Assumes nothing.
use Rattle.std.specs.Prelude.{cond, not, List, [], ℕ, ◌+◌, ◌*◌, ◌/◌, ◌%◌, eqb, ltb, length, replicate, Option, Result, Ok, Err, OnOk}
use denote.Ref.{Bor}
use Rattle.std.specs.Io.KnownBytes.{Keeps, Appends}
use Rattle.games.specs.Format.{max_sets}
use Rattle.solver.specs.Solve.{Answer, solved, written}
use Rattle.solver.specs.declared.Verdict.TheVariants.{Yes, No}
use Rattle.printout.specs.Lines.{answer_text, unread_line, line_bytes}
use Rattle.words.specs.Bytes.{words_of}
use Rattle.solve.specs.declared.Stream.{Stream}
use Rattle.solve.specs.declared.Stream.TheVariants.{Output, Errors}
use Rattle.games.specs.declared.Reason.TheVariants as reason
use Rattle.games.specs.Answers.{refused}

-- the most bytes that are taken for a table
abbrev pub input_bytes : ℕ
input_bytes = 4096

-- the words of the work and of the card room: work for the most states, and as many for the card
abbrev pub buffer_words : ℕ
buffer_words = 4 * max_sets

abbrev pub blank : List ℕ
blank = replicate buffer_words 0

-- a text has no more lines than the card room has words
abbrev pub text_bytes : ℕ
text_bytes = buffer_words * line_bytes

-- the card in front of its room, after a yes
abbrev pub card_in : (table : List ℕ) → Answer → (room : List ℕ) → List ℕ
card_in w (Ok (Yes settled cells)) d = written w cells d
card_in w (Ok (No round)) d = []
card_in w (Err e) d = []

-- what is printed for a table: solve's answer, and the card that it wrote
unfoldable pub table_text : (table work card : List ℕ) → List ℕ
table_text w work d = let o = solved w work d in answer_text o.answer (card_in w o.answer o.left.card)

-- what is printed for the bytes of the input: too many, no whole number of words, or the words of a table
unfoldable pub program_text : List ℕ → List ℕ
program_text b =
    cond (ltb input_bytes (length b)) (answer_text (refused reason.BadLength (input_bytes / 4 + 1)) [])
    (cond (not (eqb (length b % 4) 0)) (answer_text (refused reason.BadLength (length b / 4)) [])
    (table_text (words_of (length b / 4) b) blank blank))

-- ---- what reading gave, the bytes or a failure, which is no end of the input; and the reply to it

-- the text for the bytes that were read goes to standard output; that reading failed is told on standard error
abbrev pub reply_to : {B E : Type 0} → Result B E → Stream
reply_to (Ok b) = Output
reply_to (Err e) = Errors

abbrev pub reply_text : {E : Type 0} → Result (Bor (List ℕ)) E → List ℕ
reply_text (Ok b) = program_text b.now
reply_text (Err e) = unread_line

-- ---- the text is put behind what its stream held, unless the answer says that this failed, and nothing goes to the other. The output held o
-- and then p, the errors e and then f, where that is known

abbrev pub Sent : {A E : Type 0} → (to : Stream) (text : List ℕ) → Result A E → (o p e f : Option (List ℕ)) → Type 0
Sent Output t r o p e f = OnOk r (Appends o p t) × Keeps e f
Sent Errors t r o p e f = OnOk r (Appends e f t) × Keeps o p
