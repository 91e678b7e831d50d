-- The three words that an exported function answers, for each case of the answer behind it.
-- Assumes nothing.
use Rattle.std.specs.Prelude.{Bool, true, false, List, [], ◌∷◌, ℕ, Result, Ok, Err}
use Rattle.games.specs.Answers.{Checked, Written, number_of}
use Rattle.games.specs.declared.Refusal.{Refusal}
use Rattle.judge.specs.Judge.{Judged}
use Rattle.cards.specs.Run.{Move}
use Rattle.cards.specs.declared.Entered.{Entered}
use Rattle.cards.specs.declared.Extent.{Extent}
use Rattle.runner.specs.Runs.{Ran}
use Rattle.show.specs.Show.{Shown}
use Rattle.show.specs.declared.Part.{Part}
use Rattle.solver.specs.Solve.{Answer}
use Rattle.solver.specs.declared.Verdict.{Verdict}
use Rattle.solver.specs.declared.Verdict.TheVariants.{Yes, No}
use Rattle.trimmer.specs.Trimmer.{Answer as TrimAnswer}
use Rattle.kiss_writer.specs.Write.{Answer as WriteAnswer}
use Rattle.kiss_reader.specs.Read.{Answer as ReadAnswer}

-- done, with two values
abbrev pub done : (x y : ℕ) → List ℕ
done x y = 0 ∷ x ∷ y ∷ []

-- no, with the round number
abbrev pub no : (round : ℕ) → List ℕ
no k = 1 ∷ k ∷ 0 ∷ []

-- a refusal, with its number and place
abbrev pub refusal_words : Refusal → List ℕ
refusal_words e = 2 ∷ number_of e.reason ∷ e.place ∷ []

-- an answer: the words of its value, or of its refusal
abbrev pub words_of : {A : Type 0} → (A → List ℕ) → Result A Refusal → List ℕ
words_of told (Ok x) = told x
words_of told (Err e) = refusal_words e

-- ---- the words of a value

-- no value beside fine
abbrev pub unit_words : Unit {0} → List ℕ
unit_words _ = done 0 0

-- two numbers
abbrev pub pair_words : ℕ × ℕ → List ℕ
pair_words p = done p.0 p.1

-- 1 where the set is good, else 0
abbrev pub bool_words : Bool → List ℕ
bool_words true = done 1 0
bool_words false = done 0 0

-- a number of words, bytes or observations
abbrev pub length_words : ℕ → List ℕ
length_words n = done n 0

-- the settling count and the number of cells; the round number
abbrev pub verdict_words : Verdict → List ℕ
verdict_words (Yes settled cells) = done settled cells
verdict_words (No round) = no round

-- the cell entered and its action
abbrev pub entered_words : Entered → List ℕ
entered_words m = done m.cell.0 m.action.0

-- where a part starts in the table, and its length
abbrev pub part_words : Part → List ℕ
part_words p = done p.offset p.length

-- the words and the cells of a card that was trimmed or read
abbrev pub extent_words : Extent → List ℕ
extent_words r = done r.words r.cells

-- ---- the words of an entry's answer

-- a table's check and the judge of cards
abbrev pub check_words : Checked → List ℕ
check_words = words_of unit_words

abbrev pub solve_words : Answer → List ℕ
solve_words = words_of verdict_words

abbrev pub judge_words : Judged → List ℕ
judge_words = words_of bool_words

-- join, meet, write and rewrite: the number of words in front of `out`
abbrev pub written_words : Written → List ℕ
written_words = words_of length_words

-- open and step
abbrev pub move_words : Move → List ℕ
move_words = words_of entered_words

-- run: the number of observations taken, all of them
abbrev pub ran_words : Ran → List ℕ
ran_words (Ok taken) = length_words taken
ran_words (Err s) = refusal_words s.refusal

abbrev pub show_words : Shown → List ℕ
show_words = words_of part_words

abbrev pub trim_words : TrimAnswer → List ℕ
trim_words = words_of extent_words

-- write_kiss: the bytes of the text
abbrev pub text_words : WriteAnswer → List ℕ
text_words = words_of length_words

-- read_kiss
abbrev pub read_words : ReadAnswer → List ℕ
read_words = words_of extent_words
