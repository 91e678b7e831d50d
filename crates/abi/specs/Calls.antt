-- What an exported function answers and leaves where no entry's own definition says it: its three answer words and every lent word.
-- Assumes nothing.
use Rattle.std.specs.Prelude.{◌≡◌, Bool, List, ◌++◌, ℕ, ◌≤◌, length, take, drop}
use Rattle.games.specs.Answers.{unless, Leaves, leaves}
use Rattle.games.specs.Answers.{Written}
use Rattle.games.specs.declared.Refusal.{Refusal}
use Rattle.tables.specs.Check.{checked}
use Rattle.tables.specs.declared.Fields.{Fields}
use Rattle.cards.specs.Card.{card_cells, card_observations, checked as card_checked}
use Rattle.fields.specs.Read.{read_of}
use Rattle.fields.specs.Write.{write_of}
use Rattle.answers.specs.Words.{done, words_of, pair_words}
use Rattle.std.specs.Prelude.{Result, Ok, Err}

-- an outcome, its answer as words
abbrev pub told : {A L : Type 0} → (A → List ℕ) → Leaves A L → Leaves (List ℕ) L
told words o = leaves (words o.answer) o.left

-- read into fields, and these written: a refused read leaves `out` as it was
abbrev pub written_again : Result Fields Refusal → List ℕ → Leaves Written (List ℕ)
written_again (Ok f) d = write_of f d
written_again (Err e) d = leaves (Err e) d

unfoldable pub rewritten : (table out : List ℕ) → Leaves Written (List ℕ)
rewritten w d = written_again (read_of w) d

-- an accepted table comes back as it was, where `out` has room for it
abbrev pub ComesBack : (table out : List ℕ) → Leaves (List ℕ) (List ℕ) → Type 0
ComesBack w d l = checked w ≡ Ok tt → length w ≤ length d → l ≡ leaves (done (length w) 0) (w ++ drop (length w) d)

-- the numbers of cells and observations of words that are a card, or the refusal; and these as words
unfoldable pub numbers_of : (card : List ℕ) → Result (ℕ × ℕ) Refusal
numbers_of k = unless (card_checked k) Err (Ok (card_cells k, card_observations k))

abbrev pub card_told : (card : List ℕ) → List ℕ
card_told k = words_of pair_words (numbers_of k)

-- the fields that write is given
abbrev pub given : (n a o start bad : ℕ) (marked : Bool) (parked : ℕ) (shown moves : List ℕ) → Fields
given n a o start bad marked parked shown moves =
    record { states = n; actions = a; observations = o; start = start; bad = bad; marked = marked; parked = parked; shown = shown; moves = moves }

-- where the words tell that k words were written, reading the first k words of the buffer gives these fields
abbrev pub ReadsAs : Fields → (answer out : List ℕ) → Type 0
ReadsAs f a d = (k : ℕ) → a ≡ done k 0 → read_of (take k d) ≡ Ok f
