-- What the functions of the judge of cards promise each other.
-- Assumes nothing.
use Rattle.std.specs.Prelude.{◌≡◌, Bool, eqb, List, ℕ, ◌+◌, length, Option, None, Some}
use Rattle.std.specs.Option.{ForSome}
use Rattle.sets.specs.Mask.{subset}
use Rattle.games.specs.Game.{Game}
use Rattle.games.specs.Step.{post}
use Rattle.games.specs.Automaton.{Automaton}
use Rattle.games.specs.declared.Cell.{Cell}
use Rattle.cards.specs.Card.{cell_place, card_observations}
use Rattle.cards.specs.Checking.{Pass}
use Rattle.moves.specs.declared.Moves.{Moves}
use Rattle.certificates.specs.Certificate.{word_holds}

-- all the states in question lie in the set of the cell named; where there is none, there are none
abbrev pub lies_in : Automaton → (s : ℕ) → Option Cell → Bool
lies_in A s None = eqb s 0
lies_in A s (Some c) = subset s (A.set c.0)

-- where there are half tables, they are those of the table's moves
abbrev pub Halves : (table : List ℕ) → Option Moves → Type 0
Halves w moves = ForSome moves (λ m. m.accepted.table.words.now ≡ w)

-- u has the successors of a cell's set under its action
abbrev pub Successors : Game → Automaton → (cell u : ℕ) → Type 0
Successors g A c u = u ≡ post g (A.set c) (A.action c)

-- the words below place p hold
abbrev pub HoldsBelow : Game → (card : List ℕ) → (p : ℕ) → Type 0
HoldsBelow g k p = Pass (word_holds g k) (length k) p

-- word number i of a cell's part holds
abbrev pub part_holds : Game → (card : List ℕ) → (cell i : ℕ) → Bool
part_holds g k c i = word_holds g k (cell_place (card_observations k) c + i)
