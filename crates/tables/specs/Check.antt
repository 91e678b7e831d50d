-- The table checks (document 01, "Numbered refusals" 1 to 7 and "Order"; 19: document 02, change 2).
-- Assumes nothing.
use Rattle.std.specs.Prelude.{Bool, cond, not, ◌&&◌, ◌||◌, List, ℕ, ◌+◌, ◌*◌, ◌/◌, ◌^◌, eqb, leb, ltb, length, get_or}
use Rattle.sets.specs.Mask.{member}
use Rattle.sets.specs.Bounded.{any, first, at_found}
use Rattle.games.specs.Format.{within, max_states, max_actions, max_observations, head_spare_at}
use Rattle.games.specs.Fields.{low_field}
use Rattle.games.specs.Places.{shape_of, start_place, place_at, table_length}
use Rattle.games.specs.Answers.{unless}
use Rattle.games.specs.Game.{Game, has_successor}
use Rattle.games.specs.Words.{game}
use Rattle.games.specs.declared.Shape.{Shape}
use Rattle.games.specs.Answers.{Checked}
use Rattle.games.specs.Answers.{refused}
use Rattle.tables.specs.Layout.{shape_in, head_top, bare_word}
use Rattle.games.specs.declared.Reason.TheVariants as reason
use Rattle.std.specs.Prelude.{Ok, Err}

-- the numbers of states, actions and observations are within the limits
unfoldable pub limits_hold : Shape → Bool
limits_hold s = within s.states max_states && (within s.actions max_actions && within s.observations max_observations)

-- the head's kind is a table's, its spare bits 25-27 are 0, and its numbers are within the limits
unfoldable pub head_right : ℕ → Bool
head_right w = eqb (w / head_spare_at) head_top && limits_hold (shape_of w)

-- 1, 2 and 3: no word, the head, the length
unfoldable pub size_checked : List ℕ → Checked
size_checked w =
    cond (eqb (length w) 0) (refused reason.NoWords 0)
    (cond (not (head_right (get_or w 0 0))) (refused reason.BadHead 0)
    (cond (not (eqb (length w) (table_length (shape_in w)))) (refused reason.BadLength (length w))
    (Ok tt)))

-- the word's kind, spare bits and index are those of its place
unfoldable pub placed : List ℕ → ℕ → Bool
placed w p = eqb (get_or w p 0) (bare_word (place_at (shape_in w) p) + low_field (get_or w p 0))

-- the mask names a state from n up
abbrev pub too_wide : (states mask : ℕ) → Bool
too_wide n s = leb (2 ^ n) s

-- the word at a place from 1 up is refused, by 4 or 5
unfoldable pub faulty : List ℕ → ℕ → Bool
faulty w p = ltb 0 p && (not (placed w p) || too_wide (shape_in w).states (low_field (get_or w p 0)))

-- 4 and 5, word by word, 4 first within a word
unfoldable pub words_checked : List ℕ → Checked
words_checked w = at_found (first (length w) (faulty w)) (λ p. cond (placed w p) (refused reason.StateBeyond p) (refused reason.Misplaced p)) (Ok tt)

-- 4 and 5 of the word at a place from 1 up
abbrev pub word_checked : List ℕ → ℕ → Checked
word_checked w p = cond (faulty w p) (cond (placed w p) (refused reason.StateBeyond p) (refused reason.Misplaced p)) (Ok tt)

-- state i shows no observation
unfoldable pub unseen : Game → ℕ → Bool
unseen g i = not (any g.observations (λ o. member (g.shown o) i))

-- 6 and 7: the start set is empty, a state shows no observation
unfoldable pub sets_checked : Game → Checked
sets_checked g =
    cond (eqb g.start 0) (refused reason.NoStart start_place)
    (at_found (first g.states (unseen g)) (λ i. refused reason.Unseen i)
    (Ok tt))

-- as the code asks it: of a start set and of words, or masks, of the observations; no word names state i
unfoldable pub unseen_in : List ℕ → ℕ → Bool
unseen_in l i = not (any (length l) (λ j. member (get_or l j 0) i))

unfoldable pub sets_from : (shown : List ℕ) → (states start : ℕ) → Checked
sets_from l n s =
    cond (eqb s 0) (refused reason.NoStart start_place)
    (at_found (first n (unseen_in l)) (λ i. refused reason.Unseen i)
    (Ok tt))

-- state i is parked, and has a successor under some action
unfoldable pub departs : Game → ℕ → Bool
departs g i = member g.parked i && any g.actions (has_successor g i)

-- 19: the lowest such state
unfoldable pub parked_checked : Game → Checked
parked_checked g = at_found (first g.states (departs g)) (λ i. refused reason.ParkedMoves i) (Ok tt)

-- as the code asks it: of a parked set, and of move words, or masks, that stand from a place on; the action gives the state a successor
abbrev pub goes_on : (words : List ℕ) (base : ℕ) → Shape → (state action : ℕ) → Bool
goes_on w base s i a = not (eqb (low_field (get_or w (base + (a * s.states + i)) 0)) 0)

unfoldable pub departs_from : (words : List ℕ) (base : ℕ) → Shape → (parked state : ℕ) → Bool
departs_from w base s parked i =
    member parked i && any s.actions (goes_on w base s i)

unfoldable pub parked_from : (words : List ℕ) (base : ℕ) → Shape → (parked : ℕ) → Checked
parked_from w base s parked = at_found (first s.states (departs_from w base s parked)) (λ i. refused reason.ParkedMoves i) (Ok tt)

-- the table checks; a table is accepted where the answer is `Ok`
unfoldable pub checked : List ℕ → Checked
checked w =
    unless (size_checked w) Err
    (unless (words_checked w) Err
    (unless (sets_checked (game w)) Err
    (parked_checked (game w))))
