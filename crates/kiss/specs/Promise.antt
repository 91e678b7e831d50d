-- What is promised of KISS2 texts (document 02, change 6), for every card and for every text.
-- Assumes nothing.
use Rattle.std.specs.Prelude.{◌≡◌, ◌↔◌, List, ◌++◌, ℕ, ◌≤◌, ◌<◌, length, take, set}
use Rattle.sets.specs.Bounded.{nothing}
use Rattle.cards.specs.Card.{checked}
use Rattle.cards.specs.Run.{ran}
use Rattle.form.specs.Form.{read, departs, byte_at}
use Rattle.kiss.specs.Text.{kiss_text}
use Rattle.kiss.specs.Profile.{reading}
use Rattle.kiss.specs.Idle.{idle}
use Rattle.kiss.specs.Legible.{emptied}
use Rattle.std.specs.Prelude.{Ok}

-- of a card without idle cells: its text reads back as the card with all sets empty, which is a card without idle cells, does the same on
-- every list of observations (the same cell and action, or the same refusal with its place), and has the same text
pub record ReadsBack (w : List ℕ) : Type 0 where
  pub reads_back : reading (kiss_text w) ≡ read (emptied w)
  pub right : checked (emptied w) ≡ Ok tt
  pub no_idle : idle (emptied w) ≡ nothing
  pub same_runs : (h : List ℕ) → ran (emptied w) h ≡ ran w h
  pub same_text : kiss_text (emptied w) ≡ kiss_text w

-- of a text that reads as the words x: they are a card, and it is their text, which reads as the same words again; where no cell is idle
-- all sets are empty
pub record Says (t x : List ℕ) : Type 0 where
  pub right : checked x ≡ Ok tt
  pub text : t ≡ kiss_text x
  pub again : reading (kiss_text x) ≡ read x
  pub empty : idle x ≡ nothing → x ≡ emptied x

-- of a text that departs at place q: the bytes before it begin the text of some card, and no card's text goes on as this one does, where
-- the end counts as a byte
pub record Departing (t : List ℕ) (q : ℕ) : Type 0 where
  pub within : q ≤ length t
  pub begins : (w rest : List ℕ) × (checked w ≡ Ok tt) × (kiss_text w ≡ take q t ++ rest)
  pub no_further : (w : List ℕ) → checked w ≡ Ok tt → ((j : ℕ) → j ≤ q → byte_at t j ≡ byte_at (kiss_text w) j) → ⊥

-- all of it, for a text of bytes: it reads as some words just where it is the text of some card; and with the byte at i changed, a place
-- before i is that of the text as it was, so a card's text is refused at i or later, if at all
pub record OfText (t : List ℕ) : Type 0 where
  pub accepted : ((x : List ℕ) × (reading t ≡ read x)) ↔ ((w : List ℕ) × (checked w ≡ Ok tt) × (t ≡ kiss_text w))
  pub says : (x : List ℕ) → reading t ≡ read x → Says t x
  pub departing : (q : ℕ) → reading t ≡ departs q → Departing t q
  pub changed : (i b q : ℕ) → reading (set t i b) ≡ departs q → q < i → reading t ≡ departs q
  pub changed_text : (w : List ℕ) → checked w ≡ Ok tt → t ≡ kiss_text w → (i b q : ℕ) → reading (set t i b) ≡ departs q → i ≤ q
