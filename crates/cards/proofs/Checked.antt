-- Laws of the check of a card's words.
-- Assumes nothing.
use Rattle.std.proofs.Common.{◌≡◌, ℕ, suc, ◌+◌, ◌*◌, ◌%◌, ◌^◌, ◌<◌, ◌≤◌, Bool, true, false, not, ◌&&◌, ◌||◌, eqb, ltb, ◌⊎◌, List, length, get_or, sym, ap, ap₂, ◌∙◌, subst, inl, inr, ⊎_elim, mul-le-mul_right, suc-mul, add-one, arith, ltb-true, le-ltb, lt-ltb, eq-eqb, ne_eqb, eqb-true}
use borrow.Author.Tests.{not-false}
use Rattle.sets.specs.Bounded.{Found, first, at_found}
use Rattle.sets.proofs.Logic.{same_truth, and_left, and_right, and_four, and_intro, or_cases, lt_or_le}
use Rattle.sets.proofs.Bounded.{first_nothing}
use Rattle.games.specs.Format.{within, max_actions, max_observations, max_sets, max_cells, low_values, number_values, action_at, action_values, kind_values, kind_first, kind_cell, kind_next}
use Rattle.games.specs.Automaton.{no_cell}
use Rattle.games.specs.Fields.{low_field, number_field, action_field, word}
use Rattle.games.specs.Words.{front_length, part_length, card_length, card_head}
use Rattle.games.specs.Answers.{refused}
use Rattle.games.proofs.Answers.{never, cond_passed, found_none}
use Rattle.games.proofs.Limits.{within_low, within_high}
use Rattle.cards.specs.Card.{head_place, first_place, cell_place, next_place, Spot, at_head, at_first, at_cell, at_next, spot_at}
use Rattle.cards.specs.Card.{card_cells, card_observations, card_actions, automaton, Fitting}
use Rattle.cards.specs.Card.{head_fits, cell_named, cell_fits, fits_at, word_fits, words_checked, checked}
use Rattle.cards.proofs.Spots.{spot_head, spot_first, spot_cell, spot_next}
use Rattle.cards.proofs.Passing.{pass_stop, pass_all, pass_on, row_stop, row_pass}
use Rattle.cards.specs.Checking.{HeadOf, Shaped, FitsBelow, names, RightNames}
use Rattle.cards.specs.declared.shape.Head.{Head}
use Rattle.games.specs.declared.Reason.TheVariants as reason
use Rattle.std.specs.Prelude.{Ok}

-- the word at a place, by what stands there
at_spot : (w : List ℕ) (p : ℕ) (x : Spot) → spot_at (card_observations w) p ≡ x → word_fits w p ≡ fits_at w x (get_or w p 0)
unfolding word_fits
at_spot w p x e = ap (λ (y : Spot). fits_at w y (get_or w p 0)) e

pub word_head : (w : List ℕ) (p : ℕ) → p ≡ 0 → word_fits w p ≡ head_fits (get_or w p 0)
word_head w p e = at_spot w p at_head (spot_head (card_observations w) p e)

module _ (w : List ℕ) where
  abbrev o : ℕ
  o = card_observations w

  pub word_begins : (j : ℕ) → j < o → word_fits w (first_place j) ≡ cell_named kind_first (card_cells w) j (get_or w (first_place j) 0)
  word_begins j l = at_spot w (first_place j) (at_first j) (spot_first o j l)

  pub word_cell : (c : ℕ) → word_fits w (cell_place o c) ≡ cell_fits (card_actions w) (get_or w (cell_place o c) 0)
  word_cell c = at_spot w (cell_place o c) (at_cell c) (spot_cell o c)

  pub word_next : (c j : ℕ) → j < o → word_fits w (next_place o c j) ≡ cell_named kind_next (card_cells w) j (get_or w (next_place o c j) 0)
  word_next c j l = at_spot w (next_place o c j) (at_next c j) (spot_next o c j l)

-- a word by how far it is above the frame of its kind and number: a cell's number where it has that frame, more than any else
pub named_told : (k m j x d y : ℕ) → k < kind_values → m < low_values → j < number_values → d < 2 ^ 32 → y ≡ word k 0 j 0 → (d + y) % 2 ^ 32 ≡ x
    → (ltb d m || eqb d no_cell) ≡ cell_named k m j x
unfolding cell_named
named_told k m j x d y kl ml jl dl e f =
    ⊎_elim
    (λ (l : d < low_values).
    let whole : x ≡ word k d j 0 = omega arith in
    let low : low_field x ≡ d = omega arith in
    rw (low, eq-eqb x (word k d j 0) whole))
    (λ (l : low_values ≤ d).
    let other : x ≡ word k (low_field x) j 0 → ⊥ = λ h. omega arith in
    rw (le-ltb d m (omega arith), ne_eqb d no_cell (λ h. omega arith), ne_eqb x (word k (low_field x) j 0) other))
    (lt_or_le d low_values)

-- four in a row, by the place of the first
pub four_told : (w : List ℕ) (k at j m : ℕ) → m ≡ card_cells w
    → (cell_named k m j (get_or w (at + j) 0) && cell_named k m (j + 1) (get_or w (at + j + 1) 0)
    && cell_named k m (j + 2) (get_or w (at + j + 2) 0) && cell_named k m (j + 3) (get_or w (at + j + 3) 0))
    ≡ (names w k at j && names w k at (j + 1) && names w k at (j + 2) && names w k at (j + 3))
four_told w k at j m e =
    let one : at + j + 1 ≡ at + (j + 1) = omega arith in
    let two : at + j + 2 ≡ at + (j + 2) = omega arith in
    let three : at + j + 3 ≡ at + (j + 3) = omega arith in
    rw (e, one, two, three)

-- a cell's own word by how far it is above the frame of its kind: its set and its action, more than any where it has another frame
pub cell_told : (a x d y : ℕ) → a < action_values → d < 2 ^ 32 → y ≡ word kind_cell 0 0 0 → (d + y) % 2 ^ 32 ≡ x
    → (ltb (d % action_at) max_sets && ltb d (a * action_at)) ≡ cell_fits a x
unfolding cell_fits
cell_told a x d y al dl e f =
    let set = low_field x in
    let action = action_field x in
    let whole = word kind_cell set 0 action in
    same_truth (ltb (d % action_at) max_sets && ltb d (a * action_at)) (eqb x whole && ltb set max_sets && ltb action a)
    (λ h.
    let low : d % action_at < max_sets = ltb-true (d % action_at) max_sets (and_left (ltb (d % action_at) max_sets) (ltb d (a * action_at)) h) in
    let most : d < a * action_at = ltb-true d (a * action_at) (and_right (ltb (d % action_at) max_sets) (ltb d (a * action_at)) h) in
    and_intro (and_intro (eq-eqb x whole (omega arith)) (lt-ltb set max_sets (omega arith))) (lt-ltb action a (omega arith)))
    (λ h.
    let both = and_left (eqb x whole && ltb set max_sets) (ltb action a) h in
    let shape : x ≡ whole = eqb-true x whole (and_left (eqb x whole) (ltb set max_sets) both) in
    let low : set < max_sets = ltb-true set max_sets (and_right (eqb x whole) (ltb set max_sets) both) in
    let most : action < a = ltb-true action a (and_right (eqb x whole && ltb set max_sets) (ltb action a) h) in
    and_intro (lt-ltb (d % action_at) max_sets (omega arith)) (lt-ltb d (a * action_at) (omega arith)))

pub head_told : (x : ℕ) (h : Head) (y : ℕ) (p q r : Bool) → HeadOf x h → y ≡ card_head h.cells h.observations h.actions → p ≡ within h.cells max_cells
    → q ≡ within h.observations max_observations → r ≡ within h.actions max_actions → (eqb x y && p && q && r) ≡ head_fits x
unfolding head_fits
head_told x h y p q r e f i j k = rw (i, j, k, f, e.cells, e.observations, e.actions)

-- ---- the check goes through the words in order

module _ (w : List ℕ) where
  pub stopped : (p : ℕ) → FitsBelow w p → p < length w → word_fits w p ≡ false → words_checked w ≡ refused reason.NoCard p
  unfolding words_checked
  stopped p h l e = ap (λ (f : Found). at_found f (refused reason.NoCard) (Ok tt)) (pass_stop (word_fits w) (length w) p h l e)

  pub fits_all : FitsBelow w (length w) → words_checked w ≡ Ok tt
  unfolding words_checked
  fits_all h = ap (λ (f : Found). at_found f (refused reason.NoCard) (Ok tt)) (pass_all (word_fits w) (length w) h)

  -- a head that fits
  pub fits_head : Shaped w → FitsBelow w 1
  fits_head s =
      record {
        within = omega (arith, s.long);
        right = λ q l. let z : q ≡ 0 = omega arith in word_head w q z ∙ ap (λ (i : ℕ). head_fits (get_or w i 0)) z ∙ s.head;
      }

  -- n first or next words, from a place on: the first wrong one stops the check
  names_stop : (k at n r : ℕ) → ((j : ℕ) → j < n → word_fits w (at + j) ≡ names w k at j) → at + n ≤ length w → FitsBelow w at
      → RightNames w k at n r → r < n → words_checked w ≡ refused reason.NoCard (at + r)
  unfolding words_checked
  names_stop k at n r same enough below ended l =
      ap (λ (f : Found). at_found f (refused reason.NoCard) (Ok tt)) (row_stop (word_fits w) (length w) (names w k at) at n r same enough below ended l)

-- the head, the length, and then the words
pub no_word : (w : List ℕ) → length w ≡ 0 → checked w ≡ refused reason.NoCard 0
unfolding checked
no_word w e = rw (checked, eq-eqb (length w) 0 e)

pub wrong_head : (w : List ℕ) → (length w ≡ 0 → ⊥) → head_fits (get_or w 0 0) ≡ false → checked w ≡ refused reason.NoCard 0
unfolding checked
wrong_head w n h = rw (checked, ne_eqb (length w) 0 n, h)

-- the length that a head asks for, by its numbers
as_many : (w : List ℕ) (h : Head) → HeadOf (get_or w head_place 0) h → (asked : ℕ) → asked ≡ card_length h.cells h.observations
    → asked ≡ card_length (card_cells w) (card_observations w)
as_many w h e asked a = a ∙ ap₂ (λ (m o : ℕ). card_length m o) e.cells e.observations

pub wrong_length : (w : List ℕ) → (length w ≡ 0 → ⊥) → head_fits (get_or w 0 0) ≡ true
    → (h : Head) → HeadOf (get_or w head_place 0) h → (asked : ℕ) → asked ≡ card_length h.cells h.observations → (length w ≡ asked → ⊥)
    → checked w ≡ refused reason.NoCard (length w)
unfolding checked
wrong_length w n r h e asked a m =
    let as_head : asked ≡ card_length (card_cells w) (card_observations w) = as_many w h e asked a in
    rw (checked, ne_eqb (length w) 0 n, r, ne_eqb (length w) (card_length (card_cells w) (card_observations w)) (λ z. m (z ∙ sym as_head)))

pub shaped_as_read : (w : List ℕ) → head_fits (get_or w 0 0) ≡ true → (h : Head) → HeadOf (get_or w head_place 0) h
    → (asked : ℕ) → asked ≡ card_length h.cells h.observations → length w ≡ asked → Shaped w
shaped_as_read w r h e asked a m = record { head = r; long = m ∙ as_many w h e asked a }

pub only_words : (w : List ℕ) → (length w ≡ 0 → ⊥) → Shaped w → checked w ≡ words_checked w
unfolding checked
only_words w n s = rw (checked, ne_eqb (length w) 0 n, s.head, eq-eqb (length w) (card_length (card_cells w) (card_observations w)) s.long)

-- what a check that comes out fine has seen
pub record Sound (w : List ℕ) : Type 0 where
  pub head : head_fits (get_or w head_place 0) ≡ true
  pub long : length w ≡ card_length (card_cells w) (card_observations w)
  pub words : (p : ℕ) → p < length w → word_fits w p ≡ true

words_fine : (w : List ℕ) → words_checked w ≡ Ok tt → (p : ℕ) → p < length w → word_fits w p ≡ true
unfolding words_checked
words_fine w e p l =
    let wrong : ℕ → Bool = λ q. not (word_fits w q) in
    not-false (word_fits w p) (first_nothing (length w) wrong (found_none (first (length w) wrong) (refused reason.NoCard) (λ i r. never reason.NoCard i r) e) p l)

pub sound : (w : List ℕ) → checked w ≡ Ok tt → Sound w
unfolding checked
sound w e =
    let asked = card_length (card_cells w) (card_observations w) in
    let one = cond_passed (eqb (length w) 0) reason.NoCard 0 _ e in
    let two = cond_passed (not (head_fits (get_or w head_place 0))) reason.NoCard head_place _ one.1 in
    let three = cond_passed (not (eqb (length w) asked)) reason.NoCard (length w) _ two.1 in
    record {
      head = not-false (head_fits (get_or w head_place 0)) two.0;
      long = eqb-true (length w) asked (not-false (eqb (length w) asked) three.0);
      words = words_fine w three.1;
    }

-- what a head that fits says
pub record Headed (x : ℕ) : Type 0 where
  pub shape : x ≡ card_head (low_field x) (number_field x) (action_field x)
  pub some_cell : 1 ≤ low_field x
  pub cells : low_field x ≤ max_cells
  pub some_observation : 1 ≤ number_field x
  pub observations : number_field x ≤ max_observations
  pub some_action : 1 ≤ action_field x
  pub actions : action_field x ≤ max_actions

pub headed : (x : ℕ) → head_fits x ≡ true → Headed x
unfolding head_fits
headed x e =
    let made = card_head (low_field x) (number_field x) (action_field x) in
    let f = and_four (eqb x made) (within (low_field x) max_cells) (within (number_field x) max_observations) (within (action_field x) max_actions) e in
    record {
      shape = eqb-true x made f.0;
      some_cell = within_low (low_field x) max_cells f.1;
      cells = within_high (low_field x) max_cells f.1;
      some_observation = within_low (number_field x) max_observations f.2;
      observations = within_high (number_field x) max_observations f.2;
      some_action = within_low (action_field x) max_actions f.3;
      actions = within_high (action_field x) max_actions f.3;
    }

-- the places of a card lie in it
module _ (m o : ℕ) where
  -- a cell's part lies in it
  part_within : (c r : ℕ) → c < m → r < part_length o → cell_place o c + r < card_length m o
  part_within c r l k =
      let e : suc c * part_length o ≤ m * part_length o = mul-le-mul_right (part_length o) l in
      omega (arith, suc-mul c (part_length o))

  pub cell_within : (c : ℕ) → c < m → cell_place o c < card_length m o
  cell_within c l = let e : cell_place o c + 0 < card_length m o = part_within c 0 l (omega arith) in omega arith

  pub next_within : (c j : ℕ) → c < m → j < o → next_place o c j < card_length m o
  next_within c j l k = let e : cell_place o c + (1 + j) < card_length m o = part_within c (1 + j) l (omega arith) in omega arith

  pub first_within : (j : ℕ) → j < o → first_place j < card_length m o
  first_within j l = omega arith

-- the part behind a part
pub part_behind : (o c : ℕ) → cell_place o c + part_length o ≡ cell_place o (c + 1)
part_behind o c = omega (arith, suc-mul c (part_length o), ap (λ (n : ℕ). n * part_length o) (add-one c))

-- ---- the check of the first words and of a cell's part, for words that are as many as the head asks for
module _ (w : List ℕ) (s : Shaped w) where
  abbrev seen : ℕ
  seen = card_observations w

  pub firsts_in : 1 + seen ≤ length w
  firsts_in = omega (arith, s.long)

  module _ (r : ℕ) (found : RightNames w kind_first 1 seen r) where
    pub firsts_stop : r < seen → words_checked w ≡ refused reason.NoCard (1 + r)
    firsts_stop = names_stop w kind_first 1 seen r (word_begins w) firsts_in (fits_head w s) found

    pub firsts_fit : seen ≤ r → FitsBelow w (front_length seen)
    firsts_fit = row_pass (word_fits w) (length w) (names w kind_first 1) 1 seen r (word_begins w) firsts_in (fits_head w s) found

  -- the part of cell c lies in the words
  pub part_in : (c p : ℕ) → c < card_cells w → p ≡ cell_place seen c → p + part_length seen ≤ length w
  part_in c p l g = let e : cell_place seen c + seen < card_length (card_cells w) seen = part_within (card_cells w) seen c seen l (omega arith) in omega (arith, s.long)

  -- by the numbers that were read of the head: the part of cell c, at place p
  module _ (h : Head) (e : HeadOf (get_or w head_place 0) h) (c p : ℕ) (l : c < h.cells) (g : p ≡ cell_place h.observations c) where
    place : p ≡ cell_place seen c
    place = g ∙ ap (λ (o : ℕ). cell_place o c) e.observations

    inside : p + part_length seen ≤ length w
    inside = part_in c p (omega (arith, e.cells)) place

    own_fits : word_fits w p ≡ cell_fits h.actions (get_or w p 0)
    own_fits =
        subst (λ (i : ℕ). word_fits w i ≡ cell_fits (card_actions w) (get_or w i 0)) (sym place) (word_cell w c)
        ∙ ap (λ (a : ℕ). cell_fits a (get_or w p 0)) (sym e.actions)

    next_fits : (j : ℕ) → j < seen → word_fits w (p + 1 + j) ≡ names w kind_next (p + 1) j
    next_fits j k = subst (λ (i : ℕ). word_fits w (i + 1 + j) ≡ cell_named kind_next (card_cells w) j (get_or w (i + 1 + j) 0)) (sym place) (word_next w c j k)

    module _ (below : FitsBelow w (cell_place seen c)) (t : Bool) (own : t ≡ cell_fits h.actions (get_or w p 0)) where
      here : FitsBelow w p
      here = subst (FitsBelow w) (sym place) below

      pub own_stop : t ≡ false → words_checked w ≡ refused reason.NoCard p
      own_stop f = stopped w p here (omega (arith, inside)) (own_fits ∙ sym own ∙ f)

      module _ (right : t ≡ true) (r : ℕ) (found : RightNames w kind_next (p + 1) seen r) where
        behind_own : FitsBelow w (p + 1)
        behind_own =
            pass_on (word_fits w) (length w) p 1 here (omega (arith, inside))
            (λ i k. let z : p ≡ p + i = omega arith in subst (λ (q : ℕ). word_fits w q ≡ true) z (own_fits ∙ sym own ∙ right))

        pub nexts_stop : r < h.observations → words_checked w ≡ refused reason.NoCard (p + 1 + r)
        nexts_stop k = names_stop w kind_next (p + 1) seen r next_fits (omega (arith, inside)) behind_own found (omega (arith, e.observations))

        pub nexts_fit : h.observations ≤ r → FitsBelow w (cell_place seen (c + 1))
        nexts_fit k =
            let z : p + 1 + seen ≡ cell_place seen (c + 1) = omega (arith, part_behind seen c, place) in
            subst (FitsBelow w) z (row_pass (word_fits w) (length w) (names w kind_next (p + 1)) (p + 1) seen r next_fits (omega (arith, inside)) behind_own found (omega (arith, e.observations)))

  pub parts_fit : (h : Head) → HeadOf (get_or w head_place 0) h → (c : ℕ) → FitsBelow w (cell_place seen c) → h.cells ≤ c → c ≤ h.cells → words_checked w ≡ Ok tt
  parts_fit h e c below most least =
      let all : c ≡ card_cells w = omega (arith, e.cells) in
      let end : cell_place seen c ≡ length w = ap (cell_place seen) all ∙ sym s.long in
      fits_all w (subst (FitsBelow w) end below)

-- what right words say
pub named : (k m j x : ℕ) → cell_named k m j x ≡ true → (low_field x < m) ⊎ (low_field x ≡ no_cell)
unfolding cell_named
named k m j x e =
    ⊎_elim (λ h. inl (ltb-true (low_field x) m h)) (λ h. inr (eqb-true (low_field x) no_cell h))
    (or_cases (ltb (low_field x) m) (eqb (low_field x) no_cell) (and_right (eqb x (word k (low_field x) j 0)) (ltb (low_field x) m || eqb (low_field x) no_cell) e))

pub cell_set : (a x : ℕ) → cell_fits a x ≡ true → low_field x < max_sets
unfolding cell_fits
cell_set a x e =
    let s = eqb x (word kind_cell (low_field x) 0 (action_field x)) in
    ltb-true (low_field x) max_sets (and_right s (ltb (low_field x) max_sets) (and_left (s && ltb (low_field x) max_sets) (ltb (action_field x) a) e))

named_shape : (k m j x : ℕ) → cell_named k m j x ≡ true → x ≡ word k (low_field x) j 0
unfolding cell_named
named_shape k m j x e =
    eqb-true x (word k (low_field x) j 0) (and_left (eqb x (word k (low_field x) j 0)) (ltb (low_field x) m || eqb (low_field x) no_cell) e)

cell_shape : (a x : ℕ) → cell_fits a x ≡ true → x ≡ word kind_cell (low_field x) 0 (action_field x)
unfolding cell_fits
cell_shape a x e =
    let s = eqb x (word kind_cell (low_field x) 0 (action_field x)) in
    eqb-true x (word kind_cell (low_field x) 0 (action_field x)) (and_left s (ltb (low_field x) max_sets) (and_left (s && ltb (low_field x) max_sets) (ltb (action_field x) a) e))

pub cell_action : (a x : ℕ) → cell_fits a x ≡ true → action_field x < a
unfolding cell_fits
cell_action a x e =
    ltb-true (action_field x) a (and_right (eqb x (word kind_cell (low_field x) 0 (action_field x)) && ltb (low_field x) max_sets) (ltb (action_field x) a) e)

-- what a card means can be held by a card
module _ (w : List ℕ) (e : checked w ≡ Ok tt) where
  abbrev m : ℕ
  m = card_cells w

  abbrev os : ℕ
  os = card_observations w

  in_card : (p : ℕ) → p < card_length m os → p < length w
  in_card p l = subst (λ (n : ℕ). p < n) (sym (sound w e).long) l

  right : (p : ℕ) → p < card_length m os → word_fits w p ≡ true
  right p l = (sound w e).words p (in_card p l)

  cell_right : (c : ℕ) → c < m → cell_fits (card_actions w) (get_or w (cell_place os c) 0) ≡ true
  cell_right c l = sym (word_cell w c) ∙ right (cell_place os c) (cell_within m os c l)

  pub fitting : Fitting (automaton w) (card_actions w) os
  unfolding automaton
  fitting =
      let h = headed (get_or w head_place 0) (sound w e).head in
      record {
        some_cell = h.some_cell;
        cells = h.cells;
        some_action = h.some_action;
        actions = h.actions;
        some_observation = h.some_observation;
        observations = h.observations;
        set_below = λ c l. cell_set (card_actions w) _ (cell_right c l);
        action_below = λ c l. cell_action (card_actions w) _ (cell_right c l);
        begins_named = λ j l. named kind_first m j _ (sym (word_begins w j l) ∙ right (first_place j) (first_within m os j l));
        next_named = λ c j l k. named kind_next m j _ (sym (word_next w c j k) ∙ right (next_place os c j) (next_within m os c j l k));
      }

  -- the words are those of the automaton: the head's, the first cells', a cell's set and action, its next cells'
  pub head_word_lem : get_or w head_place 0 ≡ card_head (automaton w).size os (card_actions w)
  unfolding automaton
  head_word_lem = (headed (get_or w head_place 0) (sound w e).head).shape

  pub first_word : (j : ℕ) → j < os → get_or w (first_place j) 0 ≡ word kind_first ((automaton w).begins j) j 0
  unfolding automaton
  first_word j l = named_shape kind_first m j _ (sym (word_begins w j l) ∙ right (first_place j) (first_within m os j l))

  pub next_word_lem : (c j : ℕ) → c < m → j < os → get_or w (next_place os c j) 0 ≡ word kind_next ((automaton w).next c j) j 0
  unfolding automaton
  next_word_lem c j l k = named_shape kind_next m j _ (sym (word_next w c j k) ∙ right (next_place os c j) (next_within m os c j l k))

  pub own_word : (c : ℕ) → c < m → get_or w (cell_place os c) 0 ≡ word kind_cell ((automaton w).set c) 0 ((automaton w).action c)
  unfolding automaton
  own_word c l = cell_shape (card_actions w) (get_or w (cell_place os c) 0) (cell_right c l)

  pub shaped : Shaped w
  shaped = let s = sound w e in record { head = s.head; long = s.long }

  -- the places of a checked card lie in it
  pub some_word : 0 < length w
  some_word = omega (arith, (sound w e).long)

  pub first_in : (j : ℕ) → j < os → first_place j < length w
  first_in j l = in_card (first_place j) (first_within m os j l)

  pub cell_in : (c : ℕ) → c < m → cell_place os c < length w
  cell_in c l = in_card (cell_place os c) (cell_within m os c l)

  pub next_in : (c j : ℕ) → c < m → j < os → next_place os c j < length w
  next_in c j l k = in_card (next_place os c j) (next_within m os c j l k)
