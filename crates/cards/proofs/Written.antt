-- The words that are written of an automaton are a card, and mean that automaton.
-- Assumes nothing.
use Rattle.std.proofs.Common.{◌≡◌, ℕ, suc, ◌+◌, ◌*◌, ◌<◌, ◌≤◌, true, ◌||◌, eqb, ltb, ◌⊎◌, List, [], ◌∷◌, ◌++◌, length, get_or, sym, refl, ap, ◌∙◌, subst, ap₂, ⊎_elim, arith, length-append, get_or-append-add, ext_get_or, lt-ltb, eq-eqb}
use lib.ListN.{get_or-append}
use Rattle.sets.specs.Bounded.{gather}
use Rattle.sets.proofs.Logic.{and_intro, or_left, or_right}
use Rattle.games.specs.Format.{max_actions, max_observations, max_sets, max_cells, low_values, number_values, action_values, kind_card, kind_first, kind_cell, kind_next}
use Rattle.games.specs.Automaton.{Automaton, no_cell}
use Rattle.games.specs.Fields.{low_field, number_field, action_field, word}
use Rattle.games.specs.Words.{front_length, part_length, card_length, cell_words, card_words, card_head}
use Rattle.games.proofs.Limits.{within_limit}
use Rattle.cards.specs.Card.{head_place, first_place, cell_place, next_place, card_cells, card_observations, card_actions, automaton, head_fits, cell_named, cell_fits, word_fits, checked, Named, Fitting}
use Rattle.sets.proofs.Fills.{gather_length, gather_at, gather_ext, length_values, get_d_values}
use Rattle.cards.proofs.Spots.{every_place}
use Rattle.cards.proofs.Checked.{word_head, word_begins, word_cell, word_next, only_words, fits_all, shaped}
use Rattle.cards.proofs.Checked.{head_word_lem as head_told, first_word as first_told, own_word as own-told, next_word_lem as next_told}
use Rattle.cards.proofs.Running.{size_of, set_of_lem, action_of_lem, begins_of, next_of}
use Rattle.std.specs.Prelude.{Ok}

-- the fields of a word
pub low_of : (k x n y : ℕ) → x < low_values → n < number_values → y < action_values → low_field (word k x n y) ≡ x
low_of k x n y a b c = omega arith

pub number_of : (k x n y : ℕ) → x < low_values → n < number_values → y < action_values → number_field (word k x n y) ≡ n
number_of k x n y a b c = omega arith

pub action_of_word : (k x n y : ℕ) → x < low_values → n < number_values → y < action_values → action_field (word k x n y) ≡ y
action_of_word k x n y a b c = omega arith

-- the words that are written are right
pub head_right_lem : (m o a : ℕ) → 1 ≤ m → m ≤ max_cells → 1 ≤ o → o ≤ max_observations → 1 ≤ a → a ≤ max_actions → head_fits (card_head m o a) ≡ true
unfolding head_fits
head_right_lem m o a p q r s t u =
    let x = card_head m o a in
    let e : low_field x ≡ m = low_of kind_card m o a (omega arith) (omega arith) (omega arith) in
    let f : number_field x ≡ o = number_of kind_card m o a (omega arith) (omega arith) (omega arith) in
    let g : action_field x ≡ a = action_of_word kind_card m o a (omega arith) (omega arith) (omega arith) in
    and_intro
    (and_intro
    (and_intro (eq-eqb x (card_head (low_field x) (number_field x) (action_field x)) (omega arith)) (within_limit (low_field x) max_cells (omega arith) (omega arith)))
    (within_limit (number_field x) max_observations (omega arith) (omega arith)))
    (within_limit (action_field x) max_actions (omega arith) (omega arith))

one_named : (m x : ℕ) → (x < m) ⊎ (x ≡ no_cell) → (ltb x m || eqb x no_cell) ≡ true
one_named m x h = ⊎_elim (λ l. or_left (eqb x no_cell) (lt-ltb x m l)) (λ e. or_right (ltb x m) (eq-eqb x no_cell e)) h

pub named_right : (k m j x : ℕ) → x < low_values → j < number_values → (x < m) ⊎ (x ≡ no_cell) → cell_named k m j (word k x j 0) ≡ true
unfolding cell_named
named_right k m j x a b h =
    let y = word k x j 0 in
    let e : low_field y ≡ x = low_of k x j 0 a b (omega arith) in
    and_intro (eq-eqb y (word k (low_field y) j 0) (ap (λ (z : ℕ). word k z j 0) (sym e))) (subst (λ (z : ℕ). (ltb z m || eqb z no_cell) ≡ true) (sym e) (one_named m x h))

pub cell_right : (a x y : ℕ) → x < max_sets → y < a → a ≤ max_actions → cell_fits a (word kind_cell x 0 y) ≡ true
unfolding cell_fits
cell_right a x y p q r =
    let z = word kind_cell x 0 y in
    let e : low_field z ≡ x = low_of kind_cell x 0 y (omega arith) (omega arith) (omega arith) in
    let f : action_field z ≡ y = action_of_word kind_cell x 0 y (omega arith) (omega arith) (omega arith) in
    and_intro (and_intro (eq-eqb z (word kind_cell (low_field z) 0 (action_field z)) (omega arith)) (lt-ltb (low_field z) max_sets (omega arith))) (lt-ltb (action_field z) a (omega arith))

-- where the words of an automaton stand
module _ (A : Automaton) (a o : ℕ) where
  abbrev firsts : List ℕ
  firsts = gather o (λ j. word kind_first (A.begins j) j 0 ∷ [])

  abbrev cells_of : List ℕ
  cells_of = gather A.size (cell_words A o)

  pub cell_length : (c : ℕ) → length (cell_words A o c) ≡ part_length o
  unfolding cell_words
  cell_length c = omega (arith, length_values (λ j. word kind_next (A.next c j) j 0) o)

  firsts_length : length firsts ≡ o
  firsts_length = length_values (λ j. word kind_first (A.begins j) j 0) o

  cells_length : length cells_of ≡ A.size * part_length o
  cells_length = gather_length A.size (part_length o) (cell_words A o) (λ c l. cell_length c)

  pub card_long : length (card_words A a o) ≡ card_length A.size o
  unfolding card_words
  card_long = omega (arith, length-append firsts cells_of, firsts_length, cells_length)

  pub head_at : get_or (card_words A a o) head_place 0 ≡ card_head A.size o a
  unfolding card_words
  head_at = refl

  -- behind the head
  tail_at : (p : ℕ) → get_or (card_words A a o) (1 + p) 0 ≡ get_or (firsts ++ cells_of) p 0
  unfolding card_words
  tail_at p = ap (λ (q : ℕ). get_or (card_words A a o) q 0) (let e : 1 + p ≡ suc p = omega arith in e)

  pub first_at : (j : ℕ) → j < o → get_or (card_words A a o) (first_place j) 0 ≡ word kind_first (A.begins j) j 0
  first_at j l = tail_at j ∙ get_or-append firsts cells_of 0 j (omega (arith, firsts_length)) ∙ get_d_values (λ i. word kind_first (A.begins i) i 0) o j l

  -- behind the front
  cells_at : (q : ℕ) → get_or (card_words A a o) (front_length o + q) 0 ≡ get_or cells_of q 0
  cells_at q =
      ap (λ (p : ℕ). get_or (card_words A a o) p 0) (let e : front_length o + q ≡ 1 + (length firsts + q) = omega (arith, firsts_length) in e)
      ∙ tail_at (length firsts + q)
      ∙ get_or-append-add firsts cells_of q 0

  -- word r of a cell's part
  part_at : (c r p : ℕ) → c < A.size → r < part_length o → p ≡ cell_place o c + r → get_or (card_words A a o) p 0 ≡ get_or (cell_words A o c) r 0
  part_at c r p l k f =
      ap (λ (q : ℕ). get_or (card_words A a o) q 0) (let e : p ≡ front_length o + (c * part_length o + r) = omega arith in e)
      ∙ cells_at (c * part_length o + r)
      ∙ gather_at A.size (part_length o) (cell_words A o) (λ i b. cell_length i) c r l k

  pub cell_at : (c : ℕ) → c < A.size → get_or (card_words A a o) (cell_place o c) 0 ≡ word kind_cell (A.set c) 0 (A.action c)
  unfolding cell_words
  cell_at c l = part_at c 0 (cell_place o c) l (omega arith) (omega arith)

  pub next_at : (c j : ℕ) → c < A.size → j < o → get_or (card_words A a o) (next_place o c j) 0 ≡ word kind_next (A.next c j) j 0
  unfolding cell_words
  next_at c j l k = part_at c (suc j) (next_place o c j) l (omega arith) (omega arith) ∙ get_d_values (λ i. word kind_next (A.next c i) i 0) o j k

-- two automata with the same cells, sets and actions, and the same first and next cells for o observations
pub record Agree (A B : Automaton) (o : ℕ) : Type 0 where
  pub size_same : A.size ≡ B.size
  pub set_same : (c : ℕ) → c < A.size → A.set c ≡ B.set c
  pub action_same : (c : ℕ) → c < A.size → A.action c ≡ B.action c
  pub begins_same : (j : ℕ) → j < o → A.begins j ≡ B.begins j
  pub next_same : (c j : ℕ) → c < A.size → j < o → A.next c j ≡ B.next c j

-- they are written alike
module _ (A B : Automaton) (o : ℕ) (E : Agree A B o) where
  same_part : (c : ℕ) → c < A.size → cell_words A o c ≡ cell_words B o c
  unfolding cell_words
  same_part c l =
      ap₂ ◌∷◌ (ap₂ (λ (s x : ℕ). word kind_cell s 0 x) (E.set_same c l) (E.action_same c l))
      (gather_ext o (λ j. word kind_next (A.next c j) j 0 ∷ []) (λ j. word kind_next (B.next c j) j 0 ∷ [])
      (λ j k. ap (λ (d : ℕ). word kind_next d j 0 ∷ []) (E.next_same c j l k)))

  pub same_words : (a : ℕ) → card_words A a o ≡ card_words B a o
  unfolding card_words
  same_words a =
      ap₂ ◌∷◌ (ap (λ (m : ℕ). card_head m o a) E.size_same)
      (ap₂ ◌++◌
      (gather_ext o (λ j. word kind_first (A.begins j) j 0 ∷ []) (λ j. word kind_first (B.begins j) j 0 ∷ [])
      (λ j l. ap (λ (d : ℕ). word kind_first d j 0 ∷ []) (E.begins_same j l)))
      (gather_ext A.size (cell_words A o) (cell_words B o) same_part ∙ ap (λ (m : ℕ). gather m (cell_words B o)) E.size_same))

module _ (A : Automaton) (a o : ℕ) (F : Fitting A a o) where
  cell_small : (c : ℕ) → Named A c → c < low_values
  cell_small c h = ⊎_elim (λ (l : c < A.size). omega (arith, F.cells)) (λ (e : c ≡ no_cell). omega arith) h

  pub written_cells : card_cells (card_words A a o) ≡ A.size
  written_cells = ap low_field (head_at A a o) ∙ low_of kind_card A.size o a (omega arith) (omega arith) (omega arith)

  pub written_observations : card_observations (card_words A a o) ≡ o
  written_observations = ap number_field (head_at A a o) ∙ number_of kind_card A.size o a (omega arith) (omega arith) (omega arith)

  pub written_actions : card_actions (card_words A a o) ≡ a
  written_actions = ap action_field (head_at A a o) ∙ action_of_word kind_card A.size o a (omega arith) (omega arith) (omega arith)

  written_long : length (card_words A a o) ≡ card_length (card_cells (card_words A a o)) (card_observations (card_words A a o))
  written_long = rw (written_cells, written_observations) (card_long A a o)

  head_word_lem : head_fits (get_or (card_words A a o) head_place 0) ≡ true
  head_word_lem = ap head_fits (head_at A a o) ∙ head_right_lem A.size o a F.some_cell F.cells F.some_observation F.observations F.some_action F.actions

  -- each word is right, by its place
  first_word : (j : ℕ) → j < o → word_fits (card_words A a o) (first_place j) ≡ true
  first_word j l =
      word_begins (card_words A a o) j (omega (arith, written_observations))
      ∙ ap (cell_named kind_first (card_cells (card_words A a o)) j) (first_at A a o j l)
      ∙ ap (λ (m : ℕ). cell_named kind_first m j (word kind_first (A.begins j) j 0)) written_cells
      ∙ named_right kind_first A.size j (A.begins j) (cell_small (A.begins j) (F.begins_named j l)) (omega (arith, F.observations)) (F.begins_named j l)

  cell_word : (c : ℕ) → c < A.size → word_fits (card_words A a o) (cell_place o c) ≡ true
  cell_word c l =
      ap (λ (p : ℕ). word_fits (card_words A a o) (cell_place p c)) (sym written_observations)
      ∙ word_cell (card_words A a o) c
      ∙ ap (λ (p : ℕ). cell_fits (card_actions (card_words A a o)) (get_or (card_words A a o) (cell_place p c) 0)) written_observations
      ∙ ap (cell_fits (card_actions (card_words A a o))) (cell_at A a o c l)
      ∙ ap (λ (b : ℕ). cell_fits b (word kind_cell (A.set c) 0 (A.action c))) written_actions
      ∙ cell_right a (A.set c) (A.action c) (F.set_below c l) (F.action_below c l) F.actions

  next_word_lem : (c j : ℕ) → c < A.size → j < o → word_fits (card_words A a o) (next_place o c j) ≡ true
  next_word_lem c j l k =
      ap (λ (p : ℕ). word_fits (card_words A a o) (next_place p c j)) (sym written_observations)
      ∙ word_next (card_words A a o) c j (omega (arith, written_observations))
      ∙ ap (λ (p : ℕ). cell_named kind_next (card_cells (card_words A a o)) j (get_or (card_words A a o) (next_place p c j) 0)) written_observations
      ∙ ap (cell_named kind_next (card_cells (card_words A a o)) j) (next_at A a o c j l k)
      ∙ ap (λ (m : ℕ). cell_named kind_next m j (word kind_next (A.next c j) j 0)) written_cells
      ∙ named_right kind_next A.size j (A.next c j) (cell_small (A.next c j) (F.next_named c j l k)) (omega (arith, F.observations)) (F.next_named c j l k)

  pub every_word : (p : ℕ) → p < length (card_words A a o) → word_fits (card_words A a o) p ≡ true
  every_word p l =
      every_place A.size o (λ q. word_fits (card_words A a o) q ≡ true) (word_head (card_words A a o) 0 refl ∙ head_word_lem) first_word cell_word next_word_lem p
      (omega (arith, card_long A a o))

  pub written_checked : checked (card_words A a o) ≡ Ok tt
  written_checked =
      let w = card_words A a o in
      only_words w (λ e. omega (arith, card_long A a o)) (record { head = head_word_lem; long = written_long })
      ∙ fits_all w (record { within = omega arith; right = every_word })

  -- the card means the automaton that it was written of
  pub written_agrees : Agree (automaton (card_words A a o)) A o
  written_agrees =
      let w = card_words A a o in
      let out : (c : ℕ) → c < (automaton w).size → c < A.size = λ c l. subst (λ (n : ℕ). c < n) (size_of w ∙ written_cells) l in
      record {
        size_same = size_of w ∙ written_cells;
        set_same = λ c l. set_of_lem w c ∙ ap (λ (p : ℕ). low_field (get_or w (cell_place p c) 0)) written_observations ∙ ap low_field (cell_at A a o c (out c l))
            ∙ low_of kind_cell (A.set c) 0 (A.action c) (omega (arith, F.set_below c (out c l))) (omega arith) (omega (arith, F.action_below c (out c l)));
        action_same = λ c l. action_of_lem w c ∙ ap (λ (p : ℕ). action_field (get_or w (cell_place p c) 0)) written_observations ∙ ap action_field (cell_at A a o c (out c l))
            ∙ action_of_word kind_cell (A.set c) 0 (A.action c) (omega (arith, F.set_below c (out c l))) (omega arith) (omega (arith, F.action_below c (out c l)));
        begins_same = λ j l. begins_of w j ∙ ap low_field (first_at A a o j l) ∙ low_of kind_first (A.begins j) j 0 (cell_small (A.begins j) (F.begins_named j l)) (omega arith) (omega arith);
        next_same = λ c j l k. next_of w c j ∙ ap (λ (p : ℕ). low_field (get_or w (next_place p c j) 0)) written_observations ∙ ap low_field (next_at A a o c j (out c l) k)
            ∙ low_of kind_next (A.next c j) j 0 (cell_small (A.next c j) (F.next_named c j (out c l) k)) (omega arith) (omega arith);
      }

-- a card is the words of what it means
pub words_back : (w : List ℕ) → checked w ≡ Ok tt → card_words (automaton w) (card_actions w) (card_observations w) ≡ w
words_back w e =
    let A = automaton w in
    let a = card_actions w in
    let o = card_observations w in
    let inside : (c : ℕ) → c < A.size → c < card_cells w = λ c l. omega (arith, size_of w) in
    let long : length (card_words A a o) ≡ card_length A.size o = card_long A a o in
    ext_get_or 0 (card_words A a o) w (long ∙ ap (λ (m : ℕ). card_length m o) (size_of w) ∙ sym (shaped w e).long)
    (λ p l.
    every_place A.size o (λ q. get_or (card_words A a o) q 0 ≡ get_or w q 0)
    (head_at A a o ∙ sym (head_told w e))
    (λ j b. first_at A a o j b ∙ sym (first_told w e j b))
    (λ c b. cell_at A a o c b ∙ sym (own-told w e c (inside c b)))
    (λ c j b k. next_at A a o c j b k ∙ sym (next_told w e c j (inside c b) k))
    p (omega (arith, long)))
