-- What a card does on a list of observations: one observation more, and the automaton's cell and action as long as no observation
-- is one that cannot occur; where it ends in a cell, that is the automaton's. A card that meets the second demand is never refused on a play under it.
-- Assumes nothing.
use Rattle.std.proofs.Common.{◌≡◌, ℕ, ◌+◌, ◌<◌, ◌≤◌, eqb, List, [], ◌∷◌, ◌++◌, length, get_or, take, sym, refl, ap, ◌∙◌, subst, ⊎_elim, not-suc-le-zero, add-one, arith, length-append, length-take-le, take-suc, eqb-true}
use borrow.Author.Tests.{eqb-false}
use Rattle.sets.proofs.Logic.{decided, lt_or_le}
use Rattle.games.specs.Game.{Game, Accepted}
use Rattle.games.specs.Play.{Play, begin, more as longer, PlayOf, seen}
use Rattle.games.specs.Automaton.{Automaton, no_cell, next_cell, cell_from, cell_after, action_after}
use Rattle.games.specs.Demands.{UnderCard, Second}
use Rattle.games.proofs.Winning.{next_cell_lem, Covers, covering_wins}
use Rattle.cards.specs.Run.{Move}
use Rattle.cards.specs.Card.{card_observations, automaton, checked, Fitting, Named}
use Rattle.cards.specs.Kept.{Kept}
use Rattle.cards.specs.Run.{as_cell, entered, enters, opened, stepped, cell_or, moved, ran_from, ran}
use Rattle.cards.proofs.Checked.{fitting}
use Rattle.cards.proofs.Running.{named_cell, cannot_occur, enters_cell, begun_late, begun_enters, followed_outside, followed_late, followed_enters, opened_fine, stepped_fine}
use Rattle.games.specs.declared.Reason.{Reason}
use Rattle.games.specs.declared.Reason.TheVariants as reason
use Rattle.games.specs.Answers.{refused}
use Rattle.std.specs.Prelude.{Ok, Err}

-- ---- one observation more

pub moved_entered : (w : List ℕ) (c a j : ℕ) → moved w (entered c a) j ≡ stepped w c j
unfolding moved
moved_entered w c a j = refl

pub moved_refused : (w : List ℕ) (n : Reason) (p j : ℕ) → moved w (refused n p) j ≡ refused n p
unfolding moved
moved_refused w n p j = refl

pub ran_one : (w : List ℕ) (j : ℕ) → ran w (j ∷ []) ≡ opened w j
unfolding ran ran_from
ran_one w j = refl

ran_from_more : (w : List ℕ) (r : Move) (h : List ℕ) (j : ℕ) → ran_from w r (h ++ (j ∷ [])) ≡ moved w (ran_from w r h) j
unfolding ran_from
ran_from_more w r [] j = refl
ran_from_more w r (i ∷ h) j = ran_from_more w (moved w r i) h j

pub ran_more : (w : List ℕ) (h : List ℕ) (j : ℕ) → 0 < length h → ran w (h ++ (j ∷ [])) ≡ moved w (ran w h) j
unfolding ran
ran_more w [] j l = absurd (not-suc-le-zero l)
ran_more w (i ∷ h) j l = ran_from_more w (opened w i) h j

-- as a loop over the observations counts
pub ran_take_one : (w h : List ℕ) → 0 < length h → ran w (take 1 h) ≡ opened w (get_or h 0 0)
ran_take_one w [] l = absurd (not-suc-le-zero l)
ran_take_one w (j ∷ h) l = ran_one w j

pub ran_take_more : (w h : List ℕ) (i : ℕ) → 0 < i → i < length h → ran w (take (i + 1) h) ≡ moved w (ran w (take i h)) (get_or h i 0)
ran_take_more w h i p l =
    ap (λ (n : ℕ). ran w (take n h)) (add-one i)
    ∙ ap (ran w) (take-suc h i 0 l)
    ∙ ran_more w (take i h) (get_or h i 0) (subst (λ (n : ℕ). 0 < n) (sym (length-take-le i h (omega arith))) p)

-- ---- the automaton's cell

cell_from_more : (A : Automaton) (c : ℕ) (h : List ℕ) (j : ℕ) → cell_from A c (h ++ (j ∷ [])) ≡ next_cell A (cell_from A c h) j
unfolding cell_from
cell_from_more A c [] j = refl
cell_from_more A c (i ∷ h) j = cell_from_more A (next_cell A c i) h j

pub cell_after_one : (A : Automaton) (j : ℕ) → cell_after A (j ∷ []) ≡ A.begins j
unfolding cell_after cell_from
cell_after_one A j = refl

cell_after_more : (A : Automaton) (h : List ℕ) (j : ℕ) → 0 < length h → cell_after A (h ++ (j ∷ [])) ≡ next_cell A (cell_after A h) j
unfolding cell_after
cell_after_more A [] j l = absurd (not-suc-le-zero l)
cell_after_more A (i ∷ h) j l = cell_from_more A (A.begins i) h j

-- from a cell it goes where the cell's next word says
pub cell_after_cell : (A : Automaton) (h : List ℕ) (j : ℕ) → 0 < length h → cell_after A h < A.size → cell_after A (h ++ (j ∷ [])) ≡ A.next (cell_after A h) j
cell_after_cell A h j l c = cell_after_more A h j l ∙ next_cell_lem A (cell_after A h) j c

pub action_after_lem : (A : Automaton) (h : List ℕ) → action_after A h ≡ A.action (cell_after A h)
unfolding action_after
action_after_lem A h = refl

-- the observations are below o, and none of them is one that cannot occur
pub data Way (A : Automaton) (o : ℕ) : List ℕ → Type 0 where
  one : {j : ℕ} → j < o → (cell_after A (j ∷ []) ≡ no_cell → ⊥) → Way A o (j ∷ [])
  more : {h : List ℕ} {j : ℕ} → Way A o h → j < o → (cell_after A (h ++ (j ∷ [])) ≡ no_cell → ⊥) → Way A o (h ++ (j ∷ []))

pub way_some : {A : Automaton} {o : ℕ} {h : List ℕ} → Way A o h → 0 < length h
way_some (one l n) = omega arith
way_some (more {h} {j} v l n) = omega (arith, length-append h (j ∷ []))

-- on the way it is in one of its cells
pub way_cell : {A : Automaton} {a o : ℕ} {h : List ℕ} → Fitting A a o → Way A o h → cell_after A h < A.size
way_cell {A} F (one {j} l n) = named_cell A (cell_after A (j ∷ [])) (subst (Named A) (sym (cell_after_one A j)) (F.begins_named j l)) n
way_cell {A} F (more {h} {j} v l n) =
    let c = way_cell F v in
    named_cell A (cell_after A (h ++ (j ∷ []))) (subst (Named A) (sym (cell_after_cell A h j (way_some v) c)) (F.next_named (cell_after A h) j c l)) n

-- ---- a checked card does what its automaton does

pub ran_way : (w : List ℕ) {h : List ℕ} → checked w ≡ Ok tt → Way (automaton w) (card_observations w) h
    → ran w h ≡ entered (cell_after (automaton w) h) (action_after (automaton w) h)
ran_way w e (one {j} l n) =
    let A = automaton w in
    let o = card_observations w in
    ran_one w j ∙ opened_fine w j e ∙ begun_enters A o j l ∙ ap (λ (c : ℕ). enters A c j) (sym (cell_after_one A j))
    ∙ enters_cell A o (cell_after A (j ∷ [])) j n
    ∙ ap (entered (cell_after A (j ∷ []))) (sym (action_after_lem A (j ∷ [])))
ran_way w e (more {h} {j} v l n) =
    let A = automaton w in
    let o = card_observations w in
    let here = way_cell (fitting w e) v in
    ran_more w h j (way_some v)
    ∙ ap (λ (r : Move). moved w r j) (ran_way w e v)
    ∙ moved_entered w (cell_after A h) (action_after A h) j
    ∙ stepped_fine w (cell_after A h) j e
    ∙ followed_enters A o (cell_after A h) j here l
    ∙ ap (λ (c : ℕ). enters A c j) (sym (cell_after_cell A h j (way_some v) here))
    ∙ enters_cell A o (cell_after A (h ++ (j ∷ []))) j n
    ∙ ap (entered (cell_after A (h ++ (j ∷ [])))) (sym (action_after_lem A (h ++ (j ∷ []))))

-- ---- on a play

-- document 01: played on any play of its table under the actions it gives, a card that meets the second demand never meets 12, 13 or 14
module _ (g : Game) (w : List ℕ) (right : checked w ≡ Ok tt) (observations : card_observations w ≡ g.observations) (S : Second g (automaton w)) where
  here : (p : Play) → PlayOf g p → UnderCard (automaton w) p → cell_after (automaton w) (seen p) ≡ no_cell → ⊥
  here p m u e = omega (arith, (S.keeps p m u).cell_below, (fitting w right).cells)

  shown : (j : ℕ) → j < g.observations → j < card_observations w
  shown j l = omega (arith, observations)

  play_way : (p : Play) → PlayOf g p → UnderCard (automaton w) p → Way (automaton w) (card_observations w) (seen p)
  unfolding PlayOf UnderCard seen
  play_way (begin i o) m u = one (shown o m.1.0) (here (begin i o) m u)
  play_way (longer p b i o) m u = more (play_way p m.0 u.0) (shown o m.3.0) (here (longer p b i o) m u)

  pub never_refused : (p : Play) → PlayOf g p → UnderCard (automaton w) p
      → ran w (seen p) ≡ entered (cell_after (automaton w) (seen p)) (action_after (automaton w) (seen p))
  never_refused p m u = ran_way w right (play_way p m u)

-- ---- before the opening: from cell 65,535 every step is refused, by 13, else by 12

pub no_cell_refused : (w : List ℕ) (j : ℕ) → checked w ≡ Ok tt → stepped w no_cell j ≡ refused reason.NumberBeyond no_cell
no_cell_refused w j e =
    let l : (automaton w).size ≤ no_cell = omega (arith, (fitting w e).cells) in
    stepped_fine w no_cell j e ∙ followed_outside (automaton w) (card_observations w) no_cell j l

pub ran_none : (w : List ℕ) → checked w ≡ Ok tt → ran w [] ≡ refused reason.NumberBeyond no_cell
unfolding ran
ran_none w e = no_cell_refused w 0 e

-- ---- a run that ends in a cell ends in the automaton's

-- a refusal enters no cell
pub not_entered : {X : Type 0} (n : Reason) (p c a : ℕ) → refused n p ≡ entered c a → X
not_entered n p c a e = let z : ◌≡◌ {A = ℕ} 0 1 = cc in absurd (omega arith)

-- the action of a move that enters a cell
action_or : Move → ℕ
action_or (Ok m) = m.action.0
action_or (Err e) = 0

-- the same move, the same cell and action
pub same_entered : (c a d b : ℕ) → entered c a ≡ entered d b → (c ≡ d) × (a ≡ b)
unfolding action_or
same_entered c a d b e =
    (ap (λ (m : Move). (cell_or m (as_cell 0)).0) e, ap action_or e)

module _ (w : List ℕ) (e : checked w ≡ Ok tt) (c a : ℕ) where
  abbrev A : Automaton
  A = automaton w

  abbrev o : ℕ
  o = card_observations w

  refused_stays : (h : List ℕ) (n : Reason) (p : ℕ) → ran_from w (refused n p) h ≡ refused n p
  unfolding ran_from moved
  refused_stays [] n p = refl
  refused_stays (j ∷ h) n p = refused_stays h n p

  -- so a run from a refusal ends in no cell
  no_way : {X : Type 0} (h : List ℕ) (r : Move) (n : Reason) (p : ℕ) → r ≡ refused n p → ran_from w r h ≡ entered c a → X
  no_way h r n p f run = not_entered n p c a (sym (ap (λ (m : Move). ran_from w m h) f ∙ refused_stays h n p) ∙ run)

  -- from what a word names
  from_named : (h : List ℕ) (x j : ℕ) (r : Move) → r ≡ enters A x j → ((b : ℕ) → ran_from w (entered x b) h ≡ entered c a → cell_from A x h ≡ c)
      → ran_from w r h ≡ entered c a → cell_from A x h ≡ c
  from_named h x j r f go run =
      ⊎_elim (λ z. no_way h r reason.CannotOccur j (f ∙ cannot_occur A o x j (eqb-true x no_cell z)) run)
      (λ z. go (A.action x) (sym (ap (λ (m : Move). ran_from w m h) (f ∙ enters_cell A o x j (eqb-false x no_cell z))) ∙ run))
      (decided (eqb x no_cell))

  from_cell : (h : List ℕ) (d b : ℕ) → ran_from w (entered d b) h ≡ entered c a → cell_from A d h ≡ c
  unfolding ran_from moved cell_from
  from_cell [] d b run = (same_entered d b c a run).0
  from_cell (j ∷ h) d b run =
      let step = stepped_fine w d j e in
      ⊎_elim
      (λ l. ⊎_elim
      (λ k. ap (λ (x : ℕ). cell_from A x h) (next_cell_lem A d j l)
      ∙ from_named h (A.next d j) j (stepped w d j) (step ∙ followed_enters A o d j l k) (from_cell h (A.next d j)) run)
      (λ k. no_way h (stepped w d j) reason.NumberBeyond j (step ∙ followed_late A o d j l k) run)
      (lt_or_le j o))
      (λ l. no_way h (stepped w d j) reason.NumberBeyond d (step ∙ followed_outside A o d j l) run)
      (lt_or_le d A.size)

  pub ran_cell : (h : List ℕ) → ran w h ≡ entered c a → cell_after A h ≡ c
  unfolding ran cell_after
  ran_cell [] run = not_entered reason.NumberBeyond no_cell c a (sym (ran_none w e) ∙ run)
  ran_cell (j ∷ h) run =
      let open-with = opened_fine w j e in
      ⊎_elim (λ l. from_named h (A.begins j) j (opened w j) (open-with ∙ begun_enters A o j l) (from_cell h (A.begins j)) run)
      (λ l. no_way h (opened w j) reason.NumberBeyond j (open-with ∙ begun_late A o j l) run)
      (lt_or_le j o)

-- ---- whoever drew it

-- a card whose cells cover the plays keeps every play clear and is never refused on one, whoever drew it
pub covering_kept : (g : Game) → Accepted g → (w : List ℕ) → checked w ≡ Ok tt → card_observations w ≡ g.observations → Covers g (automaton w) → Kept g w
covering_kept g A w right observations C =
    let S = covering_wins g A (automaton w) C in
    record { right = right; second = S; runs = never_refused g w right observations S }
