-- Where the start sets are settled, the card wins: on every play under it it is in a cell whose set holds the state, and the strategies
-- that pick what it gives there keep every play clear.
-- Assumes nothing.
use mathlib.Core.Path.{◌≡◌, refl, sym, ap, ◌∙◌, subst}
use mathlib.Core.Logic.{⊎_elim}
use mathlib.Core.Bool.{Bool, true, false, cond}
use mathlib.Core.List.{List, [], ◌∷◌}
use Prim.Native.Nat.{ℕ, suc, ◌^◌, ◌<◌}
use native.Mathlib.Omega.{arith}
use lib.Dec.{ltb}
use lib.ListN.{length, get_or}
use borrow.Author.Tests.{lt-ltb, ltb-true}
use Rattle.sets.specs.Mask.{member}
use Rattle.sets.proofs.Logic.{decided}
use Rattle.sets.proofs.Family.{at_mem, mem_maximal}
use Rattle.games.specs.Game.{Game, Accepted, Shows, enabled}
use Rattle.games.specs.Play.{Play, begin, more, PlayOf, last, seen, rounds}
use Rattle.games.specs.Step.{after, lowest, step, antichain}
use Rattle.games.specs.Verdict.{start_set, starts_in, settled, cells}
use Rattle.games.specs.Automaton.{Automaton, no_cell, next_cell, cell_from, cell_after, action_after, chosen, card}
use Rattle.games.specs.Demands.{UnderCard, Keeps, Second}
use Rattle.games.proofs.Steps.{after_below}
use Rattle.games.proofs.Memory.{from, memory, Acts, holds_on, memory_lasts}
use Rattle.games.proofs.Starts.{start_below, start_member, starts_at}
use Rattle.games.proofs.Lasting.{lowest_below, stepped_survives, stepped_in, stepped_member}
use Rattle.games.proofs.Settling.{settled_step, cells_hold}
use Rattle.games.proofs.Holding.{Held, held_by}

-- the memory theorem's memory, where it is an automaton's cell
from_cell : (B : Automaton) (c : ℕ) (h : List ℕ) → from no_cell B.begins (next_cell B) c h ≡ cell_from B c h
unfolding from cell_from
from_cell B c [] = refl
from_cell B c (o ∷ h) = from_cell B (next_cell B c o) h

pub memory_cell : (B : Automaton) (h : List ℕ) → memory no_cell B.begins (next_cell B) h ≡ cell_after B h
unfolding memory cell_after
memory_cell B [] = refl
memory_cell B (o ∷ h) = from_cell B (B.begins o) h

-- in a cell the automaton goes where its next word says
pub next_cell_lem : (B : Automaton) (c o : ℕ) → c < B.size → next_cell B c o ≡ B.next c o
unfolding next_cell
next_cell_lem B c o l = rw (lt-ltb c B.size l)

-- an automaton whose cells cover the plays: a start state is held by the first cell named; at a member of a cell's set the action survives,
-- and each successor is held by the next cell named
pub record Covers (g : Game) (B : Automaton) : Type 0 where
  pub begins_in : (i o : ℕ) → member g.start i ≡ true → Shows g i o → (B.begins o < B.size) × (member (B.set (B.begins o)) i ≡ true)
  pub survives : (c i : ℕ) → c < B.size → member (B.set c) i ≡ true → (member g.bad i ≡ false) × (enabled g i (B.action c) ≡ true)
  pub next_in : (c i i' o : ℕ) → c < B.size → member (B.set c) i ≡ true → member (g.successors (B.action c) i) i' ≡ true → Shows g i' o → (B.next c o < B.size) × (member (B.set (B.next c o)) i' ≡ true)
  pub gives : (c : ℕ) → c < B.size → B.action c < g.actions

-- such an automaton wins, whoever drew it
module _ (g : Game) (A : Accepted g) (B : Automaton) (C : Covers g B) where
  -- it is in a cell, and the cell's set holds the state
  In : ℕ → ℕ → ℕ → Type 0
  In j c i = (c < B.size) × (member (B.set c) i ≡ true)

  in_survives : (j c i : ℕ) → In (suc j) c i → (member g.bad i ≡ false) × (enabled g i (B.action c) ≡ true)
  unfolding In
  in_survives j c i w = C.survives c i w.0 w.1

  in_moves : (j c i i' o : ℕ) → In (suc j) c i → member (g.successors (B.action c) i) i' ≡ true → Shows g i' o → In j (next_cell B c o) i'
  unfolding In
  in_moves j c i i' o w e shows =
      subst (λ (d : ℕ). (d < B.size) × (member (B.set d) i' ≡ true)) (sym (next_cell_lem B c o w.0)) (C.next_in c i i' o w.0 w.1 e shows)

  in_begins : (k i o : ℕ) → member g.start i ≡ true → Shows g i o → In k (B.begins o) i
  unfolding In
  in_begins k i o m shows = C.begins_in i o m shows

  -- the card's action is the memory's
  memory_action : (h : List ℕ) → action_after B h ≡ B.action (memory no_cell B.begins (next_cell B) h)
  unfolding action_after
  memory_action h = ap B.action (sym (memory_cell B h))

  card_acts : (p : Play) → UnderCard B p → Acts no_cell B.begins (next_cell B) g B.action p
  unfolding UnderCard Acts
  card_acts (begin i o) u = tt
  card_acts (more p a i o) u = (card_acts p u.0, u.1 ∙ memory_action (seen p))

  acts_card : (p : Play) → Acts no_cell B.begins (next_cell B) g B.action p → UnderCard B p
  unfolding UnderCard Acts
  acts_card (begin i o) u = tt
  acts_card (more p a i o) u = (acts_card p u.0, u.1 ∙ sym (memory_action (seen p)))

  covering_keeps : (p : Play) → PlayOf g p → UnderCard B p → Keeps g B p
  unfolding In action_after
  covering_keeps p played under =
      let w : In 1 (memory no_cell B.begins (next_cell B) (seen p)) (last p) =
      holds_on no_cell B.begins (next_cell B) g B.action In in_survives in_moves (rounds p) (in_begins (rounds p)) p played (card_acts p under) 1 (omega arith) in
      let v : In 1 (cell_after B (seen p)) (last p) = subst (λ (c : ℕ). In 1 c (last p)) (memory_cell B (seen p)) w in
      let s = C.survives (cell_after B (seen p)) (last p) v.0 v.1 in
      record {
        cell_below = v.0;
        held = v.1;
        not_bad = s.0;
        action_below = C.gives (cell_after B (seen p)) v.0;
        action_enabled = s.1;
      }

  legal_pick : ℕ → ℕ
  legal_pick a = cond (ltb a g.actions) a 0

  pick_legal : (a : ℕ) → legal_pick a < g.actions
  unfolding legal_pick
  pick_legal a =
      ⊎_elim (λ h. subst (λ (b : Bool). cond b a 0 < g.actions) (sym h) (ltb-true a g.actions h))
      (λ h. subst (λ (b : Bool). cond b a 0 < g.actions) (sym h) A.some_action) (decided (ltb a g.actions))

  pub covering_wins : Second g B
  unfolding legal_pick
  covering_wins =
      record {
        keeps = covering_keeps;
        strategy = (
          record { pick = λ h. legal_pick (action_after B h); legal = λ h. pick_legal (action_after B h) },
          λ p played under.
              let a = action_after B (seen p) in
              ap (λ (b : Bool). cond b a 0) (lt-ltb a g.actions (covering_keeps p played under).action_below),
        );
        clear = λ ρ agrees k.
            memory_lasts no_cell B.begins (next_cell B) g B.action In in_survives in_moves k (in_begins k) ρ
            (λ p played acts. agrees p played (acts_card p acts) ∙ memory_action (seen p));
      }

module _ (g : Game) (A : Accepted g) where
  -- a cell's set is settled
  pub cell_settled : (c : ℕ) → c < length (cells g) → (get_or (cells g) c 0 < 2 ^ g.states) × (settled g (get_or (cells g) c 0) ≡ true)
  unfolding cells settled antichain
  cell_settled c l = let w = mem_maximal g.states (settled g) (get_or (cells g) c 0) (at_mem (cells g) c l) in (w.0, w.1)

  pub cell_step : (c : ℕ) → c < length (cells g) → step g (settled g) (get_or (cells g) c 0) ≡ true
  cell_step c l = let w = cell_settled c l in sym (settled_step g A (get_or (cells g) c 0) w.0) ∙ w.1

  next_held : (c i i' o : ℕ) → c < length (cells g) → member (get_or (cells g) c 0) i ≡ true → member (g.successors (chosen g (get_or (cells g) c 0)) i) i' ≡ true → Shows g i' o → Held (cells g) (after g (get_or (cells g) c 0) (chosen g (get_or (cells g) c 0)) o) i'
  unfolding chosen
  next_held c i i' o l m e shows =
      let s = get_or (cells g) c 0 in
      let a = lowest g (settled g) s in
      let below = (cell_settled c l).0 in
      held_by (cells g) (after g s a o) i'
      (cells_hold g A (after g s a o) (after_below g A s a o shows.0) ∙ stepped_in g A (settled g) s below (cell_step c l) i m o shows.0)
      (stepped_member g A (settled g) s below (cell_step c l) i m i' o e shows)

  start_held : starts_in g (settled g) ≡ true → (i o : ℕ) → member g.start i ≡ true → Shows g i o → Held (cells g) (start_set g o) i
  start_held won i o m shows =
      let w = start_member g i o m shows in
      held_by (cells g) (start_set g o) i (cells_hold g A (start_set g o) (start_below g A o) ∙ starts_at g (settled g) won o w.0) w.1

  pub card_covers : starts_in g (settled g) ≡ true → Covers g (card g)
  unfolding card chosen
  card_covers won =
      record {
        begins_in = λ i o m shows. let h = start_held won i o m shows in (h.below, h.has);
        survives = λ c i l m. stepped_survives g A (settled g) (get_or (cells g) c 0) (cell_settled c l).0 (cell_step c l) i m;
        next_in = λ c i i' o l m e shows. let h = next_held c i i' o l m e shows in (h.below, h.has);
        gives = λ c l. lowest_below g A (settled g) (get_or (cells g) c 0);
      }

  pub card_wins : starts_in g (settled g) ≡ true → Second g (card g)
  card_wins won = covering_wins g A (card g) (card_covers won)
