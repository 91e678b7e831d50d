-- What solve promises follows from its outcome: the demands on the entry.
-- Assumes nothing.
use mathlib.Core.Path.{◌≡◌, sym, ap, ◌∙◌, subst}
use mathlib.Core.Logic.{inl, inr, ⊎_elim}
use mathlib.Core.Bool.{true}
use mathlib.Core.List.{List, ◌++◌}
use Prim.Native.Nat.{ℕ, ◌≤◌, ◌<◌}
use native.Mathlib.Omega.{arith}
use lib.Pow.{pow_pos}
use lib.ListN.{length, get_or, take, drop}
use lib.Seq.{take_at}
use Rattle.sets.specs.Mask.{member}
use Rattle.sets.proofs.Family.{mem_at, holds_found}
use Rattle.games.specs.Answers.{leaves}
use Rattle.games.specs.Game.{Game, Accepted, enabled}
use Rattle.games.specs.Step.{after, settling}
use Rattle.games.specs.Verdict.{Yes, start_set, starts_in, settled, cells, verdict}
use Rattle.games.specs.Automaton.{Automaton, chosen, card}
use Rattle.games.specs.Words.{game, card_length, card_of}
use Rattle.games.specs.Demands.{Third}
use Rattle.games.specs.Answers.{Checked}
use Rattle.games.proofs.Steps.{good_empty}
use Rattle.games.proofs.Lasting.{lowest_below}
use Rattle.games.proofs.Settling.{cells_hold}
use Rattle.games.proofs.Holding.{holding_named}
use Rattle.games.proofs.Winning.{Covers, card_covers, cell_settled}
use Rattle.games.proofs.Decided.{verdict_yes, yes_starts, decides}
use Rattle.tables.specs.Check.{checked}
use Rattle.tables.proofs.Checks.{sized, accepted}
use Rattle.tables.proofs.Bounds.{few_actions, few_observations, few_sets}
use Rattle.cards.specs.Card.{automaton, Fitting}
use Rattle.cards.proofs.Written.{Agree, card_long, written_checked, written_agrees, written_observations}
use Rattle.cards.specs.Kept.{Kept}
use Rattle.cards.proofs.Runs.{covering_kept}
use Rattle.solver.specs.Solve.{buffers, solved, WorkEnough, written, Promise}
use Rattle.solver.specs.Solve.{Answer}
use Rattle.solver.specs.Solve.{says_yes, says_no}
use Rattle.games.specs.declared.Refusal.{Refusal}
use Rattle.index.proofs.Settled.{cells_few}
use Rattle.solver.proofs.Answers.{Ending, stopped, no_work, lost, no_card, granted, ends}
use Rattle.std.specs.Prelude.{Ok, Err}

-- covering is seen only at cells and observations that are there
covers_agree : (g : Game) (A B : Automaton) → Agree B A g.observations → Covers g A → Covers g B
covers_agree g A B E C =
    record {
      begins_in = λ i o m shows.
          let w = C.begins_in i o m shows in
          let e = E.begins_same o shows.0 in
          let b : B.begins o < B.size = subst (λ (c : ℕ). c < B.size) (sym e) (inside (A.begins o) w.0) in
          (b, subst (λ (s : ℕ). member s i ≡ true) (sym (E.set_same (B.begins o) b ∙ ap A.set e)) w.1);
      survives = λ c i l m.
          let w = C.survives c i (outside c l) (subst (λ (s : ℕ). member s i ≡ true) (E.set_same c l) m) in
          (w.0, subst (λ (a : ℕ). enabled g i a ≡ true) (sym (E.action_same c l)) w.1);
      next_in = λ c i i' o l m e shows.
          let w =
          C.next_in c i i' o (outside c l) (subst (λ (s : ℕ). member s i ≡ true) (E.set_same c l) m)
          (subst (λ (a : ℕ). member (g.successors a i) i' ≡ true) (E.action_same c l) e) shows in
          let n = E.next_same c o l shows.0 in
          let b : B.next c o < B.size = subst (λ (d : ℕ). d < B.size) (sym n) (inside (A.next c o) w.0) in
          (b, subst (λ (s : ℕ). member s i' ≡ true) (sym (E.set_same (B.next c o) b ∙ ap A.set n)) w.1);
      gives = λ c l. subst (λ (a : ℕ). a < g.actions) (sym (E.action_same c l)) (C.gives c (outside c l));
    }
  where
    inside : (c : ℕ) → c < A.size → c < B.size
    inside c l = subst (λ (n : ℕ). c < n) (sym E.size_same) l

    outside : (c : ℕ) → c < B.size → c < A.size
    outside c l = subst (λ (n : ℕ). c < n) E.size_same l

settled_empty : (g : Game) → Accepted g → settled g 0 ≡ true
unfolding settled
settled_empty g A = good_empty g A (settling g)

module _ (w : List ℕ) (fine : checked w ≡ Ok tt) where
  -- the card fits its words
  pub card_fits : Fitting (card (game w)) (game w).actions (game w).observations
  unfolding card chosen
  card_fits =
      let g = game w in
      let A = accepted w fine in
      let few = few_sets w (sized w fine) in
      let some = holds_found (cells g) 0 (cells_hold g A 0 (pow_pos g.states) ∙ settled_empty g A) in
      record {
        some_cell = let c = mem_at (cells g) some.0 some.1 in omega (arith, c.1);
        cells = omega (arith, cells_few g, few);
        some_action = A.some_action;
        actions = few_actions w (sized w fine);
        some_observation = A.some_observation;
        observations = few_observations w (sized w fine);
        set_below = λ c l. omega (arith, (cell_settled g A c l).0, few);
        action_below = λ c l. lowest_below g A (settled g) (get_or (cells g) c 0);
        begins_named = λ j l. holding_named (cells g) (start_set g j);
        next_named = λ c j l m. holding_named (cells g) (after g (get_or (cells g) c 0) (chosen g (get_or (cells g) c 0)) j);
      }

  -- the words of a winning card keep every play clear, and never meet 12, 13 or 14
  words_kept : starts_in (game w) (settled (game w)) ≡ true → Kept (game w) (card_of (game w))
  words_kept won =
      let g = game w in
      let a = g.actions in
      let o = g.observations in
      let words = card_of g in
      let A = accepted w fine in
      covering_kept g A words (written_checked (card g) a o card_fits) (written_observations (card g) a o card_fits)
      (covers_agree g (card g) (automaton words) (written_agrees (card g) a o card_fits) (card_covers g A won))

card_size : (w : List ℕ) (m : ℕ) → m ≡ length (cells (game w)) → length (card_of (game w)) ≡ card_length m (game w).observations
unfolding card
card_size w m e =
    card_long (card (game w)) (game w).actions (game w).observations ∙ ap (λ (n : ℕ). card_length n (game w).observations) (sym e)

-- which answers can be told apart
yes_not_refused : {X : Type 0} (t m : ℕ) (stop : Refusal) → says_yes t m ≡ Err stop → X
yes_not_refused t m stop e = let z : ◌≡◌ {A = ℕ} 0 1 = cc in absurd (omega arith)

no_not_refused : {X : Type 0} (k : ℕ) (stop : Refusal) → says_no k ≡ Err stop → X
no_not_refused k stop e = let z : ◌≡◌ {A = ℕ} 0 1 = cc in absurd (omega arith)

yes_not_no : {X : Type 0} (t m k : ℕ) → says_yes t m ≡ says_no k → X
yes_not_no t m k e = let z : ◌≡◌ {A = ℕ} 0 1 = cc in absurd (omega arith)

fine_not_stopped : {X : Type 0} (c : Checked) (stop : Refusal) → c ≡ Ok tt → c ≡ Err stop → X
fine_not_stopped c stop e f = let z : ◌≡◌ {A = ℕ} 0 1 = cc in absurd (omega arith)

-- the number of cells is the verdict's
cells_told : (g : Game) (t m : ℕ) → verdict g ≡ Yes t m → m ≡ length (cells g)
cells_told g t m v = let s : Yes t m ≡ Yes (settling g) (length (cells g)) = sym v ∙ verdict_yes g (yes_starts g t m v) in (cc)

module _ (w work d : List ℕ) (r : Answer) (e : List ℕ) where
  -- a refusal promises nothing of the card or of a round
  refused_promise : (stop : Refusal) → r ≡ Err stop → (WorkEnough w work → ⊥) → Promise w work d r e
  refused_promise stop is no_room =
      record {
        nine_iff = λ room. absurd (no_room room);
        yes_iff = λ room fits. absurd (no_room room);
        yes_card = λ t m y. yes_not_refused t m stop (sym y ∙ is);
        no_round = λ k y. no_not_refused k stop (sym y ∙ is);
      }

  -- the card stands in front of its room
  written_front : (t m : ℕ) → verdict (game w) ≡ Yes t m → e ≡ card_of (game w) ++ drop (card_length m (game w).observations) d → written w m e ≡ card_of (game w)
  written_front t m v words =
      let need = card_length m (game w).observations in
      ap (take need) words ∙ take_at (card_of (game w)) (drop need d) need (card_size w m (cells_told (game w) t m v))

  promise : Ending w work d r e → Promise w work d r e
  promise (stopped {stop} c is) = refused_promise stop is (λ room. fine_not_stopped (checked w) stop room.fine c)
  promise (no_work fine short is) = refused_promise _ is (λ room. omega (arith, room.enough))
  promise (lost {k} room v is) =
      let D = decides (game w) (accepted w room.fine) in
      let T = D.no_round k v in
      record {
        nine_iff = λ _. (
          ⊎_elim (λ y. yes_not_no y.0 y.1 k (sym y.2 ∙ is)) (λ n. no_not_refused k _ (sym is ∙ n.1)),
          λ c. absurd (T.no_strategy c.0 (c.1 k)),
        );
        yes_iff = λ _ fits. (λ y. yes_not_no y.0 y.1 k (sym y.2 ∙ is), λ c. absurd (T.no_strategy c.0 (c.1 k)));
        yes_card = λ t m y. yes_not_no t m k (sym y ∙ is);
        no_round = λ j y. subst (Third (game w)) (let s : says_no k ≡ says_no j = sym is ∙ y in (cc)) T;
      }
  promise (no_card {t} {m} room v short is) =
      let D = decides (game w) (accepted w room.fine) in
      let need = card_length m (game w).observations in
      record {
        nine_iff = λ _. (λ y. D.yes_iff.0 (t, m, v), λ c. inr (need, is));
        yes_iff = λ _ fits. absurd (omega (arith, subst (λ (n : ℕ). card_length n (game w).observations ≤ length d) (sym (cells_told (game w) t m v)) fits));
        yes_card = λ t' m' y. yes_not_refused t' m' _ (sym y ∙ is);
        no_round = λ k y. no_not_refused k _ (sym y ∙ is);
      }
  promise (granted {t} {m} room v fits is words) =
      let g = game w in
      let D = decides g (accepted w room.fine) in
      let front = written_front t m v words in
      let same : (t' m' : ℕ) → r ≡ says_yes t' m' → card_of g ≡ written w m' e =
      λ t' m' y. let s : says_yes t m ≡ says_yes t' m' = sym is ∙ y in let k : m ≡ m' = cc in sym front ∙ ap (λ (n : ℕ). written w n e) k in
      record {
        nine_iff = λ _. (λ y. D.yes_iff.0 (t, m, v), λ c. inl (t, m, is));
        yes_iff = λ _ _. (λ y. D.yes_iff.0 (t, m, v), λ c. (t, m, is));
        yes_card = λ t' m' y. subst (Kept g) (same t' m' y) (words_kept w room.fine (yes_starts g t m v));
        no_round = λ k y. yes_not_no t m k (sym is ∙ y);
      }

  -- the outcome that the definition gives keeps the promise
  pub promised : (left : List ℕ) → leaves r (buffers left e) ≡ solved w work d → Promise w work d r e
  promised left is = promise (ends w work d r e left is)

  -- what a yes with m cells comes of: an accepted table whose start sets are settled, and room for the card, which was written
  pub record Given (m : ℕ) : Type 0 where
    pub fine : checked w ≡ Ok tt
    pub won : starts_in (game w) (settled (game w)) ≡ true
    pub fits : card_length m (game w).observations ≤ length d
    pub front : written w m e ≡ card_of (game w)

  yes_ending : (t m : ℕ) → r ≡ says_yes t m → Ending w work d r e → Given m
  yes_ending t m y (stopped {stop} c is) = yes_not_refused t m stop (sym y ∙ is)
  yes_ending t m y (no_work fine short is) = yes_not_refused t m _ (sym y ∙ is)
  yes_ending t m y (lost {k} room v is) = yes_not_no t m k (sym y ∙ is)
  yes_ending t m y (no_card room v short is) = yes_not_refused t m _ (sym y ∙ is)
  yes_ending t m y (granted {t = u} {m = n} room v fits is words) =
      let s : says_yes u n ≡ says_yes t m = sym is ∙ y in
      subst Given (cc)
      (record { fine = room.fine; won = yes_starts (game w) u n v; fits = fits; front = written_front u n v words })

  pub yes_given : (t m : ℕ) (left : List ℕ) → leaves r (buffers left e) ≡ solved w work d → r ≡ says_yes t m → Given m
  yes_given t m left is y = yes_ending t m y (ends w work d r e left is)
