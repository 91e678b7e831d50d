-- Laws of a run over a list of observations.
-- Assumes nothing.
use mathlib.Core.Path.{◌≡◌, refl, sym, ap, ap₂, subst, ◌∙◌}
use mathlib.Core.Logic.{⊎_elim}
use mathlib.Core.Bool.{Bool, cond}
use mathlib.Core.List.{List}
use Prim.Native.Nat.{ℕ, zero, suc, ◌+◌, ◌≤◌, ◌<◌}
use native.Mathlib.Nat.{not-suc-le-zero, eq-or-lt_of_le, le_of_suc-le-suc}
use native.Mathlib.Numerals.{add-one}
use native.Mathlib.Omega.{arith}
use lib.ListN.{length, get_or, take, set}
use borrow.Author.Tests.{lt-ltb, le-ltb}
use Rattle.games.specs.Answers.{Leaves, leaves}
use Rattle.games.specs.declared.Cell.{Cell}
use Rattle.games.specs.declared.Action.{Action}
use Rattle.sets.proofs.Fills.{filled_none, filled_more}
use Rattle.cards.specs.Run.{Move}
use Rattle.games.specs.Answers.{refused}
use Rattle.cards.specs.Card.{automaton, card_observations, checked}
use Rattle.cards.specs.Run.{entered, begun, followed, opened, moved, ran}
use Rattle.cards.proofs.Running.{opened_fine, stepped_fine}
use Rattle.cards.proofs.Runs.{moved_entered, ran_take_one, ran_take_more}
use Rattle.runner.specs.Runs.{stopped, Ran}
use Rattle.runner.specs.Runs.{move_at, move_from, action_of, further, ran_up_to, with_actions, Writable, written, writes, ran_into}
use Rattle.games.specs.declared.Reason.{Reason}
use Rattle.games.specs.declared.Reason.TheVariants as reason
use Rattle.std.specs.Prelude.{Ok, Err, Option, None, Some}

-- ---- the next move, from the cell that the card is in

module _ (w : List ℕ) (j : ℕ) {m : Move} (fine : checked w ≡ Ok tt) where
  pub opens_fine : m ≡ begun (automaton w) (card_observations w) j → m ≡ move_from w None j
  opens_fine f = f ∙ sym (opened_fine w j fine)

  pub steps_fine : (c : Cell) → m ≡ followed (automaton w) (card_observations w) c.0 j → m ≡ move_from w (Some c) j
  steps_fine c f = f ∙ sym (stepped_fine w c.0 j fine)

further_done : (r : Ran) (m : Move) (j : ℕ) → further r m ≡ Ok j → (i : ℕ) × (r ≡ Ok i) × (j ≡ i + 1)
further_done (Ok i) (Ok m) j e = (i, refl, (cc))
further_done (Ok i) (Err stop) j e = absurd (let z : ◌≡◌ {A = ℕ} 0 1 = cc in omega arith)
further_done (Err s) m j e = absurd (let z : ◌≡◌ {A = ℕ} 0 1 = cc in omega arith)

module _ (w h : List ℕ) where
  -- the action after the observation at a place
  abbrev pub action_at : ℕ → ℕ
  action_at i = action_of (move_at w h i)

  up_to_more : (k : ℕ) → ran_up_to w h (suc k) ≡ further (ran_up_to w h k) (move_at w h k)
  unfolding ran_up_to
  up_to_more k = refl

  -- the cell that the card is in after i observations, and none before the first
  abbrev pub Here : ℕ → Option Cell → Type 0
  Here i None = i ≡ 0
  Here i (Some c) = (0 < i) × ((a : ℕ) × (ran w (take i h) ≡ entered c.0 a))

  -- a loop that runs the card has taken i observations, and is in cell c
  pub record At (i : ℕ) (c : Option Cell) : Type 0 where
    pub within : i ≤ length h
    pub taken : ran_up_to w h i ≡ Ok i
    pub here : Here i c

  pub at_none : At 0 None
  unfolding ran_up_to
  at_none = record { within = omega arith; taken = refl; here = refl }

  move_here : (i : ℕ) (c : Option Cell) → Here i c → i < length h → move_from w c (get_or h i 0) ≡ move_at w h i
  move_here i None e l = subst (λ (n : ℕ). opened w (get_or h n 0) ≡ move_at w h n) (sym e) (sym (ran_take_one w h (omega arith)))
  move_here i (Some c) x l =
      sym (ap (λ (n : ℕ). ran w (take n h)) (sym (add-one i))
      ∙ ran_take_more w h i x.0 l
      ∙ ap (λ (r : Move). moved w r (get_or h i 0)) x.1.1
      ∙ moved_entered w c.0 x.1.0 (get_or h i 0))

  module _ (i : ℕ) (c : Option Cell) (at : At i c) (l : i < length h) where
    move_is : move_from w c (get_or h i 0) ≡ move_at w h i
    move_is = move_here i c at.here l

    -- the move is an entry: one observation more is taken
    module _ (r : Cell) (a : Action) (e : move_from w c (get_or h i 0) ≡ Ok (record { cell = r; action = a })) where
      pub at_more : At (i + 1) (Some r)
      at_more = record {
        within = omega arith;
        taken = ap (ran_up_to w h) (add-one i) ∙ up_to_more i ∙ ap₂ further at.taken (sym move_is ∙ e);
        here = (omega arith, (a.0, ap (λ (n : ℕ). ran w (take n h)) (add-one i) ∙ sym move_is ∙ e));
      }

      pub action_is : a.0 ≡ action_at i
      action_is = ap action_of (sym e ∙ move_is)

    -- the move is refused: so is the run
    module _ (number : Reason) (place : ℕ) (e : move_from w c (get_or h i 0) ≡ refused number place) where
      hit : ran_up_to w h (suc i) ≡ stopped number place i
      hit = up_to_more i ∙ ap₂ further at.taken (sym move_is ∙ e)

      stays : (k : ℕ) → i < k → ran_up_to w h k ≡ stopped number place i
      stays zero m = absurd (not-suc-le-zero m)
      stays (suc k) m =
          ⊎_elim (λ (f : i ≡ k). subst (λ (n : ℕ). ran_up_to w h (suc n) ≡ stopped number place i) f hit)
          (λ (f : i < k). up_to_more k ∙ ap (λ (r : Ran). further r (move_at w h k)) (stays k f)) (eq-or-lt_of_le (le_of_suc-le-suc m))

      pub run_stops : stopped number place i ≡ ran_up_to w h (length h)
      run_stops = sym (stays (length h) l)

      pub no_stop : ran_up_to w h (length h) ≡ Ok (length h) → ⊥
      no_stop f = let z : ◌≡◌ {A = ℕ} 0 1 = cc (stays (length h) l) in omega arith

  -- as many are taken as there are
  pub done_all : (k j : ℕ) → ran_up_to w h k ≡ Ok j → j ≡ k
  unfolding ran_up_to
  done_all zero j e = cc
  done_all (suc k) j e =
      let d = further_done (ran_up_to w h k) (move_at w h k) j e in
      d.2 ∙ ap (λ (n : ℕ). n + 1) (done_all k d.0 d.1) ∙ add-one k

  -- ---- what is written

  pub record Wrote (d₀ d : List ℕ) (i : ℕ) (c : Option Cell) : Type 0 where
    pub at : At i c
    pub front : d ≡ with_actions w h i d₀

  pub wrote_none : (d : List ℕ) → Wrote d d 0 None
  wrote_none d = record { at = at_none; front = filled_none action_at d }

  module _ (d₀ d : List ℕ) (i : ℕ) (c : Option Cell) (s : Wrote d₀ d i c) (room : length h ≤ length d₀) where
    pub wrote_more : (r : Cell) (a : Action) → i < length h → move_from w c (get_or h i 0) ≡ Ok (record { cell = r; action = a }) → Wrote d₀ (set d i a.0) (i + 1) (Some r)
    wrote_more r a l e = record {
      at = at_more i c s.at l r a e;
      front = ap₂ (λ (x : List ℕ) (v : ℕ). set x i v) s.front (action_is i c s.at l r a e) ∙ filled_more action_at i d₀ (omega arith);
    }

  -- ---- the outcome

  module _ (d : List ℕ) where
    pub run_refused : (number : Reason) (place i : ℕ) → ran_up_to w h (length h) ≡ stopped number place i → leaves (stopped number place i) d ≡ writes w h d
    unfolding writes
    run_refused number place i e = sym (ap (written w h d) e)

    -- a run that took k observations, by whether there is room
    room_for : ℕ → Bool → Leaves Ran (List ℕ)
    room_for k b = cond b (leaves (stopped reason.ShortList k k) d) (leaves (Ok k) (with_actions w h k d))

    pub run_short : (k : ℕ) → ran_up_to w h (length h) ≡ Ok k → length d < k → leaves (stopped reason.ShortList k k) d ≡ writes w h d
    unfolding writes room_for
    run_short k e l = sym (ap (written w h d) e ∙ ap (room_for k) (lt-ltb (length d) k l))

    pub run_done : (k : ℕ) (o : List ℕ) → ran_up_to w h (length h) ≡ Ok k → k ≤ length d → o ≡ with_actions w h (length h) d → leaves (Ok k) o ≡ writes w h d
    unfolding writes room_for
    run_done k o e l f =
        sym (ap (written w h d) e ∙ ap (room_for k) (le-ltb (length d) k l)
        ∙ ap (λ (n : ℕ). leaves (Ok k) (with_actions w h n d)) (done_all (length h) k e)
        ∙ ap (leaves (Ok k)) (sym f))

    -- the pass that writes may come
    pub writable : (k : ℕ) → ran_up_to w h (length h) ≡ Ok k → k ≤ length d → Writable w h d
    writable k e l = record {
      taken = e ∙ ap Ok (done_all (length h) k e);
      room = subst (λ (n : ℕ). n ≤ length d) (done_all (length h) k e) l;
    }

    -- the card is checked first
    pub into_wrong : (number : Reason) (place : ℕ) → checked w ≡ refused number place → ran_into w h d ≡ leaves (stopped number place 0) d
    unfolding ran_into
    into_wrong number place e = rw (ran_into, e)

    pub into_fine : checked w ≡ Ok tt → ran_into w h d ≡ writes w h d
    unfolding ran_into
    into_fine e = rw (ran_into, e)
