-- The judge of cards: a law for each sort of word, by what the code has read, and the words in their order.
-- Assumes nothing.
use mathlib.Core.Path.{◌≡◌, refl, sym, ap, subst, ◌∙◌}
use mathlib.Core.Bool.{Bool, true, false, ◌&&◌}
use mathlib.Core.List.{List}
use Prim.Native.Nat.{ℕ, ◌+◌, ◌≤◌, ◌<◌}
use native.Mathlib.Omega.{arith}
use lib.ListN.{length}
use Rattle.sets.specs.Mask.{common}
use Rattle.sets.specs.Bounded.{Found, at_found}
use Rattle.games.specs.Game.{Game}
use Rattle.games.specs.Step.{enabled_at, post, after}
use Rattle.games.specs.Verdict.{start_set}
use Rattle.games.specs.Automaton.{Automaton}
use Rattle.games.specs.Words.{game, front_length, part_length}
use Rattle.games.specs.Answers.{Checked}
use Rattle.games.specs.Answers.{refused}
use Rattle.cards.specs.Card.{cell_place, next_place, card_cells, card_observations, automaton, checked as card_checked}
use Rattle.cards.specs.Checking.{FirstWrong}
use Rattle.cards.proofs.Checked.{part_in, part_behind, shaped, firsts_in}
use Rattle.cards.proofs.Passing.{pass_all, row_stop, row_pass, front_wrong, behind_front}
use Rattle.moves.specs.Halves.{posted}
use Rattle.std.specs.Prelude.{Option, Some, None}
use Rattle.games.specs.declared.Cell.{Cell}
use Rattle.cards.specs.Run.{led}
use Rattle.moves.proofs.Posting.{posted_blocked, posted_post}
use Rattle.pairs.specs.Pair.{checked}
use Rattle.certificates.specs.Certificate.{first_holds, set_fits, cell_holds, next_holds, word_holds, words_certified, certified, Safe}
use Rattle.certificates.specs.Judging.{lies_in, HoldsBelow, part_holds}
use Rattle.certificates.proofs.Words.{head_word_lem, first_word, cell_word, next_word_lem, lies_led}
use Rattle.certificates.proofs.Certified.{certified_safe}
use Rattle.games.specs.declared.Reason.{Reason}
use Rattle.games.specs.declared.Reason.TheVariants as reason
use Rattle.std.specs.Prelude.{Ok}

-- ---- a first and a next word, by the set and the cell that the code has

module _ (g : Game) (A : Automaton) (s : ℕ) (d : Option Cell) where
  pub first_told : (j : ℕ) → s ≡ start_set g j → d ≡ led (A.begins j) → first_holds g A j ≡ lies_in A s d
  unfolding first_holds
  first_told j e f = rw (e, f) (sym (lies_led A (start_set g j) (A.begins j)))

  pub next_told : (c j u : ℕ) → u ≡ post g (A.set c) (A.action c) → s ≡ common u (g.shown j) → d ≡ led (A.next c j) → next_holds g A c j ≡ lies_in A s d
  unfolding next_holds after
  next_told c j u h e f = rw (e, f, h) (sym (lies_led A (common (post g (A.set c) (A.action c)) (g.shown j)) (A.next c j)))

-- ---- a cell's part, by the set and the action that the code has

module _ (g : Game) (k : List ℕ) (c s : ℕ) (set_is : s ≡ (automaton k).set c) where
  abbrev A : Automaton
  A = automaton k

  abbrev o : ℕ
  o = card_observations k

  own_at : part_holds g k c 0 ≡ (set_fits g s && enabled_at g s (A.action c))
  unfolding cell_holds
  own_at = let e : cell_place o c + 0 ≡ cell_place o c = omega arith in ap (word_holds g k) e ∙ cell_word g k c ∙ rw set_is

  next_at : (j : ℕ) → j < o → part_holds g k c (1 + j) ≡ next_holds g A c j
  next_at j l = let e : cell_place o c + (1 + j) ≡ next_place o c j = omega arith in ap (word_holds g k) e ∙ next_word_lem g k c j l

  -- the set doesn't fit: the own word fails
  pub set_wrong : set_fits g s ≡ false → FirstWrong (part_holds g k c) (part_length o) 0
  set_wrong e = front_wrong (part_holds g k c) (part_length o) (own_at ∙ rw e)

  module _ (fit : set_fits g s ≡ true) (a : ℕ) (action_is : a ≡ (automaton k).action c) where
    enabled_decides : part_holds g k c 0 ≡ enabled_at g s a
    enabled_decides = own_at ∙ rw (fit, action_is)

    -- the action is blocked at a member: so does it
    pub blocked_wrong : posted g s a ≡ None → FirstWrong (part_holds g k c) (part_length o) 0
    blocked_wrong e = front_wrong (part_holds g k c) (part_length o) (enabled_decides ∙ posted_blocked g s a None (sym e) refl)

    module _ (u : ℕ) (some : posted g s a ≡ Some u) where
      pub posts : u ≡ post g (A.set c) (A.action c)
      posts = sym (posted_post g s a (Some u) (sym some) u refl).1 ∙ rw (set_is, action_is)

      -- else the next words decide
      pub own_right : (r : ℕ) → FirstWrong (next_holds g A c) o r → FirstWrong (part_holds g k c) (part_length o) (1 + r)
      own_right r h =
          behind_front (part_holds g k c) (next_holds g A c) o r next_at (enabled_decides ∙ (posted_post g s a (Some u) (sym some) u refl).0) h

-- ---- the words in their order

module _ (g : Game) (k : List ℕ) (fine : card_checked k ≡ Ok tt) where
  abbrev test : ℕ → Bool
  test = word_holds g k

  abbrev seen : ℕ
  seen = card_observations k

  -- the head has no condition
  front_pass : HoldsBelow g k 1
  front_pass = record { within = omega (arith, firsts_in k (shaped k fine)); right = λ q l. head_word_lem g k q (omega arith) }

  module _ (r : ℕ) (ended : FirstWrong (first_holds g (automaton k)) seen r) where
    pub firsts_stop : r < seen → refused reason.NotSafe (1 + r) ≡ words_certified g k
    unfolding words_certified
    firsts_stop l =
        ap (λ (f : Found). at_found f (refused reason.NotSafe) (Ok tt))
        (sym (row_stop test (length k) (first_holds g (automaton k)) 1 seen r (first_word g k) (firsts_in k (shaped k fine)) front_pass ended l))

    pub firsts_pass : seen ≤ r → HoldsBelow g k (front_length seen)
    firsts_pass = row_pass test (length k) (first_holds g (automaton k)) 1 seen r (first_word g k) (firsts_in k (shaped k fine)) front_pass ended

  module _ (c : ℕ) (l : c < card_cells k) (below : HoldsBelow g k (cell_place seen c)) (r : ℕ) (ended : FirstWrong (part_holds g k c) (part_length seen) r) where
    inside : cell_place seen c + part_length seen ≤ length k
    inside = part_in k (shaped k fine) c (cell_place seen c) l refl

    pub part_stop : r < part_length seen → refused reason.NotSafe (cell_place seen c + r) ≡ words_certified g k
    unfolding words_certified
    part_stop b =
        ap (λ (f : Found). at_found f (refused reason.NotSafe) (Ok tt))
        (sym (row_stop test (length k) (part_holds g k c) (cell_place seen c) (part_length seen) r (λ j m. refl) inside below ended b))

    pub part_pass : part_length seen ≤ r → HoldsBelow g k (cell_place seen (c + 1))
    part_pass b =
        subst (HoldsBelow g k) (part_behind seen c)
        (row_pass test (length k) (part_holds g k c) (cell_place seen c) (part_length seen) r (λ j m. refl) inside below ended b)

  pub all_hold : (c : ℕ) → card_cells k ≤ c → c ≤ card_cells k → HoldsBelow g k (cell_place seen c) → (Ok tt) ≡ words_certified g k
  unfolding words_certified
  all_hold c l m below =
      let e : c ≡ card_cells k = omega arith in
      let end : cell_place seen c ≡ length k = ap (cell_place seen) e ∙ sym (shaped k fine).long in
      ap (λ (f : Found). at_found f (refused reason.NotSafe) (Ok tt)) (sym (pass_all test (length k) (subst (HoldsBelow g k) end below)))

-- ---- the entry

module _ (w k : List ℕ) where
  pub pair_stops : (number : Reason) (place : ℕ) → checked w k ≡ refused number place → refused number place ≡ certified w k
  unfolding certified
  pair_stops number place e = rw e

  pub words_decide : checked w k ≡ Ok tt → words_certified (game w) k ≡ certified w k
  unfolding certified
  words_decide e = rw e

  -- accepted means safe
  pub promised : (r : Checked) → r ≡ certified w k → (r ≡ certified w k) × (r ≡ Ok tt → Safe (game w) k)
  promised r e = (e, λ f. certified_safe w k (sym e ∙ f))
