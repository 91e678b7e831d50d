-- A card and its trimmed card, run side by side: both are refused alike, or the one enters a reached cell and the other its new number,
-- with the same action.
-- Assumes nothing.
use mathlib.Core.Path.{◌≡◌, refl, sym, ap, ap₂, ◌∙◌}
use mathlib.Core.Logic.{⊎_elim}
use mathlib.Core.Bool.{true}
use mathlib.Core.List.{List, [], ◌∷◌}
use Prim.Native.Nat.{ℕ, ◌<◌}
use native.Mathlib.Omega.{arith}
use Rattle.sets.proofs.Logic.{lt_or_le}
use Rattle.games.specs.Automaton.{Automaton, no_cell}
use Rattle.cards.specs.Run.{Move}
use Rattle.cards.specs.Card.{card_observations, automaton, checked, Named}
use Rattle.cards.specs.Run.{entered, enters, begun, followed, opened, stepped, moved, ran_from, ran}
use Rattle.cards.proofs.Checked.{fitting}
use Rattle.cards.proofs.Running.{cannot_occur, enters_cell, begun_late, begun_enters, followed_late, followed_enters, opened_fine, stepped_fine}
use Rattle.cards.proofs.Runs.{moved_entered, moved_refused, ran_none}
use Rattle.trimming.specs.Trim.{reached, renumbered, trimmed}
use Rattle.trimming.specs.Promise.{told, SameRuns}
use Rattle.trimming.proofs.Reaching.{reached_first, reached_next}
use Rattle.trimming.proofs.Numbers.{new_none, no_none}
use Rattle.trimming.proofs.Trimmed.{trimmed_checked, trimmed_observations, new_inside, new_action, new_next, new_begins}
use Rattle.games.specs.declared.Reason.{Reason}
use Rattle.games.specs.Answers.{refused}
use Rattle.games.specs.declared.Reason.TheVariants as reason
use Rattle.std.specs.Prelude.{Ok}

-- a move of the trimmed card beside one of the card
pub data Beside (A : Automaton) (o : ℕ) : (trimmed full : Move) → Type 0 where
  both_enter : {r s : Move} (c a : ℕ) → c < A.size → reached A o c ≡ true → r ≡ entered (renumbered A o c) a → s ≡ entered c a → Beside A o r s
  both_refuse : {r s : Move} (n : Reason) (p : ℕ) → r ≡ refused n p → s ≡ refused n p → Beside A o r s

pub same_told : {A : Automaton} {o : ℕ} {r s : Move} → Beside A o r s → told r ≡ told s
unfolding told
same_told (both_enter c a l h e f) = ap told e ∙ sym (ap told f)
same_told (both_refuse n p e f) = ap told e ∙ sym (ap told f)

module _ (w : List ℕ) (e : checked w ≡ Ok tt) where
  abbrev A : Automaton
  A = automaton w

  abbrev B : Automaton
  B = automaton (trimmed w)

  abbrev o : ℕ
  o = card_observations w

  abbrev Pair : Move → Move → Type 0
  Pair = Beside A o

  right : checked (trimmed w) ≡ Ok tt
  right = trimmed_checked w e

  -- entering what a word names
  enters_beside : (c d j : ℕ) → Named A c → (c < A.size → reached A o c ≡ true) → d ≡ renumbered A o c → Pair (enters B d j) (enters A c j)
  enters_beside c d j n r f =
      ⊎_elim
      (λ l.
      let some : d ≡ no_cell → ⊥ = λ z. omega (arith, new_inside w e c l (r l), (fitting (trimmed w) right).cells) in
      both_enter c (A.action c) l (r l) (enters_cell B o d j some ∙ ap₂ entered f (ap B.action f ∙ new_action w e c l (r l))) (enters_cell A o c j (no_none A o (fitting w e).cells c l)))
      (λ z. both_refuse reason.CannotOccur j (cannot_occur B o d j (f ∙ new_none A o c z)) (cannot_occur A o c j z))
      n

  -- the first observation
  opened_beside : (j : ℕ) → Pair (opened (trimmed w) j) (opened w j)
  opened_beside j =
      let one : opened (trimmed w) j ≡ begun B o j = opened_fine (trimmed w) j right ∙ ap (λ (n : ℕ). begun B n j) (trimmed_observations w e) in
      let two = opened_fine w j e in
      ⊎_elim
      (λ l. rw (one, two, begun_enters B o j l, begun_enters A o j l)
      (enters_beside (A.begins j) (B.begins j) j ((fitting w e).begins_named j l) (λ b. reached_first A o (A.begins j) j l refl) (new_begins w e j l)))
      (λ l. both_refuse reason.NumberBeyond j (one ∙ begun_late B o j l) (two ∙ begun_late A o j l))
      (lt_or_le j o)

  -- a later one
  stepped_beside : (c j : ℕ) → c < A.size → reached A o c ≡ true → Pair (stepped (trimmed w) (renumbered A o c) j) (stepped w c j)
  stepped_beside c j b r =
      let d = renumbered A o c in
      let in_b = new_inside w e c b r in
      let one : stepped (trimmed w) d j ≡ followed B o d j = stepped_fine (trimmed w) d j right ∙ ap (λ (n : ℕ). followed B n d j) (trimmed_observations w e) in
      let two = stepped_fine w c j e in
      ⊎_elim
      (λ l. rw (one, two, followed_enters B o d j in_b l, followed_enters A o c j b l)
      (enters_beside (A.next c j) (B.next d j) j ((fitting w e).next_named c j b l) (λ k. reached_next A o c (A.next c j) j b r l refl k) (new_next w e c b r j l)))
      (λ l. both_refuse reason.NumberBeyond j (one ∙ followed_late B o d j in_b l) (two ∙ followed_late A o c j b l))
      (lt_or_le j o)

  moved_beside : (r s : Move) (j : ℕ) → Pair r s → Pair (moved (trimmed w) r j) (moved w s j)
  moved_beside r s j (both_enter c a l h f g) =
      rw (f, g, moved_entered (trimmed w) (renumbered A o c) a j, moved_entered w c a j) (stepped_beside c j l h)
  moved_beside r s j (both_refuse n p f g) =
      both_refuse n p (ap (λ (m : Move). moved (trimmed w) m j) f ∙ moved_refused (trimmed w) n p j) (ap (λ (m : Move). moved w m j) g ∙ moved_refused w n p j)

  ran_from_beside : (h : List ℕ) (r s : Move) → Pair r s → Pair (ran_from (trimmed w) r h) (ran_from w s h)
  unfolding ran_from
  ran_from_beside [] r s p = p
  ran_from_beside (j ∷ h) r s p = ran_from_beside h (moved (trimmed w) r j) (moved w s j) (moved_beside r s j p)

  pub ran_beside : (h : List ℕ) → Pair (ran (trimmed w) h) (ran w h)
  unfolding ran
  ran_beside [] = both_refuse reason.NumberBeyond no_cell (ran_none (trimmed w) right) (ran_none w e)
  ran_beside (j ∷ h) = ran_from_beside h (opened (trimmed w) j) (opened w j) (opened_beside j)

  pub same_runs : SameRuns w
  same_runs h = same_told (ran_beside h)
