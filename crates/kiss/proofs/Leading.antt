-- The cells that are led to are just those that a card enters on some list of observations; so the lowest idle cell is what it says.
-- Assumes nothing.
use mathlib.Core.Path.{◌≡◌, refl, sym, ap, subst, ◌∙◌}
use mathlib.Core.Logic.{⊎_elim}
use mathlib.Core.Bool.{not}
use mathlib.Core.List.{List, [], ◌∷◌, ◌++◌}
use Prim.Native.Nat.{ℕ, ◌<◌}
use native.Mathlib.Omega.{arith}
use lib.ListN.{length, length-append}
use borrow.Author.Tests.{not-true, not-false}
use Rattle.sets.specs.Bounded.{found}
use Rattle.sets.proofs.Logic.{lt_or_le, clash}
use Rattle.sets.proofs.Bounded.{first_found}
use Rattle.games.specs.Automaton.{Automaton, no_cell}
use Rattle.cards.specs.Run.{Move}
use Rattle.cards.specs.Card.{automaton, card_cells, card_observations, checked, Named}
use Rattle.cards.specs.Run.{entered, enters, begun, followed, opened, stepped, moved, ran_from, ran}
use Rattle.cards.proofs.Checked.{fitting}
use Rattle.cards.proofs.Running.{size_of, cannot_occur, enters_cell, begun_late, begun_enters, followed_late, followed_enters, opened_fine, stepped_fine}
use Rattle.cards.proofs.Runs.{moved_entered, ran_one, ran_more, ran_none, not_entered, same_entered}
use Rattle.kiss.specs.Idle.{Led, at_first, later, led, idle, LowestIdle}
use Rattle.kiss.proofs.Idling.{led_sound, led_complete}
use Rattle.games.specs.declared.Reason.TheVariants as reason
use Rattle.std.specs.Prelude.{Ok, Err}

module _ (w : List ℕ) (e : checked w ≡ Ok tt) where
  abbrev A : Automaton
  A = automaton w

  abbrev o : ℕ
  o = card_observations w

  -- ---- a cell that is led to is entered

  some : (c : ℕ) → c < A.size → c ≡ no_cell → ⊥
  some c l z = omega (arith, (fitting w e).cells)

  opens : (c j : ℕ) → j < o → A.begins j ≡ c → c < A.size → opened w j ≡ entered c (A.action c)
  opens c j l f n = opened_fine w j e ∙ begun_enters A o j l ∙ ap (λ (d : ℕ). enters A d j) f ∙ enters_cell A o c j (some c n)

  steps : (d c j : ℕ) → d < A.size → j < o → A.next d j ≡ c → c < A.size → stepped w d j ≡ entered c (A.action c)
  steps d c j b l f n = stepped_fine w d j e ∙ followed_enters A o d j b l ∙ ap (λ (x : ℕ). enters A x j) f ∙ enters_cell A o c j (some c n)

  inside : {c : ℕ} → Led A o c → c < A.size
  inside (at_first j l f n) = n
  inside (later d j r l f n) = n

  pub record Way (c : ℕ) : Type 0 where
    pub seen : List ℕ
    pub some_seen : 0 < length seen
    pub enters_there : ran w seen ≡ entered c (A.action c)

  pub led_way : {c : ℕ} → Led A o c → Way c
  led_way {c} (at_first j l f n) = record { seen = j ∷ []; some_seen = omega arith; enters_there = ran_one w j ∙ opens c j l f n }
  led_way {c} (later d j r l f n) =
      let v = led_way r in
      record {
        seen = v.seen ++ (j ∷ []);
        some_seen = omega (arith, length-append v.seen (j ∷ []));
        enters_there =
            ran_more w v.seen j v.some_seen
            ∙ ap (λ (m : Move). moved w m j) v.enters_there
            ∙ moved_entered w d (A.action d) j
            ∙ steps d c j (inside r) l f n;
      }

  -- ---- and no other is

  -- what a move says of the cell entered
  abbrev pub Leads : Move → Type 0
  Leads m = (c a : ℕ) → m ≡ entered c a → Led A o c

  enters_led : (x j : ℕ) → Named A x → (x < A.size → Led A o x) → Leads (enters A x j)
  enters_led x j n h c a f =
      ⊎_elim
      (λ l. let g = same_entered x (A.action x) c a (sym (enters_cell A o x j (some x l)) ∙ f) in subst (Led A o) g.0 (h l))
      (λ z. not_entered reason.CannotOccur j c a (sym (cannot_occur A o x j z) ∙ f))
      n

  opened_led : (j : ℕ) → Leads (opened w j)
  opened_led j c a f =
      let g : begun A o j ≡ entered c a = sym (opened_fine w j e) ∙ f in
      ⊎_elim
      (λ l. enters_led (A.begins j) j ((fitting w e).begins_named j l) (λ n. at_first j l refl n) c a (sym (begun_enters A o j l) ∙ g))
      (λ l. not_entered reason.NumberBeyond j c a (sym (begun_late A o j l) ∙ g))
      (lt_or_le j o)

  stepped_led : (d j : ℕ) → Led A o d → Leads (stepped w d j)
  stepped_led d j r c a f =
      let b = inside r in
      let g : followed A o d j ≡ entered c a = sym (stepped_fine w d j e) ∙ f in
      ⊎_elim
      (λ l. enters_led (A.next d j) j ((fitting w e).next_named d j b l) (λ n. later d j r l refl n) c a (sym (followed_enters A o d j b l) ∙ g))
      (λ l. not_entered reason.NumberBeyond j c a (sym (followed_late A o d j b l) ∙ g))
      (lt_or_le j o)

  moved_led : (m : Move) (j : ℕ) → Leads m → Leads (moved w m j)
  unfolding moved
  moved_led (Ok m) j h c a f = stepped_led m.cell.0 j (h m.cell.0 m.action.0 refl) c a f
  moved_led (Err stop) j h c a f = h c a f

  ran_from_led : (h : List ℕ) (m : Move) → Leads m → Leads (ran_from w m h)
  unfolding ran_from
  ran_from_led [] m l = l
  ran_from_led (j ∷ h) m l = ran_from_led h (moved w m j) (moved_led m j l)

  pub ran_led : (h : List ℕ) → Leads (ran w h)
  unfolding ran
  ran_led [] c a f = not_entered reason.NumberBeyond no_cell c a (sym (ran_none w e) ∙ f)
  ran_led (j ∷ h) c a f = ran_from_led h (opened w j) (opened_led j) c a f

  -- ---- the lowest idle cell

  pub lowest_idle : (c : ℕ) → idle w ≡ found c → LowestIdle w c
  unfolding idle
  lowest_idle c f =
      let l = first_found (card_cells w) (λ d. not (led A o d)) c f in
      record {
        inside = l.0;
        never = λ h a g. clash (led_complete A o c (ran_led h c a g)) (not-true (led A o c) l.1);
        below = λ d b.
            let v = led_way (led_sound A o d (omega (arith, size_of w, l.0)) (not-false (led A o d) (l.2 d b))) in
            (v.seen, v.enters_there);
      }
