-- Laws of the notes: as the cells are noted, and as what is found is.
-- Assumes nothing.
use mathlib.Core.Path.{◌≡◌, sym, ap, ◌∙◌, subst}
use mathlib.Core.Logic.{⊎_elim}
use mathlib.Core.Bool.{true}
use mathlib.Core.List.{List}
use Prim.Native.Nat.{ℕ, ◌+◌, ◌≤◌, ◌<◌}
use native.Mathlib.Omega.{arith}
use lib.Dec.{eqb}
use lib.ListN.{length, get_or, take, set, length-set}
use lib.Seq.{get_or-set_same, get_or-set_other, take-set-le, get_or-take}
use borrow.Author.Tests.{eqb-true, eqb-false}
use Rattle.sets.specs.Bounded.{count}
use Rattle.sets.specs.Family.{holds}
use Rattle.sets.proofs.Logic.{decided}
use Rattle.sets.proofs.Mask.{subset_refl}
use Rattle.sets.proofs.Family.{holds_intro}
use Rattle.families.specs.Bits.{max_lanes, has, sets}
use Rattle.games.specs.Automaton.{holding}
use Rattle.games.proofs.Holding.{holding_only}
use Rattle.index.specs.Index.{Noted}
use Rattle.index.proofs.Sizes.{has_listed, listed_has}
use Rattle.index.proofs.Climbing.{own_tightest}
use Rattle.index.proofs.Answer.{place_lt, place_at, place_is, tightest_cell}

-- ---- one word stored behind the cells

module _ (base : ℕ) (work : List ℕ) (t v : ℕ) where
  stored_same : base + t < length work → get_or (set work (base + t) v) (base + t) 0 ≡ v
  stored_same l = get_or-set_same work (base + t) v 0 l

  stored_other : (s : ℕ) → (s ≡ t → ⊥) → get_or (set work (base + t) v) (base + s) 0 ≡ get_or work (base + s) 0
  stored_other s d = get_or-set_other work (base + t) (base + s) v 0 (λ e. d (omega (arith, e)))

  stored_front : (k : ℕ) → k ≤ base → take k (set work (base + t) v) ≡ take k work
  stored_front k l = take-set-le k work (base + t) v (omega (arith, l))

-- ---- the cells

-- the first c cells are noted, and no other set
pub record Noting (tops : List ℕ) (base c : ℕ) (work : List ℕ) : Type 0 where
  pub room : base + base ≤ length work
  pub front : take (length (sets tops)) work ≡ sets tops
  pub cells : (s : ℕ) → has tops s ≡ true → count s (has tops) < c → get_or work (base + s) 0 ≡ 1 + count s (has tops)
  pub only : (t : ℕ) → t < base → (get_or work (base + t) 0 ≡ 0 → ⊥) → has tops t ≡ true

module _ (tops : List ℕ) (base : ℕ) where
  module _ (c : ℕ) (work : List ℕ) (w : Noting tops base c work) (l : c < length (sets tops)) (few : length (sets tops) ≤ base) (below : (s : ℕ) → has tops s ≡ true → s < base) where
    -- the cell at hand
    abbrev set_of_lem : ℕ
    set_of_lem = get_or (sets tops) c 0

    noting_read : get_or work c 0 ≡ set_of_lem
    noting_read = sym (get_or-take (length (sets tops)) work c 0 l) ∙ ap (λ (k : List ℕ). get_or k c 0) w.front

    noting_below : set_of_lem < base
    noting_below = below set_of_lem (listed_has tops c l)

    pub read_below : get_or work c 0 < base
    read_below = rw noting_read noting_below

    pub noting_more : Noting tops base (c + 1) (set work (base + get_or work c 0) (c + 1))
    noting_more =
        rw noting_read
        (let there : base + set_of_lem < length work = omega (arith, noting_below, w.room) in
        record {
          room = subst (λ (n : ℕ). base + base ≤ n) (sym (length-set work (base + set_of_lem) (c + 1))) w.room;
          front = stored_front base work set_of_lem (c + 1) (length (sets tops)) few ∙ w.front;
          cells = λ s h b. ⊎_elim
              (λ e. let d : s ≡ set_of_lem = eqb-true s set_of_lem e in
              ap (λ (x : ℕ). get_or (set work (base + set_of_lem) (c + 1)) (base + x) 0) d ∙ stored_same base work set_of_lem (c + 1) there
              ∙ omega (arith, ap (λ (x : ℕ). count x (has tops)) d, place_is tops c l))
              (λ e. let d = eqb-false s set_of_lem e in
              stored_other base work set_of_lem (c + 1) s d
              ∙ w.cells s h (omega (arith, b, number_apart s h d)))
              (decided (eqb s set_of_lem));
          only = λ t b some. ⊎_elim
              (λ e. subst (λ (x : ℕ). has tops x ≡ true) (sym (eqb-true t set_of_lem e)) (listed_has tops c l))
              (λ e. w.only t b (λ z. some (stored_other base work set_of_lem (c + 1) t (eqb-false t set_of_lem e) ∙ z)))
              (decided (eqb t set_of_lem));
        })
      where
        number_apart : (s : ℕ) → has tops s ≡ true → (s ≡ set_of_lem → ⊥) → count s (has tops) ≡ c → ⊥
        number_apart s h d e = d (sym (place_at tops s h) ∙ ap (λ (i : ℕ). get_or (sets tops) i 0) e)

  -- a cell that holds itself is named for its set
  own_named : length tops ≤ max_lanes → (t : ℕ) → (t ≡ 0 → ⊥) → has tops t ≡ true → (holds (sets tops) t ≡ true) × (count t (has tops) ≡ holding (sets tops) t)
  own_named few t some h = (
    holds_intro (sets tops) t t (has_listed tops t h) (subset_refl t),
    holding_only (sets tops) t some (count t (has tops)) (tightest_cell tops t t (own_tightest tops few t h)),
  )

  pub noting_end : (c : ℕ) (work : List ℕ) → Noting tops base c work → length (sets tops) ≤ c → length tops ≤ max_lanes → length (sets tops) ≤ base → ((s : ℕ) → has tops s ≡ true → s < base) → Noted tops base work
  noting_end c work w l lanes few below =
      let noted : (s : ℕ) → has tops s ≡ true → get_or work (base + s) 0 ≡ 1 + count s (has tops) = λ s h. w.cells s h (omega (arith, place_lt tops s h, l)) in
      record {
        room = w.room;
        few = few;
        below = below;
        front = w.front;
        cells = noted;
        notes = λ t b some note.
            let h = w.only t b note in
            let o = own_named lanes t some h in
            (o.0, noted t h ∙ ap (λ (n : ℕ). 1 + n) o.1);
      }

  -- ---- what stands there

  pub noted_cell : (work : List ℕ) → Noted tops base work → (c : ℕ) → c < length (sets tops) → get_or work c 0 ≡ get_or (sets tops) c 0
  noted_cell work w c l = sym (get_or-take (length (sets tops)) work c 0 l) ∙ ap (λ (k : List ℕ). get_or k c 0) w.front

  -- ---- what is found is noted

  module _ (work : List ℕ) (w : Noted tops base work) (t : ℕ) (below : t < base) (none : get_or work (base + t) 0 ≡ 0) where
    -- t is no cell's set
    not_cell : (s : ℕ) → has tops s ≡ true → s ≡ t → ⊥
    not_cell s h e = absurd (omega (arith, w.cells s h, ap (λ (x : ℕ). get_or work (base + x) 0) e, none))

    pub noted_more : (v : ℕ) → holds (sets tops) t ≡ true → v ≡ 1 + holding (sets tops) t → Noted tops base (set work (base + t) v)
    noted_more v h e =
        record {
          room = subst (λ (n : ℕ). base + base ≤ n) (sym (length-set work (base + t) v)) w.room;
          few = w.few;
          below = w.below;
          front = stored_front base work t v (length (sets tops)) w.few ∙ w.front;
          cells = λ s k. stored_other base work t v s (not_cell s k) ∙ w.cells s k;
          notes = λ s b some note. ⊎_elim
              (λ q. let d : s ≡ t = eqb-true s t q in (
                subst (λ (x : ℕ). holds (sets tops) x ≡ true) (sym d) h,
                ap (λ (x : ℕ). get_or (set work (base + t) v) (base + x) 0) d ∙ stored_same base work t v (omega (arith, below, w.room)) ∙ e ∙ ap (λ (x : ℕ). 1 + holding (sets tops) x) (sym d),
              ))
              (λ q.
              let o = stored_other base work t v s (eqb-false s t q) in
              let n = w.notes s b some (λ z. note (o ∙ z)) in
              (n.0, o ∙ n.1)) (decided (eqb s t));
        }
