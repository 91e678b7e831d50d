-- The rounds find just the reached cells: each round adds a cell until one adds none, so as many rounds as there are cells are enough.
-- Assumes nothing.
use mathlib.Core.Path.{◌≡◌, refl, sym, ap, ap₂, subst, ◌∙◌}
use mathlib.Core.Logic.{◌⊎◌, inl, inr, ⊎_elim}
use mathlib.Core.Bool.{Bool, true, false, beq, ◌&&◌, ◌||◌}
use Prim.Native.Nat.{ℕ, zero, suc, ◌≤◌, ◌<◌, zero-le}
use native.Mathlib.Decide.{le_ind}
use native.Mathlib.Omega.{arith}
use lib.Dec.{eqb, ltb}
use borrow.Author.Tests.{eq-eqb, eqb-true, lt-ltb, ltb-true, not-true}
use Rattle.sets.specs.Bounded.{all, any, count}
use Rattle.sets.proofs.Logic.{decided, clash, same_truth, and_left, and_right, and_intro, or_cases, or_left, or_right, false_not, beq_same, same_beq, beq_differ}
use Rattle.sets.proofs.Bounded.{all_at, all_intro, all_fails, any_found, any_intro, any_none, any_refuted, any_ext, count_le, count_all, count_strict, count_same}
use Rattle.games.specs.Automaton.{Automaton}
use Rattle.trimming.specs.Reach.{Names, Reached, by_first, by_next, alone}
use Rattle.trimming.specs.Trim.{first_names, next_names, no_first, reached_in, reached}
use Rattle.trimming.specs.Promise.{Finds}

module _ (A : Automaton) (o : ℕ) where
  -- ---- the tests of a round

  pub first_names_lem : (c j : ℕ) → j < o → A.begins j ≡ c → first_names A o c ≡ true
  unfolding first_names
  first_names_lem c j l e = any_intro o (λ i. eqb (A.begins i) c) j l (eq-eqb (A.begins j) c e)

  first_named : (c : ℕ) → first_names A o c ≡ true → (j : ℕ) × (j < o) × (A.begins j ≡ c)
  unfolding first_names
  first_named c h = let f = any_found o (λ i. eqb (A.begins i) c) h in (f.0, f.1, eqb-true (A.begins f.0) c f.2)

  pub next_names_lem : (d c j : ℕ) → j < o → A.next d j ≡ c → next_names A o d c ≡ true
  unfolding next_names
  next_names_lem d c j l e = any_intro o (λ i. eqb (A.next d i) c) j l (eq-eqb (A.next d j) c e)

  next_named : (d c : ℕ) → next_names A o d c ≡ true → (j : ℕ) × (j < o) × (A.next d j ≡ c)
  unfolding next_names
  next_named d c h = let f = any_found o (λ i. eqb (A.next d i) c) h in (f.0, f.1, eqb-true (A.next d f.0) c f.2)

  none_first : ((j : ℕ) → j < o → Names A (A.begins j) → ⊥) → no_first A o ≡ true
  unfolding no_first
  none_first h =
      false_not (any_refuted o (λ j. ltb (A.begins j) A.size) (λ j l.
      ⊎_elim (λ e. absurd (h j l (ltb-true (A.begins j) A.size e))) (λ e. e) (decided (ltb (A.begins j) A.size))))

  first_none : no_first A o ≡ true → (j : ℕ) → j < o → Names A (A.begins j) → ⊥
  unfolding no_first
  first_none h j l n =
      clash (lt-ltb (A.begins j) A.size n) (any_none o (λ i. ltb (A.begins i) A.size) (not-true (any o (λ i. ltb (A.begins i) A.size)) h) j l)

  -- ---- the rounds

  -- what the first round finds
  opens_first : (c : ℕ) → first_names A o c ≡ true → reached_in A o 0 c ≡ true
  unfolding reached_in
  opens_first c h = or_left (no_first A o && eqb c 0) h

  opens_alone : (c : ℕ) → no_first A o ≡ true → c ≡ 0 → reached_in A o 0 c ≡ true
  unfolding reached_in
  opens_alone c h e = or_right (first_names A o c) (and_intro h (eq-eqb c 0 e))

  -- the cells of a round stay
  stays : (k c : ℕ) → reached_in A o k c ≡ true → reached_in A o (suc k) c ≡ true
  unfolding reached_in
  stays k c h = or_left (any A.size (λ d. reached_in A o k d && next_names A o d c)) h

  stays_on : (n k c : ℕ) → n ≤ k → reached_in A o n c ≡ true → reached_in A o k c ≡ true
  stays_on n k c l h = le_ind (λ (i : ℕ). reached_in A o i c ≡ true) h (λ i b e. stays i c e) k l

  -- a round adds what the next words of its cells name
  adds : (k d c : ℕ) → d < A.size → reached_in A o k d ≡ true → next_names A o d c ≡ true → reached_in A o (suc k) c ≡ true
  unfolding reached_in
  adds k d c l h n =
      or_right (reached_in A o k c) (any_intro A.size (λ i. reached_in A o k i && next_names A o i c) d l (and_intro h n))

  -- ---- they settle

  -- round k + 1 adds no cell
  fixed : ℕ → Bool
  fixed k = all A.size (λ c. beq (reached_in A o k c) (reached_in A o (suc k) c))

  fixed_at : (k : ℕ) → fixed k ≡ true → (c : ℕ) → c < A.size → reached_in A o k c ≡ reached_in A o (suc k) c
  unfolding fixed
  fixed_at k h c l = beq_same (reached_in A o k c) (reached_in A o (suc k) c) (all_at A.size (λ i. beq (reached_in A o k i) (reached_in A o (suc k) i)) h c l)

  fixed_intro : (k : ℕ) → ((c : ℕ) → c < A.size → reached_in A o k c ≡ reached_in A o (suc k) c) → fixed k ≡ true
  unfolding fixed
  fixed_intro k h = all_intro A.size (λ i. beq (reached_in A o k i) (reached_in A o (suc k) i)) (λ c l. same_beq (h c l))

  -- then the one after it adds none either
  fixed_on : (k : ℕ) → fixed k ≡ true → fixed (suc k) ≡ true
  unfolding reached_in
  fixed_on k h =
      fixed_intro (suc k) (λ c l.
      ap₂ ◌||◌ (fixed_at k h c l)
      (any_ext A.size (λ d. reached_in A o k d && next_names A o d c) (λ d. reached_in A o (suc k) d && next_names A o d c)
      (λ d b. ap (λ (t : Bool). t && next_names A o d c) (fixed_at k h d b))))

  -- a round that adds a cell counts one more
  grows : (k : ℕ) → fixed k ≡ false → count A.size (reached_in A o k) < count A.size (reached_in A o (suc k))
  unfolding fixed
  grows k h =
      let f = all_fails A.size (λ c. beq (reached_in A o k c) (reached_in A o (suc k) c)) h in
      let c = f.0 in
      let apart = beq_differ (reached_in A o k c) (reached_in A o (suc k) c) f.2 in
      ⊎_elim (λ e. absurd (apart (e ∙ sym (stays k c e))))
      (λ e. ⊎_elim (λ t. count_strict A.size (reached_in A o k) (reached_in A o (suc k)) (λ i b. stays k i) c f.1 e t)
      (λ t. absurd (apart (e ∙ sym t))) (decided (reached_in A o (suc k) c)))
      (decided (reached_in A o k c))

  counts : (k : ℕ) → (fixed k ≡ true) ⊎ (k ≤ count A.size (reached_in A o k))
  counts zero = inr zero-le
  counts (suc k) =
      ⊎_elim (λ e. inl (fixed_on k e))
      (λ e. ⊎_elim (λ b. inl (fixed_on k b)) (λ b. inr (omega (arith, grows k e, b))) (counts k))
      (decided (fixed k))

  -- all cells are found in round k, so it adds none
  fixed_full : (k : ℕ) → A.size ≤ count A.size (reached_in A o k) → fixed k ≡ true
  fixed_full k h =
      let every : count A.size (reached_in A o k) ≡ count A.size (λ c. true) =
      omega (arith, count_le A.size (reached_in A o k), count_all A.size (λ c. true) (λ c l. refl)) in
      let found = count_same A.size (reached_in A o k) (λ c. true) (λ c l e. refl) every in
      fixed_intro k (λ c l. found c l ∙ sym (stays k c (found c l)))

  settled : fixed A.size ≡ true
  settled = ⊎_elim (λ e. e) (fixed_full A.size) (counts A.size)

  -- what a reached cell names is reached
  pub reached_next : (d c j : ℕ) → d < A.size → reached A o d ≡ true → j < o → A.next d j ≡ c → c < A.size → reached A o c ≡ true
  unfolding reached
  reached_next d c j b h l e n = fixed_at A.size settled c n ∙ adds A.size d c b h (next_names_lem d c j l e)

  pub reached_first : (c j : ℕ) → j < o → A.begins j ≡ c → reached A o c ≡ true
  unfolding reached
  reached_first c j l e = stays_on 0 A.size c zero-le (opens_first c (first_names_lem c j l e))

  pub reached_alone : (c : ℕ) → c ≡ 0 → ((j : ℕ) → j < o → Names A (A.begins j) → ⊥) → reached A o c ≡ true
  unfolding reached
  reached_alone c e h = stays_on 0 A.size c zero-le (opens_alone c (none_first h) e)

  -- some cell is
  pub some_reached : 0 < A.size → (c : ℕ) × (c < A.size) × (reached A o c ≡ true)
  some_reached s =
      let names : ℕ → Bool = λ j. ltb (A.begins j) A.size in
      ⊎_elim
      (λ e. let f = any_found o names e in (A.begins f.0, ltb-true (A.begins f.0) A.size f.2, reached_first (A.begins f.0) f.0 f.1 refl))
      (λ e. (0, s, reached_alone 0 refl (λ j l n. clash (lt-ltb (A.begins j) A.size n) (any_none o names e j l))))
      (decided (any o names))

  -- ---- the two say the same

  -- a reached cell is one of the cells, where there is one
  pub reached_inside : {c : ℕ} → 0 < A.size → Reached A o c → Names A c
  reached_inside s (by_first j l e n) = n
  reached_inside s (by_next d j r l e n) = n
  reached_inside s (alone e h) = omega arith

  pub all_found : {c : ℕ} → 0 < A.size → Reached A o c → reached A o c ≡ true
  all_found {c} s (by_first j l e n) = reached_first c j l e
  all_found {c} s (by_next d j r l e n) = reached_next d c j (reached_inside s r) (all_found s r) l e n
  all_found {c} s (alone e h) = reached_alone c e h

  in_first : (c : ℕ) → Names A c → (first_names A o c ≡ true) ⊎ ((no_first A o && eqb c 0) ≡ true) → Reached A o c
  in_first c n h =
      ⊎_elim (λ e. let f = first_named c e in by_first f.0 f.1 f.2 n)
      (λ e. alone (eqb-true c 0 (and_right (no_first A o) (eqb c 0) e)) (first_none (and_left (no_first A o) (eqb c 0) e))) h

  in_rounds : (k c : ℕ) → Names A c → reached_in A o k c ≡ true → Reached A o c
  unfolding reached_in
  in_rounds zero c n h = in_first c n (or_cases (first_names A o c) (no_first A o && eqb c 0) h)
  in_rounds (suc k) c n h =
      ⊎_elim (λ e. in_rounds k c n e)
      (λ e.
      let f = any_found A.size (λ d. reached_in A o k d && next_names A o d c) e in
      let d = f.0 in
      let w = next_named d c (and_right (reached_in A o k d) (next_names A o d c) f.2) in
      by_next d w.0 (in_rounds k d f.1 (and_left (reached_in A o k d) (next_names A o d c) f.2)) w.1 w.2 n)
      (or_cases (reached_in A o k c) (any A.size (λ d. reached_in A o k d && next_names A o d c)) h)

  pub just_found : (c : ℕ) → Names A c → reached A o c ≡ true → Reached A o c
  unfolding reached
  just_found c n h = in_rounds A.size c n h

  pub found : Finds A o
  found c n = (just_found c n, λ r. all_found (omega arith) r)

-- ---- cells that are marked

-- a test marks each cell that a first word names, cell 0 where no first word names one, and each cell that a next word of a marked cell names; and
-- it marks reached cells alone
pub record Closed (A : Automaton) (o : ℕ) (mark : ℕ → Bool) : Type 0 where
  pub firsts : (j : ℕ) → j < o → Names A (A.begins j) → mark (A.begins j) ≡ true
  pub zeroth : ((j : ℕ) → j < o → Names A (A.begins j) → ⊥) → mark 0 ≡ true
  pub nexts : (c j : ℕ) → Names A c → mark c ≡ true → j < o → Names A (A.next c j) → mark (A.next c j) ≡ true
  pub only : (c : ℕ) → Names A c → mark c ≡ true → Reached A o c

-- then it marks just the reached cells
module _ (A : Automaton) (o : ℕ) (mark : ℕ → Bool) (M : Closed A o mark) where
  reached_marked : {c : ℕ} → 0 < A.size → Reached A o c → mark c ≡ true
  reached_marked s (by_first j l e n) = subst (λ (d : ℕ). mark d ≡ true) e (M.firsts j l (subst (Names A) (sym e) n))
  reached_marked s (by_next d j r l e n) =
      subst (λ (x : ℕ). mark x ≡ true) e (M.nexts d j (reached_inside A o s r) (reached_marked s r) l (subst (Names A) (sym e) n))
  reached_marked s (alone e h) = subst (λ (d : ℕ). mark d ≡ true) (sym e) (M.zeroth h)

  pub marks_reached : (c : ℕ) → Names A c → mark c ≡ reached A o c
  marks_reached c n =
      let s : 0 < A.size = omega arith in
      same_truth (mark c) (reached A o c) (λ m. all_found A o s (M.only c n m)) (λ r. reached_marked s (just_found A o c n r))
