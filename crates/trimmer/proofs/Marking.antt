-- Laws of the marks and of the cells that wait: a cell is marked, or was so already; names one after the other; where a run begins; a
-- waiting cell is taken up; and when none waits any more, just the reached cells are marked.
-- Assumes nothing.
use mathlib.Core.Path.{◌≡◌, refl, sym, ap, ◌∙◌, subst}
use mathlib.Core.Logic.{◌⊎◌, inl, inr, ⊎_elim}
use mathlib.Core.Bool.{Bool, true, false, cond}
use mathlib.Core.List.{List}
use Prim.Native.Nat.{ℕ, ◌+◌, ◌≤◌, ◌<◌}
use native.Mathlib.Omega.{arith}
use lib.Dec.{eqb}
use lib.ListN.{length}
use borrow.Author.Tests.{eq-eqb, ne_eqb, eqb-true, eqb-false}
use Rattle.sets.specs.Bounded.{count}
use Rattle.sets.proofs.Logic.{decided, clash, lt_or_le}
use Rattle.sets.proofs.Bounded.{count_ext, count_one, count_all, count_strict, count_none}
use Rattle.games.specs.Automaton.{Automaton, no_cell}
use Rattle.trimming.specs.Reach.{Names, Reached, by_first, by_next, alone}
use Rattle.trimming.specs.Trim.{reached}
use Rattle.trimming.proofs.Reaching.{Closed, marks_reached}
use Rattle.trimming.proofs.Numbers.{kept_length}
use Rattle.trimmer.specs.Halves.{half_values, lower_half, upper_half, put_lower, put_upper, marked}
use Rattle.trimmer.specs.Marking.{Waits, Listing, Added, Adds, named_from, NamesInside, named_or, Naming, Own, FirstNamed, Taking, TakingOf, Marked}
use Rattle.trimmer.specs.declared.Marks.{Marks}
use Rattle.trimmer.proofs.Halves.{at_each, put_lower_length, put_upper_length, lower_here, lower_there, lower_stays, upper_here, upper_there, upper_stays, marks, same_mark}

-- ---- the cell that is tested for a word

module _ (c d : ℕ) where
  pub or_none : c ≡ no_cell → d ≡ named_or c d
  or_none e = sym (ap (λ (b : Bool). cond b d c) (eq-eqb c no_cell e))

  pub or_some : (c ≡ no_cell → ⊥) → c ≡ named_or c d
  or_some n = sym (ap (λ (b : Bool). cond b d c) (ne_eqb c no_cell n))

-- d is marked, and stands for a word that names no cell
module _ (w : List ℕ) (c d : ℕ) (own : Own w d) (few : length w ≤ no_cell) (named : NamesInside c (length w)) where
  pub tested_inside : named_or c d < length w
  tested_inside =
      ⊎_elim (λ l. subst (λ (x : ℕ). x < length w) (or_some c d (λ z. omega arith)) l) (λ e. subst (λ (x : ℕ). x < length w) (or_none c d e) own.inside) named

  -- the test says of the cell, if it is one, whether it is marked
  pub tested_marked : marked w (named_or c d) ≡ true → c < length w → marked w c ≡ true
  tested_marked h l = subst (λ (x : ℕ). marked w x ≡ true) (sym (or_some c d (λ z. omega arith))) h

  pub tested_free : marked w (named_or c d) ≡ false → (c < length w) × (marked w c ≡ false)
  tested_free h =
      ⊎_elim (λ l. (l, subst (λ (x : ℕ). marked w x ≡ false) (sym (or_some c d (λ z. omega arith))) h))
      (λ e. clash own.is_marked (subst (λ (x : ℕ). marked w x ≡ false) (sym (or_none c d e)) h)) named

-- ---- a cell is marked

-- the marks after it: its own, and the others as they were
module _ (w : List ℕ) (c : ℕ) (l : c < length w) (v : List ℕ) (same : (d : ℕ) → lower_half v d ≡ lower_half (put_lower w c 1) d) where
  pub mark_here : marked v c ≡ true
  mark_here = marks v c (omega (arith, same c, lower_here w c 1 l (omega arith)))

  pub mark_there : (d : ℕ) → (d ≡ c → ⊥) → marked v d ≡ marked w d
  mark_there d z = same_mark v w d (same d ∙ lower_there w c 1 d z)

  pub mark_count : marked w c ≡ false → count (length w) (marked v) ≡ count (length w) (marked w) + 1
  mark_count free = count_one (length w) (marked w) (marked v) c l free mark_here (λ d b z. sym (mark_there d z))

module _ (w : List ℕ) (n next c : ℕ) (L : Listing w n next) where
  -- it is marked already, or it is no cell
  pub mark_stays : (c < length w → marked w c ≡ true) → Added (λ _. c) 1 w n next w n next
  mark_stays e =
      record {
        same = refl;
        listing = L;
        grew = refl;
        keeps = λ d h. h;
        marks = λ d h. h;
        all = λ j b k. e k;
        only = λ d h. inl h;
      }

  module _ (l : c < length w) (free : marked w c ≡ false) where
    -- then not every cell waits
    pub mark_room : n < length w
    mark_room =
        omega (arith, L.few, count_strict (length w) (marked w) (λ _. true) (λ i b e. refl) c l free refl, count_all (length w) (λ _. true) (λ i b. refl))

    module _ (few : length w ≤ half_values) where
      abbrev u : List ℕ
      u = put_lower w c 1

      abbrev v : List ℕ
      v = put_upper u n next

      room : n < length u
      room = omega (arith, put_lower_length w c 1, mark_room)

      v_long : length v ≡ length w
      v_long = put_upper_length u n next ∙ put_lower_length w c 1

      lowers : (d : ℕ) → lower_half v d ≡ lower_half u d
      lowers = lower_stays u n next room

      here : marked v c ≡ true
      here = mark_here w c l v lowers

      there : (d : ℕ) → (d ≡ c → ⊥) → marked v d ≡ marked w d
      there = mark_there w c l v lowers

      last : upper_half v n ≡ next
      last = upper_here u n next room

      before : (i : ℕ) → i < n → upper_half v i ≡ upper_half w i
      before i b = upper_there u n next i (λ z. omega arith) ∙ upper_stays w c 1 l (omega arith) i

      stays : (d : ℕ) → marked w d ≡ true → marked v d ≡ true
      stays d h = there d (λ z. clash (subst (λ (x : ℕ). marked w x ≡ true) z h) free) ∙ h

      -- what waited waits behind it; and nothing else does
      keeps : (d : ℕ) → Waits w n next d → Waits v (n + 1) c d
      keeps d h =
          ⊎_elim (λ e. inr (n, e.0, omega arith, last ∙ e.1)) (λ e. inr (e.0, e.1, omega (arith, e.2), before e.0 e.2 ∙ e.3)) h

      back : (d : ℕ) → Waits v (n + 1) c d → (c ≡ d) ⊎ Waits w n next d
      back d h =
          ⊎_elim (λ e. inl e.1)
          (λ e. inr (⊎_elim
          (λ b. inr (e.0, e.1, b, sym (before e.0 b) ∙ e.3))
          (λ b. let k : n ≡ e.0 = omega (arith, e.2, b) in inl (omega (arith, e.1, k), sym last ∙ ap (λ (x : ℕ). upper_half v x) k ∙ e.3))
          (lt_or_le e.0 n)))
          h

      listing : Listing v (n + 1) c
      listing =
          record {
            few = subst (λ (x : ℕ). n + 1 ≤ count x (marked v)) (sym v_long) (omega (arith, mark_count w c l v lowers free, L.few));
            fits = omega arith;
            sound = λ d h.
                ⊎_elim (λ e. (omega (arith, v_long), subst (λ (x : ℕ). marked v x ≡ true) e here)) (λ e. let s = L.sound d e in (omega (arith, v_long, s.0), stays d s.1)) (back d h);
          }

      -- it is marked now, and next
      pub mark_adds : Added (λ _. c) 1 w n next v (n + 1) c
      mark_adds =
          record {
            same = v_long;
            listing = listing;
            grew = omega (arith, mark_count w c l v lowers free);
            keeps = keeps;
            marks = stays;
            all = λ j b k. here;
            only = at_each (λ d. marked v d ≡ true → (marked w d ≡ true) ⊎ (Waits v (n + 1) c d × ((j : ℕ) × (j < 1) × (c ≡ d)))) c
                (λ d e h. inr (inl (omega arith, sym e), (0, omega arith, sym e))) (λ d z h. inl (sym (there d z) ∙ h));
          }

-- the cell that is tested for it, and the test
module _ (w : List ℕ) (n next c own : ℕ) (L : Listing w n next) (O : Own w own) (N : NamesInside c (length w)) (few : length w ≤ no_cell)
    (tested : ℕ) (is : tested ≡ named_or c own) where
  pub named_inside : tested < length w
  named_inside = subst (λ (i : ℕ). i < length w) (sym is) (tested_inside w c own O few N)

  module _ (t : Bool) (read : t ≡ marked w tested) where
    pub marked_stays : t ≡ true → Added (λ _. c) 1 w n next w n next
    marked_stays e =
        mark_stays w n next c L (tested_marked w c own O few N (subst (λ (i : ℕ). marked w i ≡ true) is (sym read ∙ e)))

    module _ (e : t ≡ false) where
      free : (c < length w) × (marked w c ≡ false)
      free = tested_free w c own O few N (subst (λ (i : ℕ). marked w i ≡ false) is (sym read ∙ e))

      pub free_inside : c < length w
      free_inside = free.0

      pub free_room : n < length w
      free_room = mark_room w n next c L free.0 free.1

      pub free_adds : (x y : List ℕ) → x ≡ put_lower w c 1 → y ≡ put_upper x n next → Added (λ _. c) 1 w n next y (n + 1) c
      free_adds x y f g =
          subst (λ (z : List ℕ). Added (λ _. c) 1 w n next z (n + 1) c) (sym (g ∙ ap (λ (z : List ℕ). put_upper z n next) f))
          (mark_adds w n next c L free.0 free.1 (omega arith))

-- ---- names in a row

module _ (name : ℕ → ℕ) (w : List ℕ) (n next : ℕ) where
  pub added_none : Listing w n next → Added name 0 w n next w n next
  added_none L =
      record {
        same = refl;
        listing = L;
        grew = refl;
        keeps = λ d h. h;
        marks = λ d h. h;
        all = λ j b k. absurd (omega arith);
        only = λ d h. inl h;
      }

  -- one name more
  pub added_more : (j : ℕ) (v : List ℕ) (k top : ℕ) (x : List ℕ) (q up : ℕ) → Added name j w n next v k top → Added (λ _. name j) 1 v k top x q up → Added name (j + 1) w n next x q up
  added_more j v k top x q up D E =
      record {
        same = E.same ∙ D.same;
        listing = E.listing;
        grew = omega (arith, D.grew, subst (λ (m : ℕ). q + count m (marked v) ≡ k + count m (marked x)) D.same E.grew);
        keeps = λ c h. E.keeps c (D.keeps c h);
        marks = λ c h. E.marks c (D.marks c h);
        all = λ i b h.
            ⊎_elim (λ s. E.marks (name i) (D.all i s h))
            (λ s.
            let e : j ≡ i = omega arith in
            subst (λ (y : ℕ). marked x (name y) ≡ true) e (E.all 0 (omega arith) (subst (λ (y : ℕ). name y < length v) (sym e) (omega (arith, D.same)))))
            (lt_or_le i j);
        only = λ c h.
            ⊎_elim (λ e. ⊎_elim (λ f. inl f) (λ f. inr (E.keeps c f.0, (f.1.0, omega (arith, f.1.1), f.1.2))) (D.only c e))
            (λ e. inr (e.0, (j, omega arith, e.1.2))) (E.only c h);
      }

-- the next name's cell may be marked
pub more_needs : (names : List ℕ) (own : ℕ) (m : Marks) → Naming names 0 (length names) (length m.work.now) → Own m.work.now own → (v : Marks) {i : ℕ}
    → Adds (named_from names 0) i m v → (x : ℕ) → i < length names → x ≡ named_from names 0 i
    → Listing v.work.now v.waiting v.next.0 × Own v.work.now own × NamesInside x (length v.work.now) × (length v.work.now ≤ no_cell)
more_needs names own m N O v {i} D x l e =
    let same = D.added.same in (
      D.added.listing,
      record { inside = omega (arith, same, O.inside); is_marked = D.added.marks own O.is_marked },
      subst (λ (k : ℕ). NamesInside x k) (sym same) (subst (λ (y : ℕ). NamesInside y (length m.work.now)) (sym e) (N.named i l)),
      omega (arith, same, N.few),
    )

pub adds_more : (name : ℕ → ℕ) (m v : Marks) (i : ℕ) → Adds name i m v → (x : ℕ) → x ≡ name i → (u : Marks) → Adds (λ _. x) 1 v u → Adds name (i + 1) m u
adds_more name m v i D x e u E =
    record {
      same_work = E.same_work ∙ D.same_work;
      added = added_more name m.work.now m.waiting m.next.0 i v.work.now v.waiting v.next.0 u.work.now u.waiting u.next.0 D.added
          (subst (λ (y : ℕ). Added (λ _. y) 1 v.work.now v.waiting v.next.0 u.work.now u.waiting u.next.0) e E.added);
    }

-- the same names
pub added_ext : (f g : ℕ → ℕ) (many : ℕ) (w : List ℕ) (n next : ℕ) (v : List ℕ) (k top : ℕ) → ((j : ℕ) → j < many → f j ≡ g j) → Added f many w n next v k top → Added g many w n next v k top
added_ext f g many w n next v k top e D =
    record {
      same = D.same;
      listing = D.listing;
      grew = D.grew;
      keeps = D.keeps;
      marks = D.marks;
      all = λ j b h. subst (λ (c : ℕ). marked v c ≡ true) (e j b) (D.all j b (omega (arith, e j b)));
      only = λ c h. ⊎_elim (λ q. inl q) (λ q. inr (q.0, (q.1.0, q.1.1, sym (e q.1.0 q.1.1) ∙ q.1.2))) (D.only c h);
    }

-- ---- where a run begins

-- no cell was marked, and then one: it waits alone
module _ (w : List ℕ) (z : (d : ℕ) → marked w d ≡ false) (c : ℕ) (l : c < length w) (few : length w ≤ half_values) where
  abbrev one : List ℕ
  one = put_lower w c 1

  one_long : length one ≡ length w
  one_long = put_lower_length w c 1

  one_count : count (length w) (marked one) ≡ 1
  one_count = omega (arith, mark_count w c l one (λ d. refl) (z c), count_none (length w) (marked w) (λ d b. z d))

  pub one_marked : marked one c ≡ true
  one_marked = mark_here w c l one (λ d. refl)

  one_only : (d : ℕ) → marked one d ≡ true → d ≡ c
  one_only d h = ⊎_elim (λ e. eqb-true d c e) (λ e. clash h (mark_there w c l one (λ x. refl) d (eqb-false d c e) ∙ z d)) (decided (eqb d c))

  pub one_listing : Listing one 1 c
  one_listing =
      record {
        few = subst (λ (x : ℕ). 1 ≤ count x (marked one)) (sym one_long) (omega (arith, one_count));
        fits = omega arith;
        sound = λ d h.
            ⊎_elim (λ e. (omega (arith, one_long, e.1), subst (λ (x : ℕ). marked one x ≡ true) e.1 one_marked)) (λ e. absurd (omega (arith, e.1, e.2))) h;
      }

  -- the first words gone through from there
  pub begun : (A : Automaton) (o : ℕ) → length w ≡ A.size → FirstNamed A o c → (v : List ℕ) (n next : ℕ) → Added A.begins o one 1 c v n next → Taking A o 0 v n next
  begun A o size F v n next D =
      let first : Reached A o c = ⊎_elim (λ f. by_first f.0 f.1 f.2 F.inside) (λ f. alone f.0 f.1) F.found in
      record {
        size = D.same ∙ one_long ∙ size;
        listing = D.listing;
        many =
            omega (arith, subst (λ (m : ℕ). n + count m (marked one) ≡ 1 + count m (marked v)) one_long D.grew, one_count, ap (λ (m : ℕ). count m (marked v)) size);
        firsts = λ j b h. D.all j b (omega (arith, one_long, size));
        zeroth = λ none.
            ⊎_elim (λ f. absurd (none f.0 f.1 (subst (Names A) (sym f.2) F.inside))) (λ f. D.marks 0 (subst (λ (x : ℕ). marked one x ≡ true) f.0 one_marked)) F.found;
        only = λ d b h.
            ⊎_elim (λ e. subst (Reached A o) (sym (one_only d e)) first) (λ e. by_first e.1.0 e.1.1 e.1.2 b) (D.only d h);
        done = λ d b h. inl (⊎_elim (λ e. D.keeps d (inl (omega arith, sym (one_only d e)))) (λ e. e.0) (D.only d h));
      }

-- ---- the waiting cells are taken up

module _ (A : Automaton) (o t : ℕ) (w : List ℕ) (n next : ℕ) (T : Taking A o t w n next) where
  -- the cell that is next
  module _ (some : 0 < n) where
    next_sound : (next < length w) × (marked w next ≡ true)
    next_sound = T.listing.sound next (inl (some, refl))

    pub next_inside : next < A.size
    next_inside = omega (arith, next_sound.0, T.size)

    pub next_marked : marked w next ≡ true
    next_marked = next_sound.1

    -- it is taken off: k wait, and `top` is next
    module _ (k top : ℕ) (less : k + 1 ≡ n) (is : top ≡ upper_half w k) where
      behind : (c : ℕ) → Waits w n next c → (next ≡ c) ⊎ Waits w k top c
      behind c h =
          ⊎_elim (λ e. inl e.1)
          (λ e. inr (⊎_elim (λ b. inr (e.0, e.1, b, e.3)) (λ b. let q : k ≡ e.0 = omega (arith, e.2, b) in inl (omega (arith, e.1, q), is ∙ ap (λ (x : ℕ). upper_half w x) q ∙ e.3)) (lt_or_le e.0 k)))
          h

      waited : (c : ℕ) → Waits w k top c → Waits w n next c
      waited c h = ⊎_elim (λ e. inr (k, e.0, omega arith, sym is ∙ e.1)) (λ e. inr (e.0, e.1, omega (arith, e.2), e.3)) h

      pub rest_listing : top < half_values → Listing w k top
      rest_listing fits =
          record { few = omega (arith, T.listing.few); fits = fits; sound = λ c h. T.listing.sound c (waited c h) }

      -- and the cells that its next words name are marked
      pub taking_more : (v : List ℕ) (q up : ℕ) → Added (A.next next) o w k top v q up → Taking A o (t + 1) v q up
      taking_more v q up D =
          let r : Reached A o next = T.only next next_inside next_marked in
          let inside : (c : ℕ) → c < A.size → c < length w = λ c b. omega (arith, T.size) in
          record {
            size = D.same ∙ T.size;
            listing = D.listing;
            many = omega (arith, subst (λ (m : ℕ). q + count m (marked w) ≡ k + count m (marked v)) T.size D.grew, T.many);
            firsts = λ j b h. D.marks (A.begins j) (T.firsts j b h);
            zeroth = λ h. D.marks 0 (T.zeroth h);
            only = λ c b h. ⊎_elim (T.only c b) (λ e. by_next next e.1.0 r e.1.1 e.1.2 b) (D.only c h);
            done = λ c b h.
                ⊎_elim
                (λ e.
                ⊎_elim
                (λ f.
                ⊎_elim (λ g. inr (λ j l m. subst (λ (x : ℕ). marked v (A.next x j) ≡ true) g (D.all j l (inside (A.next next j) (subst (λ (x : ℕ). Names A (A.next x j)) (sym g) m)))))
                (λ g. inl (D.keeps c g)) (behind c f))
                (λ f. inr (λ j l m. D.marks (A.next c j) (f j l m)))
                (T.done c b e))
                (λ e. inl e.0)
                (D.only c h);
          }

  -- none waits any more
  pub taking_end : n ≤ 0 → Marked A o w t
  taking_end none =
      let closed : Closed A o (marked w) =
      record {
        firsts = T.firsts;
        zeroth = T.zeroth;
        nexts = λ c j b h q e.
            ⊎_elim (λ f. ⊎_elim (λ g. absurd (omega (arith, g.0))) (λ g. absurd (omega (arith, g.2))) f) (λ f. f j q e) (T.done c b h);
        only = T.only;
      } in
      let just = marks_reached A o (marked w) closed in
      record {
        size = T.size;
        just = just;
        many = omega (arith, T.many, count_ext A.size (marked w) (reached A o) just, kept_length A o);
      }

-- so the work says, once it comes back
pub taken_all : (A : Automaton) (o t : ℕ) (m : Marks) → TakingOf A o t m → m.waiting ≤ 0 → (v : List ℕ) → v ≡ m.work.now → Marked A o v t
taken_all A o t m T none v e = subst (λ (w : List ℕ). Marked A o w t) (sym e) (taking_end A o t m.work.now m.waiting m.next.0 T none)
