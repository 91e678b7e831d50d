-- Laws of the new numbers: a marked cell gets the next number and stands in the list of kept cells; when all cells were looked at, the
-- numbers are those of the trimmed card.
-- Assumes nothing.
use mathlib.Core.Path.{◌≡◌, refl, sym, ap, ap₂, ◌∙◌, subst}
use mathlib.Core.Logic.{⊎_elim}
use mathlib.Core.Bool.{Bool, true, false}
use mathlib.Core.List.{List, [], ◌∷◌}
use Prim.Native.Nat.{ℕ, ◌+◌, ◌≤◌, ◌<◌}
use native.Mathlib.Nat.{le_antisymm}
use native.Mathlib.Omega.{arith}
use lib.ListN.{length, get_or, get_or-append}
use lib.Seq.{get_or_at}
use Rattle.sets.specs.Bounded.{count, select}
use Rattle.sets.proofs.Logic.{clash, lt_or_le}
use Rattle.sets.proofs.Bounded.{count_zero, count_hit, count_skip, count_le, count_ext, select_hit, select_skip, select_length, select_ext}
use Rattle.games.specs.Automaton.{Automaton}
use Rattle.games.specs.Format.{max_cells}
use Rattle.trimming.specs.Trim.{reached, kept}
use Rattle.trimming.proofs.Numbers.{new_count, kept_length}
use Rattle.trimmer.specs.Halves.{half_values, lower_half, upper_half, put_lower, put_upper, marked}
use Rattle.trimmer.specs.Marking.{Marked}
use Rattle.trimmer.specs.Numbering.{Numbered, Renumbering}
use Rattle.trimmer.proofs.Halves.{at_each, put_lower_length, put_upper_length, lower_here, lower_there, lower_stays, upper_here, upper_there, upper_stays}

-- of the cells that the words w₀ mark, those below c are numbered, k of them
pub record Counting (w₀ : List ℕ) (c k : ℕ) (w : List ℕ) : Type 0 where
  pub same : length w ≡ length w₀
  pub many : k ≡ count c (marked w₀)
  pub ahead : (d : ℕ) → c ≤ d → lower_half w d ≡ lower_half w₀ d
  pub new : (d : ℕ) → d < c → marked w₀ d ≡ true → lower_half w d ≡ count d (marked w₀)
  pub old : (i : ℕ) → i < k → upper_half w i ≡ get_or (select c (marked w₀)) i 0

pub counting_none : (w : List ℕ) → Counting w 0 0 w
counting_none w =
    record {
      same = refl;
      many = sym (count_zero (marked w));
      ahead = λ d l. refl;
      new = λ d l. absurd (omega arith);
      old = λ i l. absurd (omega arith);
    }

module _ (w₀ : List ℕ) (c k : ℕ) (w : List ℕ) (N : Counting w₀ c k w) where
  abbrev p : ℕ → Bool
  p = marked w₀

  -- no more are numbered than were looked at
  pub counting_few : k ≤ c
  counting_few = omega (arith, N.many, count_le c p)

  pub counting_skip : p c ≡ false → Counting w₀ (c + 1) k w
  counting_skip f =
      record {
        same = N.same;
        many = N.many ∙ sym (count_skip c p f);
        ahead = λ d l. N.ahead d (omega arith);
        new = λ d l h. N.new d (⊎_elim (λ b. b) (λ b. let e : d ≡ c = omega arith in clash (subst (λ (x : ℕ). p x ≡ true) e h) f) (lt_or_le d c)) h;
        old = λ i l. N.old i l ∙ ap (λ (s : List ℕ). get_or s i 0) (sym (select_skip c p f));
      }

  module _ (t : p c ≡ true) (l : c < length w) (few : length w ≤ half_values) where
    abbrev u : List ℕ
    u = put_lower w c k

    abbrev v : List ℕ
    v = put_upper u k c

    small : k < half_values
    small = omega (arith, counting_few)

    room : k < length u
    room = omega (arith, put_lower_length w c k, counting_few)

    long : length (select c p) ≡ k
    long = select_length c p ∙ sym N.many

    numbers : (d : ℕ) → lower_half v d ≡ lower_half u d
    numbers = lower_stays u k c room

    entries : (i : ℕ) → i < k → upper_half v i ≡ upper_half w i
    entries i b = upper_there u k c i (λ z. omega arith) ∙ upper_stays w c k l small i

    pub counting_more : Counting w₀ (c + 1) (k + 1) v
    counting_more =
        record {
          same = put_upper_length u k c ∙ put_lower_length w c k ∙ N.same;
          many = ap (λ (x : ℕ). x + 1) N.many ∙ sym (count_hit c p t);
          ahead = λ d b. numbers d ∙ lower_there w c k d (λ z. omega arith) ∙ N.ahead d (omega arith);
          new =
              at_each (λ d. d < c + 1 → p d ≡ true → lower_half v d ≡ count d p) c
              (λ d e b h. ap (lower_half v) e ∙ numbers c ∙ lower_here w c k l small ∙ N.many ∙ ap (λ (x : ℕ). count x p) (sym e))
              (λ d z b h. numbers d ∙ lower_there w c k d z ∙ N.new d (⊎_elim (λ q. q) (λ q. let e : d ≡ c = omega arith in absurd (z e)) (lt_or_le d c)) h);
          old =
              at_each (λ i. i < k + 1 → upper_half v i ≡ get_or (select (c + 1) p) i 0) k
              (λ i e b.
              ap (upper_half v) e ∙ upper_here u k c room ∙ sym (get_or_at (select c p) c [] 0 k long)
              ∙ ap₂ (λ (s : List ℕ) (x : ℕ). get_or s x 0) (sym (select_hit c p t)) (sym e))
              (λ i z b.
              let q : i < k = ⊎_elim (λ q. q) (λ q. let e : i ≡ k = omega arith in absurd (z e)) (lt_or_le i k) in
              entries i q ∙ N.old i q ∙ sym (get_or-append (select c p) (c ∷ []) 0 i (omega (arith, long)))
              ∙ ap (λ (s : List ℕ). get_or s i 0) (sym (select_hit c p t)));
        }

  pub counting_end : c ≤ length w₀ → length w₀ ≤ c → Numbered (length w₀) p w
  counting_end b h =
      let e : c ≡ length w₀ = le_antisymm b h in
      record {
        size = N.same;
        new = λ d l t. N.new d (omega arith) t;
        old = λ i l. N.old i (omega (arith, N.many, ap (λ (x : ℕ). count x p) e)) ∙ ap (λ (x : ℕ). get_or (select x p) i 0) e;
      }

-- the marked cells are the reached ones: these are the trimmed card's numbers
pub numbered_new : (A : Automaton) (o n : ℕ) (w₀ w : List ℕ) → A.size ≤ max_cells → Marked A o w₀ n → Numbered (length w₀) (marked w₀) w → Renumbering A o w
unfolding kept
numbered_new A o n w₀ w few M N =
    let same : (c : ℕ) → c < A.size → marked w₀ c ≡ reached A o c = M.just in
    record {
      size = N.size ∙ M.size;
      new = λ c l r.
          N.new c (omega (arith, M.size)) (same c l ∙ r) ∙ count_ext c (marked w₀) (reached A o) (λ d b. same d (omega arith)) ∙ sym (new_count A o few c l);
      old = λ i l.
          N.old i (omega (arith, kept_length A o, count_ext A.size (marked w₀) (reached A o) same, ap (λ (x : ℕ). count x (marked w₀)) M.size))
          ∙ ap (λ (x : ℕ). get_or (select x (marked w₀)) i 0) M.size ∙ ap (λ (s : List ℕ). get_or s i 0) (select_ext A.size (marked w₀) (reached A o) same);
    }
