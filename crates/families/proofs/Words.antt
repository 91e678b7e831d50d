-- The sets of a word, from the lowest up, and a list of them in a buffer.
-- Assumes nothing.
use mathlib.Core.Path.{◌≡◌, refl, sym, ap, ap₂, ◌∙◌}
use mathlib.Core.Logic.{⊎_elim}
use mathlib.Core.Bool.{Bool, false}
use mathlib.Core.List.{List, [], ◌∷◌, ◌++◌, append-nil, append_assoc}
use Prim.Native.Nat.{ℕ, zero, suc, ◌+◌, ◌-◌, ◌*◌, ◌^◌, ◌≤◌, ◌<◌, ◌/◌, ◌%◌}
use native.Mathlib.Nat.{add-suc, add-zero, pow-succ'}
use native.Mathlib.Numerals.{add-one}
use native.Mathlib.Omega.{arith}
use lib.Dec.{eqb}
use lib.Count.{ones, ones_step, count_trailing_zeros}
use Rattle.std.specs.Prelude.{map, sum, sum_by}
use Rattle.std.proofs.lemmas.List.Sums.{sum-map, sum_by-cons}
use lib.ListN.{length, get_or, take, drop, set, length-append, length-set, length-drop, take-append-drop}
use lib.Seq.{take-suc-set, drop-set-lt, drop-drop, take_at, drop-append-add}
use borrow.Author.Tests.{eqb-true, eqb-false}
use borrow.Rule.Slice.PartMut.{put_mid, mid_of, post_of}
use Rattle.std.proofs.lemmas.List.{drop_all, take_all}
use Rattle.sets.specs.Mask.{member}
use Rattle.sets.specs.Bounded.{count, select}
use Rattle.sets.proofs.Logic.{decided}
use Rattle.sets.proofs.Mask.{member_zero, member_first, member_half, lowest, member_sub_same, member_sub_other, sub_less, single_le}
use Rattle.sets.proofs.Bounded.{select_lowest, select_none, select_length, select_hit_suc, select_skip_suc, count_zero, count_hit_suc, count_skip_suc, count_none, select_ext, count_ext}
use Rattle.families.specs.Bits.{lane_sets, has, sets, raised}
use Rattle.families.proofs.Lanes.{shift_one, has_at}

-- ---- a list raised

-- one number more
pub raised_more : (base : ℕ) (l : List ℕ) (t : ℕ) → raised base (l ++ (t ∷ [])) ≡ raised base l ++ ((base + t) ∷ [])
unfolding raised
raised_more base [] t = refl
raised_more base (u ∷ l) t = ap (λ (k : List ℕ). (base + u) ∷ k) (raised_more base l t)

-- as long
pub raised_length : (base : ℕ) (l : List ℕ) → length (raised base l) ≡ length l
unfolding raised
raised_length base [] = refl
raised_length base (u ∷ l) = ap suc (raised_length base l)

-- what passes below n + m: below n, and then from n on
pub select_raised : (n m : ℕ) (p : ℕ → Bool) → select (n + m) p ≡ select n p ++ raised n (select m (λ t. p (n + t)))
unfolding raised select
select_raised n zero p = ap (λ (k : ℕ). select k p) (add-zero n) ∙ sym (append-nil (select n p))
select_raised n (suc m) p =
    ap (λ (k : ℕ). select k p) (add-suc n m)
    ∙ ⊎_elim
    (λ e. select_hit_suc (n + m) p e ∙ ap (λ (k : List ℕ). k ++ ((n + m) ∷ [])) (select_raised n m p)
    ∙ append_assoc (select n p) (raised n (select m (λ t. p (n + t)))) ((n + m) ∷ [])
    ∙ ap (λ (k : List ℕ). select n p ++ k) (sym (raised_more n (select m (λ t. p (n + t))) m) ∙ ap (raised n) (sym (select_hit_suc m (λ t. p (n + t)) e))))
    (λ e. select_skip_suc (n + m) p e ∙ select_raised n m p
    ∙ ap (λ (k : List ℕ). select n p ++ raised n k) (sym (select_skip_suc m (λ t. p (n + t)) e)))
    (decided (p (n + m)))

-- and how many
pub count_raised : (n m : ℕ) (p : ℕ → Bool) → count (n + m) p ≡ count n p + count m (λ t. p (n + t))
count_raised n m p =
    sym (select_length (n + m) p) ∙ ap length (select_raised n m p) ∙ length-append (select n p) (raised n (select m (λ t. p (n + t))))
    ∙ ap₂ ◌+◌ (select_length n p) (raised_length n (select m (λ t. p (n + t))) ∙ select_length m (λ t. p (n + t)))

-- ---- how many members a word has

count_first : (x : ℕ) → x % 2 ≡ count 1 (member x)
count_first x =
    ⊎_elim
    (λ e. eqb-true (x % 2) 1 e ∙ sym (count_hit_suc 0 (member x) (member_first x ∙ e) ∙ ap suc (count_zero (member x))))
    (λ e. let d : x % 2 ≡ 0 = omega (arith, eqb-false (x % 2) 1 e) in d ∙ sym (count_skip_suc 0 (member x) (member_first x ∙ e) ∙ count_zero (member x)))
    (decided (eqb (x % 2) 1))

-- as many as binary digits are set
pub ones_count : (k x : ℕ) → x < 2 ^ k → ones x ≡ count k (member x)
unfolding ones count
ones_count zero x h =
    let e : x ≡ 0 = omega arith in
    ap ones e
ones_count (suc k) x h =
    let next : 1 + k ≡ suc k = omega arith in
    ones_step x
    ∙ ap₂ ◌+◌ (count_first x)
    (ones_count k (x / 2) (omega (arith, pow-succ' 2 k))
    ∙ count_ext k (member (x / 2)) (λ t. member x (1 + t))
    (λ t l. let d : suc t ≡ 1 + t = omega arith in sym (member_half x t) ∙ ap (member x) d))
    ∙ sym (count_raised 1 k (member x)) ∙ ap (λ (m : ℕ). count m (member x)) next

-- ---- writing the members of a word in front

-- the word's members with `base` added
abbrev pub written : ℕ → ℕ → List ℕ
written base word = raised base (select lane_sets (member word))

-- how many
abbrev pub size : ℕ → ℕ
size word = count lane_sets (member word)

-- `rest` is what is left of the word, to be written from `at` on
pub record Writing (word base : ℕ) (out₀ : List ℕ) (rest at : ℕ) (out : List ℕ) : Type 0 where
  pub small : rest < 2 ^ lane_sets
  pub long : length out ≡ length out₀
  pub places : at + size rest ≡ size word
  pub front : take at out ++ written base rest ≡ written base word
  pub back : drop at out ≡ drop at out₀

-- the first turn
pub writing_none : (word base : ℕ) (out : List ℕ) → word < 2 ^ lane_sets → Writing word base out word 0 out
writing_none word base out h = record { small = h; long = refl; places = omega arith; front = refl; back = refl }

module _ (rest : ℕ) (h : rest < 2 ^ lane_sets) (z : rest ≡ 0 → ⊥) where
  -- the lowest member, and the others behind it
  taken : select lane_sets (member rest) ≡ count_trailing_zeros lane_sets rest ∷ select lane_sets (member (rest - 2 ^ count_trailing_zeros lane_sets rest))
  taken =
      let w = lowest lane_sets rest h z in
      select_lowest (count_trailing_zeros lane_sets rest) lane_sets (member rest) (member (rest - 2 ^ count_trailing_zeros lane_sets rest)) w.0 w.1
      (member_sub_same rest (count_trailing_zeros lane_sets rest) w.1) w.2 (λ i d. member_sub_other rest (count_trailing_zeros lane_sets rest) w.1 i d)

  pub taken_size : size rest ≡ suc (size (rest - 2 ^ count_trailing_zeros lane_sets rest))
  taken_size = sym (select_length lane_sets (member rest)) ∙ ap length taken ∙ ap suc (select_length lane_sets (member (rest - 2 ^ count_trailing_zeros lane_sets rest)))

  taken_written : (base : ℕ) → written base rest ≡ (base + count_trailing_zeros lane_sets rest) ∷ written base (rest - 2 ^ count_trailing_zeros lane_sets rest)
  unfolding raised
  taken_written base = ap (raised base) taken

  -- the lowest member is below 64
  pub taken_lt : count_trailing_zeros lane_sets rest < lane_sets
  taken_lt = (lowest lane_sets rest h z).0

  -- and no more than all
  pub taken_le : 2 ^ count_trailing_zeros lane_sets rest ≤ rest
  taken_le = single_le rest (count_trailing_zeros lane_sets rest) (lowest lane_sets rest h z).1

  -- less is left
  pub taken_less : rest - 2 ^ count_trailing_zeros lane_sets rest < rest
  taken_less = sub_less rest (count_trailing_zeros lane_sets rest) (lowest lane_sets rest h z).1

-- the places from at + 1 on are as they were
behind : (out out₀ : List ℕ) (at v : ℕ) → drop at out ≡ drop at out₀ → drop (at + 1) (set out at v) ≡ drop (at + 1) out₀
behind out out₀ at v e =
    drop-set-lt (at + 1) out at v (omega arith) ∙ sym (drop-drop 1 at out) ∙ ap (drop 1) e ∙ drop-drop 1 at out₀

module _ (word base : ℕ) (out₀ : List ℕ) (rest at : ℕ) (out : List ℕ) (w : Writing word base out₀ rest at out) where
  -- one turn: there is room
  pub writing_room : (rest ≡ 0 → ⊥) → size word ≤ length out₀ → at < length out
  writing_room z l = omega (arith, taken_size rest w.small z, w.places, w.long)

  -- and the lowest member is written
  pub writing_more : (rest ≡ 0 → ⊥) → size word ≤ length out₀ → (single : ℕ) → single ≡ 2 ^ count_trailing_zeros lane_sets rest → Writing word base out₀ (rest - single) (at + 1) (set out at (base + count_trailing_zeros lane_sets rest))
  writing_more z l single is =
      rw is
      (let v : ℕ = base + count_trailing_zeros lane_sets rest in
      let left : ℕ = rest - 2 ^ count_trailing_zeros lane_sets rest in
      record {
        small = omega (arith, taken_less rest w.small z, w.small);
        long = length-set out at v ∙ w.long;
        places = omega (arith, taken_size rest w.small z, w.places);
        front =
            ap (λ (x : ℕ). take x (set out at v) ++ written base left) (add-one at)
            ∙ ap (λ (x : List ℕ). x ++ written base left) (take-suc-set out at v (writing_room z l))
            ∙ append_assoc (take at out) (v ∷ []) (written base left)
            ∙ ap (λ (x : List ℕ). take at out ++ x) (sym (taken_written rest w.small z base))
            ∙ w.front;
        back = behind out out₀ at v w.back;
      })

  -- nothing is left
  pub writing_end : rest ≡ 0 → (at ≡ size word) × (out ≡ written base word ++ drop at out₀)
  unfolding raised
  writing_end e =
      let none : (i : ℕ) → i < lane_sets → member rest i ≡ false = λ i l. ap (λ (x : ℕ). member x i) e ∙ member_zero i in (
        omega (arith, count_none lane_sets (member rest) none, w.places),
        sym (take-append-drop at out)
            ∙ ap₂ ◌++◌ (sym (append-nil (take at out)) ∙ ap (λ (x : List ℕ). take at out ++ raised base x) (sym (select_none lane_sets (member rest) none)) ∙ w.front) w.back,
      )

-- what the loop's steps go by
pub ruleset unpacking = (taken_lt, taken_le, taken_less, shift_one, writing_none, writing_room)

-- ---- the words of a family, one after the other

-- how many sets there are
pub sets_count : (bits : List ℕ) → length (sets bits) ≡ count (length bits * lane_sets) (has bits)
unfolding sets
sets_count bits = select_length (length bits * lane_sets) (has bits)

-- one lane more
module _ (bits : List ℕ) (lane k : ℕ) (e : k ≡ count (lane * lane_sets) (has bits)) where
  next : (lane + 1) * lane_sets ≡ lane * lane_sets + lane_sets
  next = omega arith

  here : (t : ℕ) → t < lane_sets → member (get_or bits lane 0) t ≡ has bits (lane * lane_sets + t)
  here t l = sym (has_at bits lane t l)

  pub lane_count : k + size (get_or bits lane 0) ≡ count ((lane + 1) * lane_sets) (has bits)
  lane_count =
      ap₂ ◌+◌ e (count_ext lane_sets (member (get_or bits lane 0)) (λ t. has bits (lane * lane_sets + t)) here) ∙ sym (count_raised (lane * lane_sets) lane_sets (has bits))
      ∙ ap (λ (x : ℕ). count x (has bits)) (sym next)

  -- no more than all sets
  pub lane_room : lane < length bits → k + size (get_or bits lane 0) ≤ length (sets bits)
  lane_room l =
      let d : length bits * lane_sets ≡ (lane + 1) * lane_sets + (length bits - (lane + 1)) * lane_sets = omega arith in
      omega (
        arith,
        lane_count,
        sets_count bits,
        ap (λ (x : ℕ). count x (has bits)) d,
        count_raised ((lane + 1) * lane_sets) ((length bits - (lane + 1)) * lane_sets) (has bits),
      )

  -- a lane's part written behind the first k places
  put_behind : (out part new : List ℕ) (r : ℕ) → k ≤ length out → new ≡ part ++ drop r (mid_of k (length out - k) out) → put_mid k (length out - k) out new ≡ (take k out ++ part) ++ drop (k + r) out
  put_behind out part new r h f =
      let whole : mid_of k (length out - k) out ≡ drop k out = take_all (length out - k) (drop k out) (omega (arith, length-drop k out)) in
      let none : post_of k (length out - k) out ≡ [] = drop_all (length out - k) (drop k out) (omega (arith, length-drop k out)) in
      ap₂ (λ (x y : List ℕ). take k out ++ (x ++ y)) (f ∙ ap (λ (x : List ℕ). part ++ drop r x) whole ∙ ap (λ (x : List ℕ). part ++ x) (drop-drop r k out)) none
      ∙ ap (λ (x : List ℕ). take k out ++ x) (append-nil (part ++ drop (k + r) out))
      ∙ sym (append_assoc (take k out) part (drop (k + r) out))

  pub lane_written : (out₀ out new : List ℕ) (m : ℕ) → k ≤ length out → out ≡ select (lane * lane_sets) (has bits) ++ drop k out₀ → m ≡ size (get_or bits lane 0) →
      new ≡ written (lane * lane_sets) (get_or bits lane 0) ++ drop m (mid_of k (length out - k) out) → put_mid k (length out - k) out new ≡ select ((lane + 1) * lane_sets) (has bits) ++ drop (k + m) out₀
  lane_written out₀ out new m here_k f q g =
      let d : k + m ≡ k + size (get_or bits lane 0) = ap (λ (x : ℕ). k + x) q in
      let n : length (select (lane * lane_sets) (has bits)) ≡ k = select_length (lane * lane_sets) (has bits) ∙ sym e in
      put_behind out (written (lane * lane_sets) (get_or bits lane 0)) new m here_k g
      ∙ ap₂ ◌++◌
      (ap₂ ◌++◌ (ap (take k) f ∙ take_at (select (lane * lane_sets) (has bits)) (drop k out₀) k n) (ap (raised (lane * lane_sets)) (select_ext lane_sets (member (get_or bits lane 0)) (λ t. has bits (lane * lane_sets + t)) here))
      ∙ sym (select_raised (lane * lane_sets) lane_sets (has bits)) ∙ ap (λ (x : ℕ). select x (has bits)) (sym next))
      (ap₂ drop (d ∙ ap (λ (x : ℕ). x + size (get_or bits lane 0)) (sym n)) f ∙ drop-append-add (select (lane * lane_sets) (has bits)) (drop k out₀) (size (get_or bits lane 0)) ∙ drop-drop (size (get_or bits lane 0)) k out₀
      ∙ ap (λ (x : ℕ). drop x out₀) (sym d))

-- how many sets there are, word by word
first_word : (word : ℕ) (bits : List ℕ) (t : ℕ) → t < lane_sets → member word t ≡ has (word ∷ bits) t
first_word word bits t l =
    let e : 0 * lane_sets + t ≡ t = omega arith in
    sym (has_at (word ∷ bits) 0 t l) ∙ ap (has (word ∷ bits)) e

other_words : (word : ℕ) (bits : List ℕ) (t : ℕ) → has bits t ≡ has (word ∷ bits) (lane_sets + t)
other_words word bits t =
    let lane : suc (t / lane_sets) ≡ (lane_sets + t) / lane_sets = omega arith in
    let place : t % lane_sets ≡ (lane_sets + t) % lane_sets = omega arith in
    ap₂ (λ (x y : ℕ). member (get_or (word ∷ bits) x 0) y) lane place

ones_below : (bits : List ℕ) → ((i : ℕ) → get_or bits i 0 < 2 ^ lane_sets) → sum_by ones bits ≡ count (length bits * lane_sets) (has bits)
unfolding count
ones_below [] h = refl
ones_below (word ∷ bits) h =
    let next : length (word ∷ bits) * lane_sets ≡ lane_sets + length bits * lane_sets = omega arith in
    sum_by-cons ones word bits
    ∙ ap₂ ◌+◌ (ones_count lane_sets word (h 0) ∙ count_ext lane_sets (member word) (has (word ∷ bits)) (first_word word bits))
    (ones_below bits (λ i. h (suc i)) ∙ count_ext (length bits * lane_sets) (has bits) (λ t. has (word ∷ bits) (lane_sets + t)) (λ t l. other_words word bits t))
    ∙ sym (ap (λ (x : ℕ). count x (has (word ∷ bits))) next ∙ count_raised lane_sets (length bits * lane_sets) (has (word ∷ bits)))

pub ones_sets : (bits : List ℕ) → ((i : ℕ) → get_or bits i 0 < 2 ^ lane_sets) → sum (map ones bits) ≡ length (sets bits)
ones_sets bits h = sum-map ones bits ∙ ones_below bits h ∙ sym (sets_count bits)

-- all lanes are done
pub sets_written : (bits out₀ : List ℕ) (lane k : ℕ) (out : List ℕ) → lane ≡ length bits → k ≡ count (lane * lane_sets) (has bits) → out ≡ select (lane * lane_sets) (has bits) ++ drop k out₀ → (k ≡ length (sets bits)) × (out ≡ sets bits ++ drop k out₀)
unfolding sets
sets_written bits out₀ lane k out all e f =
    (e ∙ ap (λ (x : ℕ). count (x * lane_sets) (has bits)) all ∙ sym (sets_count bits), f ∙ ap (λ (x : ℕ). select (x * lane_sets) (has bits) ++ drop k out₀) all)
