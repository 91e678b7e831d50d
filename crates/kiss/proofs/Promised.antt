-- What is promised of KISS2 texts holds, of every card and of every text of bytes.
-- Assumes nothing.
use mathlib.Core.Path.{◌≡◌, refl, sym, ap, subst, ◌∙◌}
use mathlib.Core.List.{List, [], ◌∷◌, ◌++◌}
use Prim.Native.Nat.{ℕ}
use native.Mathlib.Omega.{arith}
use lib.ListN.{take, set}
use lib.Seq.{take_at}
use Rattle.sets.specs.Bounded.{nothing}
use Rattle.cards.specs.Card.{checked}
use Rattle.cards.specs.Run.{ran}
use Rattle.form.specs.Form.{ending, read, departs}
use Rattle.form.proofs.Spelled.{Small}
use Rattle.kiss.specs.Text.{kiss_text}
use Rattle.kiss.specs.Profile.{reading}
use Rattle.kiss.specs.Idle.{idle}
use Rattle.kiss.specs.Legible.{legible_card, emptied}
use Rattle.kiss.specs.Promise.{ReadsBack, Says, Departing, OfText}
use Rattle.kiss.proofs.Bytes.{text_small}
use Rattle.kiss.proofs.Alike.{legible_checked, ran_same, legible_emptied, legible_idle}
use Rattle.kiss.proofs.Final.{read_written, written_read, departure, place_within, no_further, change_later, change_refused}
use Rattle.std.specs.Prelude.{Ok}

same_read : (x y : List ℕ) → read x ≡ read y → x ≡ y
same_read x y e = cc

read_legible : (w : List ℕ) → checked w ≡ Ok tt → reading (kiss_text w) ≡ read (legible_card w)
unfolding legible_card
read_legible w e = read_written w e

pub reads_back : (w : List ℕ) → checked w ≡ Ok tt → idle w ≡ nothing → ReadsBack w
reads_back w e i =
    let is = legible_emptied w e i in
    let back : reading (kiss_text w) ≡ read (emptied w) = read_legible w e ∙ ap read is in
    record {
      reads_back = back;
      right = subst (λ (x : List ℕ). checked x ≡ Ok tt) is (legible_checked w e);
      no_idle = subst (λ (x : List ℕ). idle x ≡ nothing) is (legible_idle w e i);
      same_runs = λ h. subst (λ (x : List ℕ). ran x h ≡ ran w h) is (ran_same w e h);
      same_text = sym (written_read (kiss_text w) (emptied w) (text_small w e) back).1;
    }

says : (t x : List ℕ) → Small t → reading t ≡ read x → Says t x
says t x s e =
    let h = written_read t x s e in
    let again : reading (kiss_text x) ≡ read x = ap reading (sym h.1) ∙ e in
    record {
      right = h.0;
      text = h.1;
      again = again;
      empty = λ i. same_read x (emptied x) (sym again ∙ read_legible x h.0 ∙ ap read (legible_emptied x h.0 i));
    }

-- a front of a text with its end, that goes on, is a front of the text
front_of : (w f b : List ℕ) (x : ℕ) → w ++ (ending ∷ []) ≡ f ++ (x ∷ b) → (rest : List ℕ) × (w ≡ f ++ rest)
front_of w [] b x e = (w, refl)
front_of [] (y ∷ []) b x e = let z : ◌≡◌ {A = List ℕ} [] (x ∷ b) = cc in let o : ◌≡◌ {A = ℕ} 0 1 = cc in absurd (omega arith)
front_of [] (y ∷ v ∷ f) b x e = let z : ◌≡◌ {A = List ℕ} [] (v ∷ (f ++ (x ∷ b))) = cc in let o : ◌≡◌ {A = ℕ} 0 1 = cc in absurd (omega arith)
front_of (v ∷ w) (y ∷ f) b x e =
    let g : w ++ (ending ∷ []) ≡ f ++ (x ∷ b) = cc in
    let h : v ≡ y = cc in
    let r = front_of w f b x g in
    let q = r.1 in
    (r.0, cc)

departing : (t : List ℕ) (q : ℕ) → reading t ≡ departs q → Departing t q
departing t q e =
    let d = departure t q e in
    let before : take q t ≡ d.front = ap (take q) d.given ∙ take_at d.front d.rest q (sym d.place) in
    let r = front_of (kiss_text d.card) d.front d.back d.next d.written in
    record {
      within = place_within t q e;
      begins = (d.card, r.0, d.fine, r.1 ∙ ap (λ (l : List ℕ). l ++ r.0) (sym before));
      no_further = λ w h a. no_further t w q h e a;
    }

pub of_text : (t : List ℕ) → Small t → OfText t
of_text t s =
    record {
      accepted = (λ h. let f = written_read t h.0 s h.1 in (h.0, f.0, f.1), λ h. (legible_card h.0, ap reading h.2 ∙ read_legible h.0 h.1));
      says = λ x e. says t x s e;
      departing = departing t;
      changed = λ i b q e l. change_later t i b q e l;
      changed_text = λ w h f i b q e. change_refused w i b q h (subst (λ (x : List ℕ). reading (set x i b) ≡ departs q) f e);
    }
