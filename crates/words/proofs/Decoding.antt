-- Laws of the bytes read.
-- Assumes nothing.
use mathlib.Core.Path.{◌≡◌, refl}
use mathlib.Core.List.{List}
use Prim.Native.Nat.{ℕ, ◌+◌, ◌*◌, ◌<◌}
use lib.ListN.{length, take, set}
use Rattle.sets.specs.Bounded.{gather}
use Rattle.sets.proofs.Fills.{values_more}
use Rattle.words.specs.Bytes.{word, words_of}

pub words_none : (b : List ℕ) → take 0 b ≡ words_of 0 b
unfolding words_of gather
words_none b = refl

pub words_more : (i : ℕ) (b d : List ℕ) (x : ℕ) → i < length d → take i d ≡ words_of i b → x ≡ word b (4 * i) → take (i + 1) (set d i x) ≡ words_of (i + 1) b
unfolding words_of
words_more i b d x l h e = values_more (λ j. word b (4 * j)) i d x l h e
