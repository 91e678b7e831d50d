-- Laws of reading into a buffer, part behind part.
-- Assumes nothing.
use mathlib.Core.Path.{◌≡◌, sym, ap, ◌∙◌}
use mathlib.Core.List.{List, ◌++◌, append_assoc}
use Prim.Native.Nat.{ℕ, ◌+◌, ◌≤◌}
use borrow.Rule.Slice.PartMut.{put_mid, post_of}
use lib.ListN.{length, take}
use lib.Seq.{length-take-le}
use Rattle.std.proofs.Common.{Option, None, Some}
use Rattle.std.proofs.Math.Seq.{take-append-add}
use Rattle.std.proofs.lemmas.List.{take-append-le}
use Rattle.std.specs.Io.KnownBytes.{Consumes}

-- a reader gave x, then y
consumes_then : (a b c : Option (List ℕ)) (x y : List ℕ) → Consumes a b x → Consumes b c y → Consumes a c (x ++ y)
consumes_then None b c x y h g = tt
consumes_then (Some s) None c x y h g = absurd h
consumes_then (Some s) (Some t) None x y h g = g
consumes_then (Some s) (Some t) (Some u) x y h g = h ∙ ap (λ (z : List ℕ). x ++ z) g ∙ sym (append_assoc x y u)

-- n bytes are read, and m of the part e that was read behind them
pub read_more : (a b c : Option (List ℕ)) (n m k : ℕ) (d e : List ℕ) → n ≤ length d → m ≤ length e → Consumes a b (take n d) → Consumes b c (take m e)
    → Consumes a c (take (n + m) (put_mid n k d e))
read_more a b c n m k d e l r h g =
    let long : length (take n d) ≡ n = length-take-le n d l in
    let front : take (n + m) (put_mid n k d e) ≡ take n d ++ take m (e ++ post_of n k d) =
    rw long at (take-append-add (take n d) (e ++ post_of n k d) m) in
    rw (front, take-append-le m e (post_of n k d) r) (consumes_then a b c (take n d) (take m e) h g)
