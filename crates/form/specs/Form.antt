-- Formats of text, byte by byte: what reading a text by a format gives, and the texts that a format has.
-- Assumes nothing.
use Prim.{Unit}
use Rattle.std.specs.Prelude.{◌≡◌, Bool, true, false, cond, ◌&&◌, ◌||◌, List, [], ◌∷◌, ℕ, zero, suc, ◌+◌, ◌*◌, ◌-◌, ◌/◌, ◌%◌, ◌^◌, eqb, ltb, leb, get_or}

-- ---- formats

-- what stands past a text's end, where a byte would: no byte
abbrev pub ending : ℕ
ending = 256

-- the byte at a place of a text
unfoldable pub byte_at : List ℕ → ℕ → ℕ
byte_at t k = get_or t k ending

-- a format: the words that were read, or a byte that must pass a test, and the format of what follows that byte
pub data Form : Type 0 where
  stop : List ℕ → Form
  byte : (ℕ → Bool) → (ℕ → Form) → Form

-- what reading gives: the words, or the place of the first byte that the format doesn't allow there
pub data Outcome : Type 0 where
  read : List ℕ → Outcome
  departs : ℕ → Outcome

-- reading the bytes s from place p on
unfoldable pub reads : Form → (ℕ → ℕ) → ℕ → Outcome
reads (stop vs) s p = read vs
reads (byte ok next) s p = cond (ok (s p)) (reads (next (s p)) s (suc p)) (departs p)

-- the texts of a format, with the words that each says
unfoldable pub Has : Form → List ℕ → List ℕ → Type 0
Has (stop vs) [] us = vs ≡ us
Has (stop vs) (b ∷ w) us = ⊥
Has (byte ok next) [] us = ⊥
Has (byte ok next) (b ∷ w) us = (ok b ≡ true) × Has (next b) w us

-- the bytes s have w from place p on
unfoldable pub Spells : (ℕ → ℕ) → ℕ → List ℕ → Type 0
Spells s p [] = Unit {0}
Spells s p (b ∷ w) = (s p ≡ b) × Spells s (suc p) w

-- every byte that is waited for can come
unfoldable pub Live : Form → Type 0
Live (stop vs) = Unit {0}
Live (byte ok next) = ((b : ℕ) × (ok b ≡ true)) × ((b : ℕ) → ok b ≡ true → Live (next b))

-- ---- what formats are made of

-- a fixed run of bytes, then F
unfoldable pub word : List ℕ → Form → Form
word [] F = F
word (b ∷ w) F = byte (λ x. eqb x b) (λ _. word w F)

-- the end of the text
abbrev pub finished : List ℕ → Form
finished vs = word (ending ∷ []) (stop vs)

-- where the byte b comes, F behind it; else what the other format has
unfoldable pub or_else : ℕ → Form → Form → Form
or_else b F (stop vs) = stop vs
or_else b F (byte ok next) = byte (λ x. eqb x b || ok x) (λ x. cond (eqb x b) F (next x))

-- b is a digit below the base, and the number so begun, v with that digit of weight w, can still come to lie from lo to hi
unfoldable pub digit_fits : (base lo hi w v b : ℕ) → Bool
digit_fits base lo hi w v b =
    cond (ltb b 48) false
    (cond (leb (48 + base) b) false
    (leb (v + (b - 48) * w) hi && ltb lo (v + (b - 48) * w + w)))

-- r digits more of a number from lo to hi, of which v is read, then what follows by the number
unfoldable pub numeral : (base lo hi r v : ℕ) → (ℕ → Form) → Form
numeral base lo hi zero v next = next v
numeral base lo hi (suc r) v next =
    byte (digit_fits base lo hi (base ^ r) v) (λ b. numeral base lo hi r (v + (b - 48) * base ^ r) next)

-- a number of `width` digits, from lo to hi
abbrev pub number : (base width lo hi : ℕ) → (ℕ → Form) → Form
number base width lo hi next = numeral base lo hi width 0 next

-- the digits of a number below base ^ r, as many as r
unfoldable pub digits : (base r x : ℕ) → List ℕ
digits base zero x = []
digits base (suc r) x = (48 + x / base ^ r) ∷ digits base r (x % base ^ r)
