-- The starred stations of document 01 ("Stations to try") as rows of one list, stations with parked states and stations whose cells
-- overlap as rows of two others, and the one statement that covers them: every row comes out.
-- Assumes nothing.
use Rattle.std.specs.Prelude.{◌≡◌, Bool, true, false, ◌&&◌, List, [], ◌∷◌, ℕ, eqb}
use Rattle.std.specs.Bool.{beq}
use Rattle.sets.specs.Family.{join, meet}
use Rattle.games.specs.Step.{good, antichain}
use Rattle.games.specs.Verdict.{Verdict, Yes, No, verdict}
use Rattle.games.specs.Automaton.{card}
use Rattle.games.specs.Words.{game, card_words}

pub data Station : Type 0 where
  A B C D E F G H J K L : Station
  -- with parked states, below
  ParkedE BadE ParkedG ForkedQ ParkedQ Mixed MixedBlocked MixedBad : Station
  -- whose cells overlap, below
  Tightest Tied : Station

-- what document 01 says of a station
pub data Row : Type 0 where
  -- the list of maximal sets good for k
  lists : Station → (table : List ℕ) (k : ℕ) (sets : List ℕ) → Row
  answers : Station → (table : List ℕ) → Verdict → Row
  writes : Station → (table card : List ℕ) → Row
  joins : Station → (n : ℕ) (one other result : List ℕ) → Row
  cuts_to : Station → (n : ℕ) (one other result : List ℕ) → Row
  -- whether the set is good for k
  judges : Station → (table : List ℕ) (set k : ℕ) (answer : Bool) → Row

-- A's moves: wait, then dose
abbrev moves : List ℕ
moves = 0x5000_0002 ∷ 0x5001_0000 ∷ 0x5002_0004 ∷ 0x5010_0004 ∷ 0x5011_0001 ∷ 0x5012_0004 ∷ []

abbrev pub table_a : List ℕ
table_a = 0x1001_0203 ∷ 0x2000_0001 ∷ 0x3000_0004 ∷ 0x4000_0007 ∷ moves

-- A with start {0,1}
abbrev pub table_b : List ℕ
table_b = 0x1001_0203 ∷ 0x2000_0003 ∷ 0x3000_0004 ∷ 0x4000_0007 ∷ moves

-- B with two readings, {0} and {1,2}
abbrev pub table_c : List ℕ
table_c = 0x1002_0203 ∷ 0x2000_0003 ∷ 0x3000_0004 ∷ 0x4000_0001 ∷ 0x4001_0006 ∷ moves

-- one state, bad, moving to itself; not bad, blocked; not bad, moving to itself
abbrev pub table_d : List ℕ
table_d = 0x1001_0101 ∷ 0x2000_0001 ∷ 0x3000_0001 ∷ 0x4000_0001 ∷ 0x5000_0001 ∷ []

abbrev pub table_e : List ℕ
table_e = 0x1001_0101 ∷ 0x2000_0001 ∷ 0x3000_0000 ∷ 0x4000_0001 ∷ 0x5000_0000 ∷ []

abbrev pub table_f : List ℕ
table_f = 0x1001_0101 ∷ 0x2000_0001 ∷ 0x3000_0000 ∷ 0x4000_0001 ∷ 0x5000_0001 ∷ []

-- four states, one action, one reading, none bad, i to i+1, 3 blocked, start {0}
abbrev pub table_g : List ℕ
table_g = 0x1001_0104 ∷ 0x2000_0001 ∷ 0x3000_0000 ∷ 0x4000_000f ∷ 0x5000_0002 ∷ 0x5001_0004 ∷ 0x5002_0008 ∷ 0x5003_0000 ∷ []

-- C with readings {0,1} and {1,2}
abbrev pub table_h : List ℕ
table_h = 0x1002_0203 ∷ 0x2000_0003 ∷ 0x3000_0004 ∷ 0x4000_0003 ∷ 0x4001_0006 ∷ moves

-- A's card, and C's
abbrev pub card_a : List ℕ
card_a = 0x8021_0002 ∷ 0x9000_0000 ∷ 0xa000_0001 ∷ 0xb000_0001 ∷ 0xa010_0002 ∷ 0xb000_0000 ∷ []

abbrev pub card_c : List ℕ
card_c = 0x8022_0002 ∷ 0x9000_0000 ∷ 0x9001_0001 ∷ 0xa000_0001 ∷ 0xb000_ffff ∷ 0xb001_0001 ∷ 0xa010_0002 ∷ 0xb000_0000 ∷ 0xb001_ffff ∷ []

unfoldable pub stations : List Row
stations =
    lists A table_a 0 (7 ∷ [])
    ∷ lists A table_a 1 (3 ∷ [])
    ∷ lists A table_a 2 (1 ∷ 2 ∷ [])
    ∷ answers A table_a (Yes 2 2)
    ∷ writes A table_a card_a
    ∷ answers B table_b (No 2)
    ∷ answers C table_c (Yes 2 2)
    ∷ writes C table_c card_c
    ∷ answers D table_d (No 1)
    ∷ answers E table_e (No 1)
    ∷ answers F table_f (Yes 0 1)
    ∷ answers G table_g (No 4)
    ∷ answers H table_h (No 2)
    ∷ joins J 2 (1 ∷ 2 ∷ []) (3 ∷ []) (3 ∷ [])
    ∷ cuts_to K 3 (3 ∷ []) (1 ∷ 6 ∷ []) (1 ∷ 2 ∷ [])
    ∷ judges L table_a 3 1 true
    ∷ judges L table_a 3 2 false
    ∷ []

-- ---- stations with parked states (document 02, change 2)

-- E and G, their blocked state parked; E's is bad as well
abbrev pub parked_e : List ℕ
parked_e = 0x1101_0101 ∷ 0x2000_0001 ∷ 0x3000_0000 ∷ 0x6000_0001 ∷ 0x4000_0001 ∷ 0x5000_0000 ∷ []

abbrev pub bad_e : List ℕ
bad_e = 0x1101_0101 ∷ 0x2000_0001 ∷ 0x3000_0001 ∷ 0x6000_0001 ∷ 0x4000_0001 ∷ 0x5000_0000 ∷ []

abbrev pub parked_g : List ℕ
parked_g = 0x1101_0104 ∷ 0x2000_0001 ∷ 0x3000_0000 ∷ 0x6000_0008 ∷ 0x4000_000f ∷ 0x5000_0002 ∷ 0x5001_0004 ∷ 0x5002_0008 ∷ 0x5003_0000 ∷ []

-- 0 to {1,2}, 1 blocked, 2 to 3, 3 blocked; as it is, and 1 parked: the round number rises
abbrev pub forked_q : List ℕ
forked_q = 0x1001_0104 ∷ 0x2000_0001 ∷ 0x3000_0000 ∷ 0x4000_000f ∷ 0x5000_0006 ∷ 0x5001_0000 ∷ 0x5002_0008 ∷ 0x5003_0000 ∷ []

abbrev pub parked_q : List ℕ
parked_q = 0x1101_0104 ∷ 0x2000_0001 ∷ 0x3000_0000 ∷ 0x6000_0002 ∷ 0x4000_000f ∷ 0x5000_0006 ∷ 0x5001_0000 ∷ 0x5002_0008 ∷ 0x5003_0000 ∷ []

-- 0 dosing, 1 finished, 2 overdosed (bad), all alike: action 0 takes 0 to 2, action 1 to {0,1}; the start is {0,1}. Parked; blocked,
-- though the bit is set; parked and bad
abbrev mixed : (bad parked : ℕ) → List ℕ
mixed bad parked =
    0x1101_0203 ∷ 0x2000_0003 ∷ bad ∷ parked ∷ 0x4000_0007 ∷ 0x5000_0004 ∷ 0x5001_0000 ∷ 0x5002_0004 ∷ 0x5010_0003 ∷ 0x5011_0000 ∷ 0x5012_0004 ∷ []

abbrev pub mixed_parked : List ℕ
mixed_parked = mixed 0x3000_0004 0x6000_0002

abbrev pub mixed_blocked : List ℕ
mixed_blocked = mixed 0x3000_0004 0x6000_0000

abbrev pub mixed_bad : List ℕ
mixed_bad = mixed 0x3000_0006 0x6000_0002

unfoldable pub parked_stations : List Row
parked_stations =
    answers ParkedE parked_e (Yes 0 1)
    ∷ writes ParkedE parked_e (0x8011_0001 ∷ 0x9000_0000 ∷ 0xa000_0001 ∷ 0xb000_ffff ∷ [])
    ∷ answers BadE bad_e (No 1)
    ∷ answers ParkedG parked_g (Yes 0 1)
    ∷ answers ForkedQ forked_q (No 2)
    ∷ answers ParkedQ parked_q (No 3)
    ∷ answers Mixed mixed_parked (Yes 1 1)
    ∷ writes Mixed mixed_parked (0x8021_0001 ∷ 0x9000_0000 ∷ 0xa010_0003 ∷ 0xb000_0000 ∷ [])
    ∷ answers MixedBlocked mixed_blocked (No 1)
    ∷ answers MixedBad mixed_bad (No 1)
    ∷ judges Mixed mixed_parked 2 4 true
    ∷ judges Mixed mixed_parked 6 1 false
    ∷ []

-- ---- stations whose cells overlap (document 02, change 3)

-- four states, two actions, all alike, none bad, start {0}: every move leads to 0. Action 0 is enabled at 0, 1 and 2, action 1 at 0 and 3.
-- The cells are {0,1,2} and {0,3}; both hold {0}, and the second, with two states, is named
abbrev pub table_tightest : List ℕ
table_tightest =
    0x1001_0204 ∷ 0x2000_0001 ∷ 0x3000_0000 ∷ 0x4000_000f ∷ 0x5000_0001 ∷ 0x5001_0001 ∷ 0x5002_0001 ∷ 0x5003_0000 ∷ 0x5010_0001 ∷ 0x5011_0000 ∷ 0x5012_0000 ∷ 0x5013_0001 ∷ []

abbrev pub card_tightest : List ℕ
card_tightest = 0x8021_0002 ∷ 0x9000_0001 ∷ 0xa000_0007 ∷ 0xb000_0001 ∷ 0xa010_0009 ∷ 0xb000_0001 ∷ []

-- the same with a fifth state and a third action, enabled at 0 and 4: {0,3} and {0,4} have two states each, and the lower number is named
abbrev pub table_tied : List ℕ
table_tied =
    0x1001_0305 ∷ 0x2000_0001 ∷ 0x3000_0000 ∷ 0x4000_001f
    ∷ 0x5000_0001 ∷ 0x5001_0001 ∷ 0x5002_0001 ∷ 0x5003_0000 ∷ 0x5004_0000
    ∷ 0x5010_0001 ∷ 0x5011_0000 ∷ 0x5012_0000 ∷ 0x5013_0001 ∷ 0x5014_0000
    ∷ 0x5020_0001 ∷ 0x5021_0000 ∷ 0x5022_0000 ∷ 0x5023_0000 ∷ 0x5024_0001 ∷ []

abbrev pub card_tied : List ℕ
card_tied = 0x8031_0003 ∷ 0x9000_0001 ∷ 0xa000_0007 ∷ 0xb000_0001 ∷ 0xa010_0009 ∷ 0xb000_0001 ∷ 0xa020_0011 ∷ 0xb000_0001 ∷ []

unfoldable pub overlapping_stations : List Row
overlapping_stations =
    answers Tightest table_tightest (Yes 1 2)
    ∷ writes Tightest table_tightest card_tightest
    ∷ answers Tied table_tied (Yes 1 3)
    ∷ writes Tied table_tied card_tied
    ∷ []

unfoldable pub same_list : List ℕ → List ℕ → Bool
same_list [] [] = true
same_list [] (y ∷ l) = false
same_list (x ∷ k) [] = false
same_list (x ∷ k) (y ∷ l) = eqb x y && same_list k l

unfoldable pub same_verdict : Verdict → Verdict → Bool
same_verdict (Yes t m) (Yes u k) = eqb t u && eqb m k
same_verdict (Yes t m) (No k) = false
same_verdict (No k) (Yes t m) = false
same_verdict (No j) (No k) = eqb j k

unfoldable pub comes_out : Row → Bool
comes_out (lists x t k l) = same_list (antichain (game t) k) l
comes_out (answers x t v) = same_verdict (verdict (game t)) v
comes_out (writes x t c) = same_list (card_words (card (game t)) (game t).actions (game t).observations) c
comes_out (joins x n k l r) = same_list (join n k l) r
comes_out (cuts_to x n k l r) = same_list (meet n k l) r
comes_out (judges x t s k b) = beq (good (game t) k s) b

-- every row of the list comes out
pub data Every : List Row → Type 0 where
  none : Every []
  row : {r : Row} {l : List Row} → comes_out r ≡ true → Every l → Every (r ∷ l)
