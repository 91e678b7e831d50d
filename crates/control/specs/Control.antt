-- What the solver's card is for others: in a runner (document 01, "Run": played on any play of its table under the actions it gives, a
-- solver's card never meets 12, 13 or 14), as a certificate (document 02, change 1), and trimmed (change 5).
-- Assumes nothing.
use Rattle.std.specs.Prelude.{◌≡◌, List, ℕ}
use Rattle.games.specs.Words.{game}
use Rattle.runner.specs.Control.{Controls}
use Rattle.certificates.specs.Certificate.{certified, Safe}
use Rattle.trimming.specs.Trim.{trimmed}
use Rattle.solver.specs.Solve.{Answer, says_yes, written}
use Rattle.std.specs.Prelude.{Ok}

-- solve answered r for the table and left d in the card room: with a yes, the card in front of it controls the station
abbrev pub Controlled : (table : List ℕ) → Answer → (d : List ℕ) → Type 0
Controlled w r d = (settled m : ℕ) → r ≡ says_yes settled m → Controls (game w) (written w m d)

-- and it is certified against the table
abbrev pub Certified : (table : List ℕ) → Answer → (d : List ℕ) → Type 0
Certified w r d = (settled m : ℕ) → r ≡ says_yes settled m → certified w (written w m d) ≡ Ok tt

-- without its idle cells it is safe all the same: it keeps every play clear and controls the station
abbrev pub TrimmedSafe : (table : List ℕ) → Answer → (d : List ℕ) → Type 0
TrimmedSafe w r d = (settled m : ℕ) → r ≡ says_yes settled m → Safe (game w) (trimmed (written w m d))

-- and it stays certified
abbrev pub TrimmedCertified : (table : List ℕ) → Answer → (d : List ℕ) → Type 0
TrimmedCertified w r d = (settled m : ℕ) → r ≡ says_yes settled m → certified w (trimmed (written w m d)) ≡ Ok tt
