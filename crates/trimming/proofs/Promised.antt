-- What is promised of trimming holds of every card.
-- Assumes nothing.
use mathlib.Core.Path.{◌≡◌}
use mathlib.Core.List.{List}
use Prim.Native.Nat.{ℕ}
use Rattle.cards.specs.Card.{card_observations, automaton, checked}
use Rattle.cards.proofs.Checked.{fitting}
use Rattle.trimming.specs.Promise.{Promise}
use Rattle.trimming.proofs.Reaching.{found}
use Rattle.trimming.proofs.Numbers.{keeping}
use Rattle.trimming.proofs.Trimmed.{trimming}
use Rattle.trimming.proofs.Running.{same_runs}
use Rattle.trimming.proofs.Plays.{trimmed_kept, trimmed_controls}
use Rattle.trimming.proofs.Certified.{trimmed_certified, trimmed_safe}
use Rattle.trimming.proofs.Twice.{twice}
use Rattle.std.specs.Prelude.{Ok}

pub promised : (w : List ℕ) → checked w ≡ Ok tt → Promise w
promised w e =
    let F = fitting w e in
    record {
      found = found (automaton w) (card_observations w);
      keeping = keeping (automaton w) (card_observations w) F.cells F.some_cell;
      card = trimming w e;
      same_runs = same_runs w e;
      stays_kept = λ g K. trimmed_kept g w K;
      stays_controlled = λ g C. trimmed_controls g w e C;
      stays_certified = λ t fine. trimmed_certified t w fine;
      stays_safe = λ t fine. trimmed_safe t w fine;
      twice = twice w e;
    }
