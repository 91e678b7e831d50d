-- The card that solve wrote with a yes, held by a runner, is never refused on a play of its table under the actions that it gives; and
-- it is certified against its table. Both stay when it is trimmed.
-- Assumes nothing.
use mathlib.Core.Path.{◌≡◌, sym, subst}
use mathlib.Core.List.{List}
use Prim.Native.Nat.{ℕ}
use Rattle.games.specs.Answers.{leaves}
use Rattle.games.specs.Automaton.{card}
use Rattle.games.specs.Words.{game}
use Rattle.tables.proofs.Checks.{accepted}
use Rattle.runner.proofs.Control.{kept_controls}
use Rattle.certificates.specs.Certificate.{certified}
use Rattle.certificates.proofs.Written.{written_certified}
use Rattle.certificates.proofs.Settled.{card_conditions}
use Rattle.trimming.specs.Trim.{trimmed}
use Rattle.trimming.proofs.Plays.{trimmed_kept}
use Rattle.trimming.proofs.Certified.{trimmed_certified}
use Rattle.solver.specs.Solve.{buffers, solved, written, Promise}
use Rattle.solver.specs.Solve.{Answer}
use Rattle.solver.proofs.Promises.{card_fits, promised, yes_given}
use Rattle.control.specs.Control.{Controlled, Certified, TrimmedSafe, TrimmedCertified}
use Rattle.std.specs.Prelude.{Ok}

module _ (w work d : List ℕ) (r : Answer) (e : List ℕ) where
  -- on solve's promise
  pub promise_controls : Promise w work d r e → Controlled w r e
  promise_controls P settled m is = kept_controls (game w) (written w m e) (P.yes_card settled m is)

  pub promise_trimmed_safe : Promise w work d r e → TrimmedSafe w r e
  promise_trimmed_safe P settled m is =
      let K = trimmed_kept (game w) (written w m e) (P.yes_card settled m is) in
      record { kept = K; controls = kept_controls (game w) (trimmed (written w m e)) K }

  module _ (left : List ℕ) (is : leaves r (buffers left e) ≡ solved w work d) where
    -- and on what it does
    pub solved_controls : Controlled w r e
    solved_controls = promise_controls (promised w work d r e left is)

    pub solved_certified : Certified w r e
    unfolding card
    solved_certified settled m says =
        let y = yes_given w work d r e settled m left is says in
        let F = card_fits w y.fine in
        subst (λ (k : List ℕ). certified w k ≡ Ok tt) (sym y.front)
        (written_certified w y.fine (card (game w)) F (card_conditions (game w) (accepted w y.fine) F.cells y.won))

    pub solved_trimmed_safe : TrimmedSafe w r e
    solved_trimmed_safe = promise_trimmed_safe (promised w work d r e left is)

    pub solved_trimmed_certified : TrimmedCertified w r e
    solved_trimmed_certified settled m says = trimmed_certified w (written w m e) (solved_certified settled m says)
