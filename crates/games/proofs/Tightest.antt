-- The card of a yes names tightest cells.
-- Assumes nothing.
use mathlib.Core.Path.{◌≡◌, ◌∙◌}
use mathlib.Core.Bool.{true}
use Prim.Native.Nat.{ℕ, ◌^◌, ◌<◌}
use lib.ListN.{get_or}
use Rattle.games.specs.Game.{Game, Accepted}
use Rattle.games.specs.Step.{after, lowest}
use Rattle.games.specs.Verdict.{start_set, starts_in, settled, cells}
use Rattle.games.specs.Automaton.{holding, chosen, card}
use Rattle.games.specs.Tightest.{Tightest, CardTightest}
use Rattle.games.proofs.Starts.{start_below, starts_at}
use Rattle.games.proofs.Steps.{after_below, meets_after}
use Rattle.games.proofs.Lasting.{lowest_meets}
use Rattle.games.proofs.Settling.{cells_hold}
use Rattle.games.proofs.Holding.{holding_tightest}
use Rattle.games.proofs.Winning.{cell_step}

module _ (g : Game) (A : Accepted g) where
  settled_tightest : (s : ℕ) → s < 2 ^ g.states → settled g s ≡ true → (s ≡ 0 → ⊥) → Tightest (cells g) s (holding (cells g) s)
  settled_tightest s b h some = holding_tightest (cells g) s some (cells_hold g A s b ∙ h)

  pub card_tightest_lem : starts_in g (settled g) ≡ true → CardTightest g
  unfolding card chosen
  card_tightest_lem won =
      record {
        begins = λ o b. settled_tightest (start_set g o) (start_below g A o) (starts_at g (settled g) won o b);
        next = λ c o b l.
            let s = get_or (cells g) c 0 in
            let a = lowest g (settled g) s in
            settled_tightest (after g s a o) (after_below g A s a o l) (meets_after g (settled g) s a (lowest_meets g A (settled g) s (cell_step g A c b)) o l);
      }
