-- The two tests joined.
use Rattle.std.proofs.Common.{arith}
use Rattle.games.specs.Step.{safe}
use Rattle.tables.proofs.Bounds.{few_states}
use Rattle.certificates.specs.Certificate.{set_fits}
use Rattle.certificates.proofs.set_fits.Goals as goal

pub single-requires : goal.single-requires
single-requires c = omega (arith, c.states.ensures, few_states _ c.args.table.sized)

pub returns : goal.returns
unfolding set_fits safe
returns c = rw (c.single.ensures, c.states.ensures, c.common.ensures, c.bad.ensures)
