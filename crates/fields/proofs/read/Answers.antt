-- `fields::read` meets its contract: the answer of the checks, with the fields; what was read is written back.
use mathlib.Core.Path.{◌≡◌, ap, ◌∙◌}
use Rattle.std.specs.Prelude.{Ok}
use Rattle.fields.specs.Read.{read_of}
use Rattle.fields.proofs.Laws.{read_fine}
use Rattle.fields.proofs.RoundTrip.{writes_back}
use Rattle.fields.proofs.read.Goals as goal

pub returns : goal.returns
returns c =
    let same = ap (λ b. b.now) c.in_ok-accepted.ensures.table in
    let told : Ok c.fields.result ≡ read_of c.args.table.now = read_fine _ _ c.in_ok-accepted.accepted.checked c.fields.ensures ∙ ap read_of same in
    record { answers = told; written_back = writes_back c.args.table.now told }
