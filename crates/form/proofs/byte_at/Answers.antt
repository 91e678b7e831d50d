use Rattle.std.proofs.Common.{◌∙◌, ap, arith}
use Rattle.form.specs.Form.{byte_at}
use Rattle.form.specs.Places.{next_byte}
use Rattle.form.proofs.Bytes.{next_is}
use Rattle.form.proofs.byte_at.Goals as goal

pub returns-clause-there : goal.returns-clause-there
unfolding byte_at
returns-clause-there c = ap next_byte c.copied.ensures ∙ next_is c.get.result ∙ c.get.ensures.lookup.4 (omega arith) 256
