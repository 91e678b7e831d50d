-- `fields::write` meets its contract: a refusal, or the words; what was written is read back.
use mathlib.Core.Path.{sym, ap, ◌∙◌}
use borrow.Author.Rules.{rules}
use Rattle.tables.specs.declared.Fields.{Fields}
use Rattle.fields.specs.Write.{written_to}
use Rattle.fields.proofs.Laws.{write_fine}
use Rattle.fields.proofs.RoundTrip.{reads_back}
use Rattle.fields.proofs.write.Goals as goal

pub returns : goal.returns
returns c =
    let told = c.write.ensures
    ∙ ap (λ (f : Fields). written_to f c.args.out.now) c.in_ok-narrow.ensures.narrow.0
    ∙ sym (write_fine c.args.f c.args.out.now c.in_ok-narrow.ensures.narrow.1) in
    record { answers = told; read_back = reads_back c.args.f c.args.out.now (search rules) (search rules) told }
