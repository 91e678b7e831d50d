-- `kiss_reader::Sizes::new` meets its contract.
use Rattle.std.proofs.Common.{◌∙◌}
use Rattle.kiss_reader.proofs.Parts.{sized}
use Rattle.kiss_reader.proofs.sizes.Sizes.new.Goals as goal

pub invariant_of-result : goal.invariant_of-result
invariant_of-result c =
    record {
      sized = sized _ _ _ c.binary.result c.binary-2.result c.requires.0 c.requires.1 c.requires.2 c.requires.3 c.requires.4 c.requires.5
          c.binary.ensures.0 (c.binary.ensures.1 ∙ c.bits.ensures) c.binary-2.ensures.0 (c.binary-2.ensures.1 ∙ c.bits-2.ensures);
    }
