-- The tests are those of the definition, on what the word has above its frame.
use Rattle.std.proofs.Common.{arith}
use Rattle.cards.proofs.Checked.{cell_told}
use Rattle.cards.proofs.cell_fits.Goals as goal

pub returns : goal.returns
returns c = cell_told c.args.a _ _ _ c.requires (omega arith) c.kind_word.ensures c.wrapping_sub_u32-picked.ensures.value
