-- The tests are those of the definition, on what the word has above its frame.
use Rattle.std.proofs.Common.{arith}
use Rattle.games.proofs.KindNumbers.{kind_below}
use Rattle.cards.proofs.Checked.{named_told}
use Rattle.cards.proofs.cell_named.Goals as goal

pub returns : goal.returns
returns c = named_told _ c.args.m _ _ _ _ (kind_below c.args.kind) c.requires.0 c.requires.1 (omega arith) c.kind_word.ensures c.wrapping_sub_u32-cell.ensures.value
