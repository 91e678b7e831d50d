-- Every kind has its number in four bits.
-- Assumes nothing.
use Rattle.std.proofs.Common.{◌<◌, arith}
use Rattle.games.specs.Format.{kind_values}
use Rattle.games.specs.Kinds.{kind_number}
use Rattle.games.specs.declared.Kind.{Kind}
use Rattle.games.specs.declared.Kind.TheVariants as kind

pub kind_below : (k : Kind) → kind_number k < kind_values
kind_below kind.Table = omega arith
kind_below kind.Start = omega arith
kind_below kind.Bad = omega arith
kind_below kind.Shown = omega arith
kind_below kind.Move = omega arith
kind_below kind.Parked = omega arith
kind_below kind.Card = omega arith
kind_below kind.First = omega arith
kind_below kind.Cell = omega arith
kind_below kind.Next = omega arith
