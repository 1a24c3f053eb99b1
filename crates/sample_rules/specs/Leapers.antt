-- A king, a knight and a camel on each side of the chess board.
use Rattle.std.specs.Prelude.{[], Some, codes}
use Rattle.rules_model.specs.declared.rules.Rules.{Rules}
use Rattle.sample_rules.specs.declared.pieces.TheConstants.{CAMEL, DIAGONAL, KNIGHT, LEAP, ORTHOGONAL}
use Rattle.sample_rules.specs.declared.variants.leapers.TheConstants.{START}
use Rattle.sample_rules.specs.Base.{base, empty}
use Rattle.sample_rules.specs.Pieces.{kind, letter, with, with_piece}
use Rattle.sample_rules.specs.Positions.{cells_of}

abbrev pieces : Rules
pieces =
    let k = with_piece (base 8 8) (letter (codes "k")) (with (with [] ORTHOGONAL LEAP) DIAGONAL LEAP) in
    let n = with_piece k (letter (codes "n")) (with [] KNIGHT LEAP) in
    with_piece n (letter (codes "c")) (with [] CAMEL LEAP)

unfoldable pub leapers : Rules
leapers = record pieces {
  king = Some (kind (codes "k"));
  start = record empty { cells = cells_of START.now };
}
