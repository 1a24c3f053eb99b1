-- Xiangqi.
use Rattle.std.specs.Prelude.{true, [], ◌∷◌, List, Some, codes}
use Rattle.rules_model.specs.declared.board.Region.{Region}
use Rattle.rules_model.specs.declared.moves.Value.TheVariants.{Loss}
use Rattle.rules_model.specs.declared.rules.Rules.{Rules}
use Rattle.sample_rules.specs.declared.pieces.TheConstants.{DIAGONAL, ELEPHANT, HOP, KNIGHT, LAME, LEAP, ORTHOGONAL, QUIET_SLIDE, SLIDE, SOLDIER}
use Rattle.sample_rules.specs.declared.variants.xiangqi.TheConstants.{START}
use Rattle.sample_rules.specs.Base.{base, empty}
use Rattle.sample_rules.specs.Pieces.{kind, letter, with, with_bound_piece, with_piece}
use Rattle.sample_rules.specs.Positions.{cells_of}
use Rattle.sample_rules.specs.Regions.{area}

-- the king and its advisors stay in their palace, an elephant on its side of the river
abbrev palaces : List Region
palaces = area 3 6 0 3 ∷ area 3 6 7 10 ∷ []

abbrev halves : List Region
halves = area 0 9 0 5 ∷ area 0 9 5 10 ∷ []

abbrev pieces : Rules
pieces =
    let k = with_bound_piece (base 9 10) (letter (codes "k")) (with [] ORTHOGONAL LEAP) palaces in
    let a = with_bound_piece k (letter (codes "a")) (with [] DIAGONAL LEAP) palaces in
    let b = with_bound_piece a (letter (codes "b")) (with [] ELEPHANT LAME) halves in
    let n = with_piece b (letter (codes "n")) (with [] KNIGHT LAME) in
    let r = with_piece n (letter (codes "r")) (with [] ORTHOGONAL SLIDE) in
    let c = with_piece r (letter (codes "c")) (with (with [] ORTHOGONAL QUIET_SLIDE) ORTHOGONAL HOP) in
    with_piece c (letter (codes "p")) (with [] SOLDIER LEAP)

unfoldable pub xiangqi : Rules
xiangqi = record pieces {
  king = Some (kind (codes "k"));
  soldier = Some (kind (codes "p"));
  soldier_rank = 6;
  stalemate = Loss;
  flying = true;
  start = record empty { cells = cells_of START.now };
}
