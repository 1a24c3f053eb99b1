-- Chess on ten files, with an archbishop.
use Rattle.std.specs.Prelude.{true, [], Some, codes}
use Rattle.rules_model.specs.declared.rules.Rules.{Rules}
use Rattle.sample_rules.specs.declared.pieces.TheConstants.{DIAGONAL, KNIGHT, LEAP, ORTHOGONAL, SLIDE}
use Rattle.sample_rules.specs.declared.variants.capablanca.TheConstants.{START}
use Rattle.sample_rules.specs.Base.{base, empty}
use Rattle.sample_rules.specs.Pieces.{kind, letter, with, with_pawn, with_piece}
use Rattle.sample_rules.specs.Positions.{all_rights, cells_of}
use Rattle.sample_rules.specs.Regions.{mask_of}

abbrev pieces : Rules
pieces =
    let k = with_piece (base 10 8) (letter (codes "k")) (with (with [] ORTHOGONAL LEAP) DIAGONAL LEAP) in
    let q = with_piece k (letter (codes "q")) (with (with [] ORTHOGONAL SLIDE) DIAGONAL SLIDE) in
    let r = with_piece q (letter (codes "r")) (with [] ORTHOGONAL SLIDE) in
    let b = with_piece r (letter (codes "b")) (with [] DIAGONAL SLIDE) in
    let n = with_piece b (letter (codes "n")) (with [] KNIGHT LEAP) in
    let a = with_piece n (letter (codes "a")) (with (with [] DIAGONAL SLIDE) KNIGHT LEAP) in
    let c = with_piece a (letter (codes "c")) (with (with [] ORTHOGONAL SLIDE) KNIGHT LEAP) in
    with_pawn c

unfoldable pub capablanca : Rules
capablanca = record pieces {
  king = Some (kind (codes "k"));
  promotion_kinds = mask_of (codes "acnbrq");
  castle_rooks = mask_of (codes "r");
  n_move_kinds = mask_of (codes "p");
  castle_king = 5;
  castle_near = 8;
  castling = true;
  start = record empty { cells = cells_of START.now; rights = all_rights };
}
