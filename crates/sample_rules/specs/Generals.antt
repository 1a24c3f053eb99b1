-- Kings, rooks, pawns, and silver generals that become gold ones, with gates, drops and counted checks.
use Rattle.std.specs.Prelude.{true, false, [], ◌∷◌, Some, codes}
use Rattle.rules_model.specs.declared.rules.Rules.{Rules}
use Rattle.sample_rules.specs.declared.pieces.TheConstants.{DIAGONAL, GOLD, LEAP, ORTHOGONAL, SILVER, SLIDE}
use Rattle.sample_rules.specs.declared.variants.generals.TheConstants.{START}
use Rattle.sample_rules.specs.Base.{base, empty}
use Rattle.sample_rules.specs.Pieces.{kind, letter, with, with_pawn, with_piece, with_promoted_piece}
use Rattle.sample_rules.specs.Positions.{all_rights, cells_of, hand_of}
use Rattle.sample_rules.specs.Regions.{area, mask_of}

abbrev pieces : Rules
pieces =
    let k = with_piece (base 8 8) (letter (codes "k")) (with (with [] ORTHOGONAL LEAP) DIAGONAL LEAP) in
    let r = with_piece k (letter (codes "r")) (with [] ORTHOGONAL SLIDE) in
    let g = with_piece r (letter (codes "g")) (with [] GOLD LEAP) in
    let s = with_promoted_piece g (letter (codes "s")) (with [] SILVER LEAP) (kind (codes "g")) in
    with_pawn s

unfoldable pub generals : Rules
generals = record pieces {
  king = Some (kind (codes "k"));
  promotion = area 0 8 5 8 ∷ area 0 8 0 3 ∷ [];
  promotion_kinds = mask_of (codes "r");
  castle_rooks = mask_of (codes "r");
  n_move_kinds = mask_of (codes "p");
  must_promote_pawn = false;
  castling = true;
  drops = true;
  to_hand = true;
  gating = true;
  gate_hand = true;
  check_counting = true;
  start = record empty {
    cells = cells_of START.now;
    rights = all_rights;
    gates = 145 ∷ 145 ∷ [];
    hands = hand_of (codes "s") ∷ hand_of [] ∷ [];
    checks = 3 ∷ 3 ∷ [];
  };
}
