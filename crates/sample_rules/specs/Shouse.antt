-- Chess with gates and drops.
use Rattle.std.specs.Prelude.{true, [], ◌∷◌, Some, codes}
use Rattle.rules_model.specs.declared.rules.Rules.{Rules}
use Rattle.sample_rules.specs.declared.pieces.TheConstants.{DIAGONAL, KNIGHT, LEAP, ORTHOGONAL, SLIDE}
use Rattle.sample_rules.specs.declared.variants.shouse.TheConstants.{START}
use Rattle.sample_rules.specs.Base.{base, empty}
use Rattle.sample_rules.specs.Pieces.{kind, letter, with, with_pawn, with_piece}
use Rattle.sample_rules.specs.Positions.{all_rights, cells_of, hand_of}
use Rattle.sample_rules.specs.Regions.{mask_of}

abbrev pieces : Rules
pieces =
    let k = with_piece (base 8 8) (letter (codes "k")) (with (with [] ORTHOGONAL LEAP) DIAGONAL LEAP) in
    let q = with_piece k (letter (codes "q")) (with (with [] ORTHOGONAL SLIDE) DIAGONAL SLIDE) in
    let r = with_piece q (letter (codes "r")) (with [] ORTHOGONAL SLIDE) in
    let b = with_piece r (letter (codes "b")) (with [] DIAGONAL SLIDE) in
    let n = with_piece b (letter (codes "n")) (with [] KNIGHT LEAP) in
    let h = with_piece n (letter (codes "h")) (with (with [] DIAGONAL SLIDE) KNIGHT LEAP) in
    let e = with_piece h (letter (codes "e")) (with (with [] ORTHOGONAL SLIDE) KNIGHT LEAP) in
    with_pawn e

unfoldable pub shouse : Rules
shouse = record pieces {
  king = Some (kind (codes "k"));
  promotion_kinds = mask_of (codes "ehnbrq");
  castle_rooks = mask_of (codes "r");
  n_move_kinds = mask_of (codes "p");
  castling = true;
  drops = true;
  to_hand = true;
  gating = true;
  gate_hand = true;
  start = record empty {
    cells = cells_of START.now;
    rights = all_rights;
    gates = 255 ∷ 255 ∷ [];
    hands = hand_of (codes "eh") ∷ hand_of (codes "eh") ∷ [];
  };
}
