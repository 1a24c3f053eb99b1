use Rattle.std.proofs.Common.{[], ◌∷◌, true, false, Some, ◌∙◌}
use Rattle.sample_rules.specs.declared.pieces.TheConstants.{DIAGONAL, GOLD, LEAP, ORTHOGONAL, SILVER, SLIDE}
use Rattle.sample_rules.specs.Pieces.{with, with_pawn, with_piece, with_promoted_piece}
use Rattle.sample_rules.specs.Positions.{all_rights}
use Rattle.sample_rules.specs.Generals.{generals}
use Rattle.sample_rules.proofs.variants.generals.rules.Goals as goal

pub returns : goal.returns
unfolding generals
returns c =
    let after_k = c.add.ensures ∙ (λ i. with_piece (c.base-rules.ensures i) 107 ((c.with-2.ensures.is ∙ (λ i. with ((c.with.ensures.is ∙ (λ i. with (c.none.ensures i) ORTHOGONAL LEAP)) i) DIAGONAL LEAP)) i)) in
    let after_r = c.add-2.ensures ∙ (λ i. with_piece (after_k i) 114 ((c.with-3.ensures.is ∙ (λ i. with (c.none-2.ensures i) ORTHOGONAL SLIDE)) i)) in
    let after_g = c.add-3.ensures ∙ (λ i. with_piece (after_r i) 103 ((c.with-4.ensures.is ∙ (λ i. with (c.none-3.ensures i) GOLD LEAP)) i)) in
    let after_s = c.add_promoted.ensures ∙ (λ i. with_promoted_piece (after_g i) 115 ((c.with-5.ensures.is ∙ (λ i. with (c.none-4.ensures i) SILVER LEAP)) i) (c.kind.ensures i)) in
    let after_pawn = c.add_pawn.ensures ∙ (λ i. with_pawn (after_s i)) in
    λ i. record (after_pawn i) {
      king = Some (c.kind-2.ensures i);
      promotion = c.area.ensures i ∷ c.area-2.ensures i ∷ [];
      promotion_kinds = c.mask_of-rules.ensures i;
      castle_rooks = c.mask_of-rules-2.ensures i;
      n_move_kinds = c.mask_of-rules-3.ensures i;
      must_promote_pawn = false;
      castling = true;
      drops = true;
      to_hand = true;
      gating = true;
      gate_hand = true;
      check_counting = true;
      start = record (c.empty.ensures i) {
        cells = c.cells_of.ensures i;
        rights = all_rights;
        gates = 145 ∷ 145 ∷ [];
        hands = c.hand_of.ensures i ∷ c.hand_of-2.ensures i ∷ [];
        checks = 3 ∷ 3 ∷ [];
      };
    }
