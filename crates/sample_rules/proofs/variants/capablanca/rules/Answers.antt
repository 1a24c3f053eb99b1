use Rattle.std.proofs.Common.{true, Some, ◌∙◌}
use Rattle.sample_rules.specs.declared.pieces.TheConstants.{DIAGONAL, KNIGHT, LEAP, ORTHOGONAL, SLIDE}
use Rattle.sample_rules.specs.Pieces.{with, with_pawn, with_piece}
use Rattle.sample_rules.specs.Positions.{all_rights}
use Rattle.sample_rules.specs.Capablanca.{capablanca}
use Rattle.sample_rules.proofs.variants.capablanca.rules.Goals as goal

pub returns : goal.returns
unfolding capablanca
returns c =
    let after_k = c.add.ensures ∙ (λ i. with_piece (c.base-rules.ensures i) 107 ((c.with-2.ensures.is ∙ (λ i. with ((c.with.ensures.is ∙ (λ i. with (c.none.ensures i) ORTHOGONAL LEAP)) i) DIAGONAL LEAP)) i)) in
    let after_q = c.add-2.ensures ∙ (λ i. with_piece (after_k i) 113 ((c.with-4.ensures.is ∙ (λ i. with ((c.with-3.ensures.is ∙ (λ i. with (c.none-2.ensures i) ORTHOGONAL SLIDE)) i) DIAGONAL SLIDE)) i)) in
    let after_r = c.add-3.ensures ∙ (λ i. with_piece (after_q i) 114 ((c.with-5.ensures.is ∙ (λ i. with (c.none-3.ensures i) ORTHOGONAL SLIDE)) i)) in
    let after_b = c.add-4.ensures ∙ (λ i. with_piece (after_r i) 98 ((c.with-6.ensures.is ∙ (λ i. with (c.none-4.ensures i) DIAGONAL SLIDE)) i)) in
    let after_n = c.add-5.ensures ∙ (λ i. with_piece (after_b i) 110 ((c.with-7.ensures.is ∙ (λ i. with (c.none-5.ensures i) KNIGHT LEAP)) i)) in
    let after_a = c.add-6.ensures ∙ (λ i. with_piece (after_n i) 97 ((c.with-9.ensures.is ∙ (λ i. with ((c.with-8.ensures.is ∙ (λ i. with (c.none-6.ensures i) DIAGONAL SLIDE)) i) KNIGHT LEAP)) i)) in
    let after_c = c.add-7.ensures ∙ (λ i. with_piece (after_a i) 99 ((c.with-11.ensures.is ∙ (λ i. with ((c.with-10.ensures.is ∙ (λ i. with (c.none-7.ensures i) ORTHOGONAL SLIDE)) i) KNIGHT LEAP)) i)) in
    let after_pawn = c.add_pawn.ensures ∙ (λ i. with_pawn (after_c i)) in
    λ i. record (after_pawn i) {
      king = Some (c.kind.ensures i);
      promotion_kinds = c.mask_of-rules.ensures i;
      castle_rooks = c.mask_of-rules-2.ensures i;
      n_move_kinds = c.mask_of-rules-3.ensures i;
      castle_king = 5;
      castle_near = 8;
      castling = true;
      start = record (c.empty.ensures i) { cells = c.cells_of.ensures i; rights = all_rights };
    }
