use Rattle.std.proofs.Common.{[], ◌∷◌, true, Some, ◌∙◌}
use Rattle.rules_model.specs.declared.moves.Value.TheVariants.{Loss}
use Rattle.sample_rules.specs.declared.pieces.TheConstants.{DIAGONAL, ELEPHANT, HOP, KNIGHT, LAME, LEAP, ORTHOGONAL, QUIET_SLIDE, SLIDE, SOLDIER}
use Rattle.sample_rules.specs.Pieces.{with, with_bound_piece, with_piece}
use Rattle.sample_rules.specs.Xiangqi.{xiangqi}
use Rattle.sample_rules.proofs.variants.xiangqi.rules.Goals as goal

pub returns : goal.returns
unfolding xiangqi
returns c =
    let after_k = c.add_bound.ensures ∙ (λ i. with_bound_piece (c.base-rules.ensures i) 107 ((c.with.ensures.is ∙ (λ i. with (c.none.ensures i) ORTHOGONAL LEAP)) i) (c.area.ensures i ∷ c.area-2.ensures i ∷ [])) in
    let after_a = c.add_bound-2.ensures ∙ (λ i. with_bound_piece (after_k i) 97 ((c.with-2.ensures.is ∙ (λ i. with (c.none-2.ensures i) DIAGONAL LEAP)) i) (c.area.ensures i ∷ c.area-2.ensures i ∷ [])) in
    let after_b = c.add_bound-3.ensures ∙ (λ i. with_bound_piece (after_a i) 98 ((c.with-3.ensures.is ∙ (λ i. with (c.none-3.ensures i) ELEPHANT LAME)) i) (c.area-3.ensures i ∷ c.area-4.ensures i ∷ [])) in
    let after_n = c.add.ensures ∙ (λ i. with_piece (after_b i) 110 ((c.with-4.ensures.is ∙ (λ i. with (c.none-4.ensures i) KNIGHT LAME)) i)) in
    let after_r = c.add-2.ensures ∙ (λ i. with_piece (after_n i) 114 ((c.with-5.ensures.is ∙ (λ i. with (c.none-5.ensures i) ORTHOGONAL SLIDE)) i)) in
    let after_c = c.add-3.ensures ∙ (λ i. with_piece (after_r i) 99 ((c.with-7.ensures.is ∙ (λ i. with ((c.with-6.ensures.is ∙ (λ i. with (c.none-6.ensures i) ORTHOGONAL QUIET_SLIDE)) i) ORTHOGONAL HOP)) i)) in
    let after_p = c.add-4.ensures ∙ (λ i. with_piece (after_c i) 112 ((c.with-8.ensures.is ∙ (λ i. with (c.none-7.ensures i) SOLDIER LEAP)) i)) in
    λ i. record (after_p i) {
      king = Some (c.kind.ensures i);
      soldier = Some (c.kind-2.ensures i);
      soldier_rank = 6;
      stalemate = Loss;
      flying = true;
      start = record (c.empty.ensures i) { cells = c.cells_of.ensures i };
    }
