use Rattle.std.proofs.Common.{Some, ◌∙◌}
use Rattle.sample_rules.specs.declared.pieces.TheConstants.{CAMEL, DIAGONAL, KNIGHT, LEAP, ORTHOGONAL}
use Rattle.sample_rules.specs.Pieces.{with, with_piece}
use Rattle.sample_rules.specs.Leapers.{leapers}
use Rattle.sample_rules.proofs.variants.leapers.rules.Goals as goal

pub returns : goal.returns
unfolding leapers
returns c =
    let after_k = c.add.ensures ∙ (λ i. with_piece (c.base-rules.ensures i) 107 ((c.with-2.ensures.is ∙ (λ i. with ((c.with.ensures.is ∙ (λ i. with (c.none.ensures i) ORTHOGONAL LEAP)) i) DIAGONAL LEAP)) i)) in
    let after_n = c.add-2.ensures ∙ (λ i. with_piece (after_k i) 110 ((c.with-3.ensures.is ∙ (λ i. with (c.none-2.ensures i) KNIGHT LEAP)) i)) in
    let after_c = c.add-3.ensures ∙ (λ i. with_piece (after_n i) 99 ((c.with-4.ensures.is ∙ (λ i. with (c.none-3.ensures i) CAMEL LEAP)) i)) in
    λ i. record (after_c i) {
      king = Some (c.kind.ensures i);
      start = record (c.empty.ensures i) { cells = c.cells_of.ensures i };
    }
