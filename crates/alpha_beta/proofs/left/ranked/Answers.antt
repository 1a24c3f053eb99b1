use Rattle.std.proofs.Common.{◌∙◌, ap, subst}
use Rattle.std.specs.List.Sorted.{IsPermutation}
use Rattle.rules_model.specs.Legal.{legal}
use Rattle.rules_model.specs.Repeats.{repeat_of}
use Rattle.alpha_beta.proofs.LeftLaws.{permuted_some}
use Rattle.alpha_beta.proofs.left.ranked.Goals as goal

pub returns-clause-order : goal.returns-clause-order
returns-clause-order c =
    let listed = c.moves.view_is ∙ c.in_ok-moves.ensures ∙ ap (λ s. legal s.rules (repeat_of s.position)) c.board-board.ensures in
    subst (λ ms. IsPermutation ms c.sort_by_cached_key.new.self.items) listed c.in_ok-sort_by_cached_key.ensures.permutation

pub returns-clause-some : goal.returns-clause-some
returns-clause-some c =
    let listed = c.moves.view_is ∙ c.in_ok-moves.ensures ∙ ap (λ s. legal s.rules (repeat_of s.position)) c.board-board.ensures in
    permuted_some _ _ (subst (λ ms. IsPermutation ms c.sort_by_cached_key.new.self.items) listed c.in_ok-sort_by_cached_key.ensures.permutation) c.requires.some
