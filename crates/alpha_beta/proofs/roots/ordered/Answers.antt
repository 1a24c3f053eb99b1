use Rattle.std.proofs.Common.{◌≡◌, ◌++◌, ◌∙◌, List, ap, subst, sym}
use Rattle.std.specs.List.Sorted.{IsPermutation}
use Rattle.rules_model.specs.declared.moves.Move.{Move}
use Rattle.alpha_beta.proofs.DistinctLemmas.{distinct-permuted}
use Rattle.alpha_beta.proofs.SearchLaws.{if_ok_map}
use Rattle.alpha_beta.proofs.roots.ordered.Goals as goal

pub returns : goal.returns
returns c =
    let roots = c.args.roots.now in
    let filled : c.extend_from_slice.new.self.items ≡ roots = c.in_ok-extend_from_slice.ensures.items ∙ ap (λ (ms : List Move). ms ++ roots) c.in_ok-moves.ensures.items in
    let sorted = subst (λ (ms : List Move). IsPermutation ms c.sort_by_cached_key.new.self.items) filled c.in_ok-sort_by_cached_key.ensures.permutation in
    let same = subst (λ (ms : List Move). IsPermutation roots ms) (sym c.deref.ensures.value) sorted in
    if_ok_map c.distinct.result (λ moves d. distinct-permuted roots c.deref.result.now moves.items same d) c.distinct.ensures
