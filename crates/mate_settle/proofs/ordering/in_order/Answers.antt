use Rattle.std.proofs.Common.{rules, ◌≡◌, map, subst}
use Rattle.std.specs.List.Sorted.{IsPermutation}
use Rattle.std.proofs.lemmas.List.Sorted.{IsPermutation-map}
use Rattle.mate_settle.specs.Known.{chosen_of}
use Rattle.mate_settle.proofs.ordering.in_order.Goals as goal

pub returns : goal.returns
returns c =
    let before : map chosen_of c.in_ok-ranked.ranked.items ≡ c.args.moves.now = c.in_ok-ranked.ensures in
    let after : map chosen_of c.as_slice.result.now ≡ c.in_ok-ordered.ordered.items = search rules in
    subst (λ ms. IsPermutation ms c.in_ok-ordered.ordered.items) before
    (subst (IsPermutation (map chosen_of c.in_ok-ranked.ranked.items)) after
    (IsPermutation-map chosen_of c.in_ok-ranked.ranked.items c.as_slice.result.now (search rules)))
