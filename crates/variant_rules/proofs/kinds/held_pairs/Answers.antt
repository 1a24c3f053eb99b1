use Rattle.std.proofs.Common.{ap, ◌∙◌, filter, rules, tests}
use Rattle.variant_rules.specs.Said.{holds_pair, resolved_at}
use Rattle.std.proofs.lemmas.Fn.{filter_same}
use Rattle.variant_rules.proofs.kinds.held_pairs.Goals as goal

pub returns : goal.returns
unfolding holds_pair
returns c =
    filter_same _ (holds_pair (resolved_at c.args.section.now)) _ (λ x b g k. search (rules, tests)) c.in_ok-pairs.pairs.items _ c.retain.ensures.filtered
    ∙ ap (filter (holds_pair (resolved_at c.args.section.now))) c.in_ok-pairs.ensures
