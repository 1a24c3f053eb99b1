use Rattle.std.proofs.Common.{Some, ap, ◌∙◌}
use Rattle.std.specs.Option.{option_map}
use Rattle.variant_model.specs.PieceRules.{kind_rule_of}
use Rattle.variant_rules.specs.Said.{resolved_at, rule_at}
use Rattle.variant_rules.proofs.kinds.kind_at.Goals as goal

pub returns-in_ok-kind_rule-in-Some : goal.returns-in_ok-kind_rule-in-Some
unfolding rule_at
returns-in_ok-kind_rule-in-Some c =
    ap (λ rule. Some rule) c.in_ok-kind_rule-in-Some.ensures
    ∙ ap (option_map (kind_rule_of (resolved_at c.args.section.now) c.args.kind)) c.in-Some.ensures.is

pub returns-in-None : goal.returns-in-None
unfolding rule_at
returns-in-None c = ap (option_map (kind_rule_of (resolved_at c.args.section.now) c.args.kind)) c.in-None.ensures.is
