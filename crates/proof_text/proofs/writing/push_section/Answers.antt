use Rattle.std.proofs.Common.{ℕ, ◌<◌, List, ◌++◌, length, map, sym, ap, subst, ◌∙◌}
use Rattle.variant_ini.specs.LineView.{pair_view}
use Rattle.variant_ini.specs.Section.{Section}
use Rattle.variant_model.specs.Told.{told}
use Rattle.strategy.specs.Writing.{ended_lines}
use Rattle.proof_text.specs.Writing.{rules_texts}
use Rattle.proof_text.proofs.writing.push_section.Goals as goal

pub rule_pairs-requires : goal.rule_pairs-requires
rule_pairs-requires c = subst (λ (ss : List Section). c.args.section < length ss) (sym c.in_ok-lettered.ensures) c.requires

pub returns : goal.returns
returns c =
    let said =
    ap (map pair_view) c.as_slice.ensures.value
    ∙ c.in_ok-pairs.ensures
    ∙ ap (λ (ss : List Section). told ss c.args.section) c.in_ok-lettered.ensures in
    c.in_ok-push_rules.ensures
    ∙ ap (λ (pairs : List (List ℕ × List ℕ)). c.args.text.now.items ++ ended_lines (rules_texts pairs)) said
