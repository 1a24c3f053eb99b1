use Rattle.std.proofs.Common.{◌<◌, List, length, map, sym, ap, subst, ◌∙◌}
use Rattle.variant_ini.specs.LineView.{pair_view}
use Rattle.variant_ini.specs.Section.{Section}
use Rattle.variant_model.specs.Told.{told}
use Rattle.proof_text.proofs.WriteLemmas.{section-pushed}
use Rattle.proof_text.proofs.writing.write_rules.Goals as goal

pub rule_pairs-requires : goal.rule_pairs-requires
rule_pairs-requires c = subst (λ (ss : List Section). c.args.section < length ss) (sym c.in_ok-lettered.ensures) c.requires

pub returns : goal.returns
returns c =
    let said =
    ap (map pair_view) c.as_slice.ensures.value
    ∙ c.in_ok-pairs.ensures
    ∙ ap (λ (ss : List Section). told ss c.args.section) c.in_ok-lettered.ensures in
    section-pushed c.args.sections.now c.args.section c.as_slice.result.now c.new-items.result.items c.push_pairs.new.text.items
    said c.new-items.ensures.items c.in_ok-push_pairs.ensures
