use Rattle.std.proofs.Common.{map, ap, ◌∙◌}
use Rattle.variant_ini.specs.LineView.{pair_view}
use Rattle.proof_text.proofs.WriteLemmas.{told-all, told-next}
use Rattle.proof_text.proofs.rule_pairs.rule_pairs.Goals as goal

pub loop-place-init : goal.loop-place-init
loop-place-init c = ap (map pair_view) c.new-pairs.ensures.items

pub loop-place-preserved : goal.loop-place-preserved
loop-place-preserved c =
    told-next c.args.sections.now c.args.section c.loop-place.place _ _ c.key_at-key.result.now _
    c.loop-place-test.true c.loop-place.invariant c.key_at-key.ensures c.told_value.ensures c.in_ok-push_rule_pair.ensures

pub returns : goal.returns
returns c =
    c.loop-place.invariant
    ∙ told-all c.args.sections.now c.args.section c.loop-place.place c.loop-place-test.false
