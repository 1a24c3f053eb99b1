use Rattle.std.proofs.Common.{sym, ◌∙◌}
use Rattle.rules_model.specs.Repeats.{repeat_of}
use Rattle.rules_model.proofs.EqualLaws.{repeat-decides}
use Rattle.mate_shards.proofs.same_rules.is_same_repeat.Goals as goal

pub returns : goal.returns
returns c =
    let a = c.args.a.now in
    let b = c.args.b.now in
    let d = repeat-decides (repeat_of a) (repeat_of b) in
    (λ t. d.0 (sym c.repeats.ensures ∙ t), λ e. c.repeats.ensures ∙ d.1 e)
