use Rattle.std.proofs.Common.{ap, ◌∙◌}
use Rattle.variant_options.specs.Readings.{read_letters}
use Rattle.variant_model.specs.PieceRules.{held_letters}
use Rattle.variant_rules.specs.Said.{resolved_at, value_or}
use Rattle.variant_rules.proofs.kinds.held_by_key.Goals as goal

pub returns : goal.returns
returns c =
    c.held_letters.ensures
    ∙ ap (held_letters (resolved_at c.args.section.now)) (c.letters_or.ensures ∙ ap (λ default. value_or (resolved_at c.args.section.now) c.args.key.now read_letters default) c.mask_of.ensures)
