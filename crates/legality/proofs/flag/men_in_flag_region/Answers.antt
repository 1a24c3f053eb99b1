use Rattle.std.proofs.Common.{ap, ◌∙◌}
use Rattle.rules_model.specs.Regions.{in_region}
use Rattle.legality.proofs.FlagLaws.{flag_among}
use Rattle.legality.proofs.flag.men_in_flag_region.Goals as goal

pub returns : goal.returns
returns c =
    flag_among _ _ _ c.args.sets.now.enemies c.flag_region.result c.and.result c.requires.enemies
    (λ s. c.flag_region.ensures.is s ∙ ap (λ side. in_region c.args.tables.now.flag_region side s) c.other.ensures) c.flag_region.ensures.on_board c.and.ensures
