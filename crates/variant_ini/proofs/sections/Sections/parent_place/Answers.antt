use Rattle.std.proofs.Common.{rules}
use Rattle.variant_ini.proofs.OptionLaws.{is_above, place_read}
use Rattle.variant_ini.proofs.sections.Sections.parent_place.Goals as goal

pub returns-clause-above : goal.returns-clause-above
returns-clause-above c =
    is_above c.self.inside.sections.items c.args.section c.index.result.now
    (place_read c.self.inside.sections.items c.self.inside.parent_places.items c.args.section c.index.result.now c.self.invariant.0 (search rules) c.index.ensures)
