use Rattle.std.proofs.Common.{rules}
use Rattle.variant_ini.specs.FirstPlaces.{FindsFirst}
use Rattle.variant_ini.proofs.LoneLemmas.{parents_alone}
use Rattle.variant_ini.proofs.sections.Sections.of_one.Goals as goal

pub invariant_of-result : goal.invariant_of-result
invariant_of-result c =
    let parents = parents_alone c.args.name.now c.args.lines.now c.in_ok-section_with.field-0 c.new-sections.result.items _ c.new-parent_places.result.items _
    c.in_ok-section_with.ensures c.new-sections.ensures.items c.in_ok-push.ensures.items c.new-parent_places.ensures.items c.in_ok-push-2.ensures.items in
    let names : FindsFirst c.in_ok-names.names c.push.new.self.items = search rules in
    (parents, names)
