use Rattle.std.proofs.Common.{◌≡◌, ◌<◌, length, sym, ap, ◌∙◌, arith}
use Rattle.variant_ini.specs.OptionValue.{option_value}
use Rattle.variant_ini.proofs.OptionLaws.{steps_left, value_from, own_value, inherited_value, parent_is_place, place_read}
use Rattle.variant_ini.proofs.sections.Sections.resolve.Goals as goal

pub returns-in-Some-last_value : goal.returns-in-Some-last_value
returns-in-Some-last_value c =
    let within : c.in-Some.place < length c.self.inside.sections.items = rw c.in-Some.is at c.loop-next.invariant.within in
    let value : option_value c.self.inside.sections.items c.in-Some.place c.args.key.now ≡ option_value c.self.inside.sections.items c.args.section c.args.key.now = rw c.in-Some.is at c.loop-next.invariant.value in
    rw (← c.self.view_is)
    (own_value c.self.inside.sections.items c.in-Some.place c.index-section.result.now within c.index-section.ensures c.args.key.now c.in-Some-last_value.value.now c.in-Some-last_value.ensures ∙ value)

pub loop-next-smaller : goal.loop-next-smaller
loop-next-smaller c =
    let within : c.in-Some.place < length c.self.inside.sections.items = rw c.in-Some.is at c.loop-next.invariant.within in
    let next = place_read c.self.inside.sections.items c.self.inside.parent_places.items c.in-Some.place c.index-next.result.now c.self.invariant.0 within c.index-next.ensures in
    omega (arith, ap steps_left next, (parent_is_place c.self.inside.sections.items c.in-Some.place within).1, ap steps_left c.in-Some.is)

pub loop-next-preserved : goal.loop-next-preserved
loop-next-preserved c =
    let within : c.in-Some.place < length c.self.inside.sections.items = rw c.in-Some.is at c.loop-next.invariant.within in
    let value : option_value c.self.inside.sections.items c.in-Some.place c.args.key.now ≡ option_value c.self.inside.sections.items c.args.section c.args.key.now = rw c.in-Some.is at c.loop-next.invariant.value in
    let next = place_read c.self.inside.sections.items c.self.inside.parent_places.items c.in-Some.place c.index-next.result.now c.self.invariant.0 within c.index-next.ensures in
    record {
      within = rw next (parent_is_place c.self.inside.sections.items c.in-Some.place within).0;
      value =
          ap (value_from c.self.inside.sections.items c.args.key.now) next
          ∙ sym (inherited_value c.self.inside.sections.items c.in-Some.place c.index-section.result.now within c.index-section.ensures c.args.key.now c.in_default-last_value.ensures)
          ∙ value;
    }
