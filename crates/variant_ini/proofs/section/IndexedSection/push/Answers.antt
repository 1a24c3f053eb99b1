use Rattle.std.proofs.Common.{◌<◌, length, slice_set, true, arith}
use Rattle.variant_ini.specs.Classes.{class_of, MarksClasses}
use Rattle.variant_ini.specs.Section.{key_line}
use Rattle.variant_ini.proofs.ClassLaws.{marks_pushed}
use Rattle.variant_ini.proofs.section.IndexedSection.push.Goals as goal

pub invariant_of-self : goal.invariant_of-self
invariant_of-self c =
    let within : class_of c.args.key.now < length c.self.inside.marks = omega (arith, c.self.told, c.class_of.ensures.below, c.class_of.ensures.is) in
    let marked : MarksClasses (slice_set c.self.inside.marks (class_of c.args.key.now) true) c.push_line.new.lines.items =
    marks_pushed c.push_line.result c.self.inside.marks c.self.inside.lines.items c.push_line.new.lines.items (key_line c.args.key.now c.args.value.now) within c.self.invariant.1 c.push_line.ensures.ok c.push_line.ensures.err in
    (c.push_line.ensures.finds, rw c.class_of.ensures.is marked)
