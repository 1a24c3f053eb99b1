use Rattle.std.proofs.Common.{◌≡◌, take}
use Rattle.variant_ini.specs.Lone.{lone_section}
use Rattle.variant_ini.proofs.sections.section_with.Given as goal

abbrev pub invariant-loop-line : goal.invariant-loop-line
invariant-loop-line l = l.section ≡ lone_section l.name (take l.line-index l.lines)
