use Rattle.std.proofs.Common.{◌≡◌, Some}
use Rattle.variant_ini.proofs.OptionLaws.{value_from, steps_left, IsPlace}
use Rattle.variant_ini.proofs.sections.Sections.resolve.Given as goal

abbrev pub invariant-loop-next : goal.invariant-loop-next
invariant-loop-next l = record {
  within : IsPlace l.self-inside.sections.items l.next;
  value : value_from l.self-inside.sections.items l.key l.next ≡ value_from l.self-inside.sections.items l.key (Some l.fn.section);
}

abbrev pub decreases-loop-next : goal.decreases-loop-next
decreases-loop-next l = steps_left l.next
