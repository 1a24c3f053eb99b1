use Rattle.std.proofs.Common.{◌≡◌, ◌++◌, List, length, take}
use Rattle.variant_ini.specs.FirstPlaces.{FindsFirst}
use Rattle.variant_ini.specs.Section.{Section}
use Rattle.variant_ini.proofs.names.add_names.Given as goal

abbrev pub invariant-loop-i : goal.invariant-loop-i
invariant-loop-i l = (before : List Section) → length before ≡ l.fn.place → FindsFirst l.fn.names before → FindsFirst l.names (before ++ take l.i l.sections)
