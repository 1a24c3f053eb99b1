use Rattle.std.proofs.Common.{◌+◌, ◌≤◌, length}
use Rattle.std.specs.Option.{option_copied}
use Rattle.variant_ini.proofs.LineLaws.{bytes_left}
use Rattle.variant_ini.proofs.ReadingLaws.{StandsBelow}
use Rattle.variant_ini.proofs.reading.read_sections.Given as goal

abbrev pub invariant-loop-rest : goal.invariant-loop-rest
invariant-loop-rest l = record {
  stands : StandsBelow l.bytes l.sections.items l.number (option_copied l.rest);
  bound : l.number + bytes_left (option_copied l.rest) ≤ length l.bytes + 1;
}

abbrev pub decreases-loop-rest : goal.decreases-loop-rest
decreases-loop-rest l = bytes_left (option_copied l.rest)
