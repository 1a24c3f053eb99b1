use Rattle.std.proofs.Common.{◌≡◌, reverse, length}
use Rattle.variant_ini.specs.Cuts.{without_blanks}
use Rattle.variant_ini.proofs.cuts.trim_end.Given as goal

abbrev pub invariant-loop-rest : goal.invariant-loop-rest
invariant-loop-rest l = without_blanks (reverse l.rest) ≡ without_blanks (reverse l.bytes)

abbrev pub decreases-loop-rest : goal.decreases-loop-rest
decreases-loop-rest l = length l.rest
