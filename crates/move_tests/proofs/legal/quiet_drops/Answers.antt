use Rattle.std.proofs.Common.{false, refl}
use Rattle.sample_rules.specs.Shouse.{shouse}
use Rattle.sample_rules.proofs.Fits.{fit-from, opened}
use Rattle.move_tests.proofs.legal.quiet_drops.Goals as goal

pub returns : goal.returns
unfolding opened shouse
returns c = rw c.shouse-rules.ensures.is (fit-from (record shouse { drop_checks = false }) refl)
