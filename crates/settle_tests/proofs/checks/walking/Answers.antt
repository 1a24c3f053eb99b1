use Rattle.std.proofs.Common.{false, refl}
use Rattle.sample_rules.specs.Xiangqi.{xiangqi}
use Rattle.sample_rules.proofs.Fits.{fit-from, opened}
use Rattle.settle_tests.proofs.checks.walking.Goals as goal

pub returns : goal.returns
unfolding opened xiangqi
returns c = rw c.xiangqi-rules.ensures.is (fit-from (record xiangqi { flying = false }) refl)
