use Rattle.std.proofs.Common.{true, refl}
use Rattle.sample_rules.specs.Leapers.{leapers}
use Rattle.sample_rules.proofs.Fits.{fit-from, opened}
use Rattle.variant_tests.proofs.fens.wide.Goals as goal

pub returns : goal.returns
unfolding opened leapers
returns c = rw c.leapers-rules.ensures.is (fit-from (record leapers { files = 12; ranks = 10; check_counting = true }) refl)
