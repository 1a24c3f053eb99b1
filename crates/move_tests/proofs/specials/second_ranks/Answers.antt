use Rattle.std.proofs.Common.{refl}
use Rattle.sample_rules.specs.Shouse.{shouse}
use Rattle.sample_rules.proofs.Fits.{fit-from, opened}
use Rattle.move_tests.proofs.specials.second_ranks.Goals as goal

pub returns : goal.returns
unfolding opened shouse
returns c = rw c.shouse-rules.ensures.is (fit-from (record shouse { no_doubled = shouse.pawn; drop_region = shouse.double_region }) refl)
