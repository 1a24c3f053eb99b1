use Rattle.std.proofs.Common.{true, refl}
use Rattle.sample_rules.specs.Chess.{chess}
use Rattle.sample_rules.proofs.Fits.{fit-from, opened}
use Rattle.move_tests.proofs.legal.checks_counted.Goals as goal

pub returns : goal.returns
unfolding opened chess
returns c = rw c.chess-rules.ensures.is (fit-from (record chess { check_counting = true }) refl)
