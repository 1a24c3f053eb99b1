use Rattle.std.proofs.Common.{refl}
use Rattle.sample_rules.specs.Chess.{chess}
use Rattle.sample_rules.proofs.Fits.{fit-from, opened}
use Rattle.move_tests.proofs.legal.nine_ranks.Goals as goal

pub returns : goal.returns
unfolding opened chess
returns c = rw c.chess-rules.ensures.is (fit-from (record chess { ranks = 9 }) refl)
