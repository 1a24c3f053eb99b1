use Rattle.std.proofs.Common.{refl}
use Rattle.sample_rules.specs.Chess.{chess}
use Rattle.sample_rules.proofs.Fits.{fit-from, opened}
use Rattle.board_tests.proofs.attacks.zoned.Goals as goal

pub returns : goal.returns
unfolding opened chess
returns c = rw c.chess-rules.ensures.is (fit-from (record chess { flag_region = chess.promotion; drop_region = chess.double_region }) refl)
