use Rattle.std.proofs.Common.{false, refl}
use Rattle.sample_rules.specs.Generals.{generals}
use Rattle.sample_rules.proofs.Fits.{fit-from, opened}
use Rattle.board_tests.proofs.next_positions.without_prisoners.Goals as goal

pub returns : goal.returns
unfolding opened generals
returns c = rw c.generals-rules.ensures.is (fit-from (record generals { to_hand = false }) refl)
