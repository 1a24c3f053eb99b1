use Rattle.std.proofs.Common.{◌^◌}
use Rattle.position_key.specs.Key.{board_key}
use Rattle.position_key.proofs.ExchangeLemmas.{both-summed}
use Rattle.position_key.proofs.board_key.board_key.Goals as goal

pub returns : goal.returns
unfolding board_key
returns c =
    let hands = both-summed _ _ _ _ (2 ^ 64) c.hand_sum-white.ensures c.hand_sum-black.ensures in
    both-summed _ _ _ _ (2 ^ 64) c.cells_sum.ensures hands
